use Rattle.swift_ledger.proofs.Prelude.{◌<◌, length, ◌∙◌, ap, arith, task_of, tasks_of, length-lives_of}
use Rattle.swift_ledger.proofs.FormLemmas.{known_below}
use Rattle.swift_ledger.proofs.LivesLemmas.{read_life, changed_lives, open_within, changed_open, room_within, changed_reserved}
use Rattle.swift_ledger.proofs.lives.Lives.change.Goals as goal

pub index-requires : goal.index-requires
index-requires c =
    let r = c.requires in
    omega (arith, known_below c.args.roots c.args.log.now.events c.args.event r.log r.fits r.known, c.task-place.ensures, c.args.self.now.lives.ok.0 ∙ ap length r.lives.lives ∙ length-lives_of (tasks_of c.args.roots c.args.log.now.events) c.args.log.now.events)

pub index_mut-requires : goal.index_mut-requires
index_mut-requires c =
    let r = c.requires in
    omega (arith, known_below c.args.roots c.args.log.now.events c.args.event r.log r.fits r.known, c.task-place.ensures, c.args.self.now.lives.ok.0 ∙ ap length r.lives.lives ∙ length-lives_of (tasks_of c.args.roots c.args.log.now.events) c.args.log.now.events)

pub overflow_sub-self : goal.overflow_sub-self
overflow_sub-self c =
    let r = c.requires in
    let below : task_of c.args.event < tasks_of c.args.roots c.args.log.now.events = known_below c.args.roots c.args.log.now.events c.args.event r.log r.fits r.known in
    let before = read_life (tasks_of c.args.roots c.args.log.now.events) c.args.log.now.events c.args.event c.args.self.now.lives.items c.index.result.now c.task-place.result.0 r.lives.lives c.task-place.ensures below c.index.ensures in
    omega (arith, open_within c.args.roots c.args.log.now.events c.args.event c.index.result.now c.args.self.now.open_tasks c.share-2.result below r.lives.open_tasks before c.share-2.ensures)

pub overflow_sub-self-2 : goal.overflow_sub-self-2
overflow_sub-self-2 c =
    let r = c.requires in
    let below : task_of c.args.event < tasks_of c.args.roots c.args.log.now.events = known_below c.args.roots c.args.log.now.events c.args.event r.log r.fits r.known in
    let before = read_life (tasks_of c.args.roots c.args.log.now.events) c.args.log.now.events c.args.event c.args.self.now.lives.items c.index.result.now c.task-place.result.0 r.lives.lives c.task-place.ensures below c.index.ensures in
    room_within c.args.roots c.args.log.now.events c.args.event c.index.result.now c.args.self.now.reserved c.room.result below r.lives.reserved before c.room.ensures

pub returns-clause-lives : goal.returns-clause-lives
returns-clause-lives c =
    let r = c.requires in
    let below : task_of c.args.event < tasks_of c.args.roots c.args.log.now.events = known_below c.args.roots c.args.log.now.events c.args.event r.log r.fits r.known in
    let before = read_life (tasks_of c.args.roots c.args.log.now.events) c.args.log.now.events c.args.event c.args.self.now.lives.items c.index.result.now c.task-place.result.0 r.lives.lives c.task-place.ensures below c.index.ensures in
    record {
      lives = changed_lives c.args.roots c.args.log.now.events c.args.event c.args.self.now.lives.items c.index.result.now c.after-after.result c.task-place.result.0 below r.known r.lives.lives c.task-place.ensures before c.after-after.ensures;
      open_tasks = changed_open c.args.roots c.args.log.now.events c.args.event c.index.result.now c.after-after.result c.args.self.now.open_tasks c.share.result c.share-2.result below r.known r.lives.open_tasks before c.after-after.ensures c.share.ensures c.share-2.ensures;
      reserved = changed_reserved c.args.roots c.args.log.now.events c.args.event c.index.result.now c.after-after.result c.args.self.now.reserved c.room-2.result c.room.result below r.known r.lives.reserved before c.after-after.ensures c.room-2.ensures c.room.ensures;
    }
