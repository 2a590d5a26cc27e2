use Rattle.swift_tasks.proofs.Prelude.{◌≡◌, ℕ, true, ◌∙◌, ap, sym, refl, subst, arith, List, [], ◌∷◌, ◌++◌, Event, Apply, tasks_of, life_of, room_in, room_held, life_of-push_same, tasks_of-push_other, LedgerView, IsMade, counters, fits_turn}
use Rattle.swift_tasks.proofs.Grows.{made-push}
use Rattle.swift_tasks.proofs.Counting.{fits_applied}
use Rattle.swift_tasks.proofs.turns.note_apply.Goals as goal

pub returns-clause-mine : goal.returns-clause-mine
returns-clause-mine c =
    let log = ap (λ (l : LedgerView). l.log) c.note_apply.ensures.log in
    subst (λ (l : List Event). IsMade l c.args.task) (sym log) (made-push c.args.task.0 c.args.ledger.now.log (Apply c.args.task c.args.number) c.requires.mine)

pub returns-clause-take : goal.returns-clause-take
returns-clause-take c = λ script es bodies exit turn.
    let t : ℕ = c.args.task.0 in
    let was : List Event = c.args.ledger.now.log in
    let e : Event = Apply c.args.task c.args.number in
    let log : c.note_apply.new.self.log ≡ was ++ e ∷ [] = ap (λ (l : LedgerView). l.log) c.note_apply.ensures.log in
    let roots : c.note_apply.new.self.roots ≡ c.args.ledger.now.roots = ap (λ (l : LedgerView). l.roots) c.note_apply.ensures.log in
    let held : room_held (life_of t was) ≡ turn.env.room = ap room_in turn.begun in
    let none : room_held (life_of t c.note_apply.new.self.log) ≡ 0 = ap (λ (l : List Event). room_held (life_of t l)) log ∙ ap room_held (life_of-push_same t was e refl) in
    let tasks : tasks_of c.note_apply.new.self.roots c.note_apply.new.self.log ≡ tasks_of c.args.ledger.now.roots was =
    ap (λ (r : ℕ). tasks_of r c.note_apply.new.self.log) roots ∙ ap (tasks_of c.args.ledger.now.roots) log ∙ tasks_of-push_other c.args.ledger.now.roots was e refl in
    record {
      script = script;
      room = turn.env.room;
      fits = subst (λ (l : List Event). fits_turn script t l (counters t l turn.env.room) es exit ≡ true) (sym log) (fits_applied script t c.args.number was turn.env.room es exit turn.fits);
      left = omega (arith, held, none, tasks, c.note_apply.ensures.reserved, c.tasks-limit.ensures.limit);
      started = turn.started;
    }
