use Rattle.swift_explorer.proofs.Prelude.{◌≡◌, ◌<◌, length, refl, subst, sym, ap, arith, arc_value, TaskId, ran, HasFrames, Plays, record_of, at_rest}
use Rattle.swift_steps.specs.declared.played.PlayedTurn.{PlayedTurn}
use Rattle.swift_explorer.proofs.Followed.{history_on, some_of}
use Rattle.swift_explorer.proofs.Used.{used_set, used_short}
use Rattle.swift_explorer.proofs.history.SearchedHistory.run.Goals as goal

pub play-requires : goal.play-requires
play-requires c = at_rest _ _ _ c.args.self.now.steps c.requires.1.followed

pub write_turn-requires : goal.write_turn-requires
write_turn-requires c =
    let plays = some_of _ _ (Plays c.args.self.now.steps c.play.new.self) c.in-Some.is c.in_ok-turn.ensures.plays in
    subst HasFrames (sym plays.last) tt

pub apply_played-requires : goal.apply_played-requires
apply_played-requires c = (c.args.self.now.steps, some_of _ _ (Plays c.args.self.now.steps c.play.new.self) c.in-Some.is c.in_ok-turn.ensures.plays)

pub returns-then-branch-clause-follows : goal.returns-then-branch-clause-follows
returns-then-branch-clause-follows c = λ done blocks h.
    (let x = c.args.self.now in
    let turn = c.in-Some.turn in
    let plays = some_of _ _ (Plays x.steps c.play.new.self) c.in-Some.is c.in_ok-turn.ensures.plays in
    let task = some_of _ _ (λ (t : PlayedTurn). t.task ≡ c.args.task) c.in-Some.is c.in_ok-turn.ensures.task in
    let follows = c.in_ok-apply_played.ensures.follows c.if-branch.true x.steps 0 plays in
    let b = ran turn.place (record_of turn 0 plays.frame) in
    let in_used : turn.place < length x.used.items = omega (arith, c.if-turn-len.false, c.len.ensures) in (
      b,
      ap (λ (t : TaskId). t.0) task,
      history_on (arc_value x.steps.script) blocks x _ b h follows tt (λ e. refl) (used_set x.used.items blocks turn.place (record_of turn 0 plays.frame) in_used h.used) (used_short (arc_value x.steps.script) x.used.items _ _ turn.place h.short refl refl) refl,
      follows.roots_are,
      c.told-told.ensures.broken,
      c.told-told.ensures.quiet,
    ))
