use Rattle.swift_explorer.proofs.Prelude.{sym, subst, ap, arc_value, ScriptView, StartsHold, AreTold, HaveSilentMarks}
use Rattle.swift_explorer.proofs.RunningAhead.{ahead_none, ahead_on, ahead_some, not_lost}
use Rattle.swift_explorer.proofs.history.SearchedHistory.run_ahead.Goals as goal

pub turns-init : goal.turns-init
turns-init c = ahead_none c.args.self.now c.args.moves.now.items

pub run_and_push-requires : goal.run_and_push-requires
run_and_push-requires c =
    let x = c.args.self.now in
    let y = c.turns.self in
    let ahead = c.turns.invariant in
    let own = sym (ap arc_value ahead.script_is) in
    record {
      history = ahead_some x y c.args.moves.now.items c.turns.moves.items ahead c.requires.history;
      told = subst (λ (s : ScriptView). AreTold s c.args.away.now) own c.requires.told;
      marked = subst (λ (s : ScriptView). HaveSilentMarks s c.args.marks.now) own c.requires.marked;
      hold = subst StartsHold own c.requires.hold;
    }

pub turns-preserved : goal.turns-preserved
turns-preserved c =
    let x = c.args.self.now in
    let y = c.turns.self in
    let z = c.run_and_push.new.self in
    let ran = c.in_ok-ran.ran in
    ahead_on x y z c.args.moves.now.items c.turns.moves.items c.run_and_push.new.moves.items c.turns.invariant (c.in_ok-ran.ensures (not_lost ran c.in_default-ran.not-Lost))
