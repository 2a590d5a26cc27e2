use Rattle.swift_interpreter.proofs.Prelude.{◌≡◌, ℕ, ◌-◌, FollowsCode, Code, fields_before, lent, state_of, turn}
use Rattle.swift_interpreter.proofs.play.play.Given as goal

abbrev pub invariant-loop-used : goal.invariant-loop-used
invariant-loop-used l = record {
  same : (code : Code) (at : ℕ → Code) → FollowsCode l.instructions code at → turn (lent l.outer l.env) (l.limit - l.used) (state_of at l.turn) ≡ turn (lent l.outer l.env) l.limit (state_of at l.fn.turn);
  back : fields_before l.saved l.turn ≡ fields_before l.fn.saved l.fn.turn;
  method : l.turn.frame.method ≡ l.fn.turn.frame.method;
}
