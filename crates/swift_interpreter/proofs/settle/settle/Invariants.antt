use Rattle.swift_interpreter.proofs.Prelude.{◌≡◌, ℕ, ◌+◌, FollowsCode, Code, settled, state_of}
use Rattle.swift_interpreter.proofs.Settling.{ends_ahead}
use Rattle.swift_interpreter.proofs.settle.settle.Given as goal

abbrev pub invariant-loop-ended : goal.invariant-loop-ended
invariant-loop-ended l = record {
  same : (body : Code) (at : ℕ → Code) → FollowsCode l.instructions body at → settled (at l.turn.frame.instruction) (state_of at l.turn) ≡ settled (at l.fn.turn.frame.instruction) (state_of at l.fn.turn);
  ends : (body : Code) (at : ℕ → Code) → FollowsCode l.instructions body at → ends_ahead (at l.turn.frame.instruction) + l.ended ≡ ends_ahead (at l.fn.turn.frame.instruction);
  fields : l.turn.fields.items ≡ l.fn.turn.fields.items;
  method : l.turn.frame.method ≡ l.fn.turn.frame.method;
}
