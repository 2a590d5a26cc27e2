use Rattle.swift_interpreter.proofs.Prelude.{◌≡◌, ◌+◌, ◌≤◌, ◌++◌, length, take, vec_len, vec_capacity}
use Rattle.swift_interpreter.proofs.saved.push_each.Given as goal

abbrev pub invariant-loop-value : goal.invariant-loop-value
invariant-loop-value g l = record {
  items : l.to.items ≡ l.initial.to.items ++ take l.value-index l.from;
  room : vec_len l.to + length l.from ≤ vec_capacity l.to + l.value-index;
}
