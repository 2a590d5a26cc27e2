use Rattle.swift_explorer.proofs.Prelude.{◌≡◌, ◌≤◌, turns_before}
use Rattle.swift_explorer.proofs.text.turns_before.Given as goal

abbrev pub invariant-loop-at : goal.invariant-loop-at
invariant-loop-at l = record {
  counted : l.turns ≡ turns_before l.task.0 l.path l.at;
  few : l.turns ≤ l.at;
}
