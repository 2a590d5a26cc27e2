use Rattle.swift_report.proofs.Prelude.{◌≡◌, ◌+◌, ◌++◌, drop, length, turns_json}
use Rattle.swift_report.proofs.json.turns.turns.Given as goal

abbrev pub invariant-loop-place : goal.invariant-loop-place
invariant-loop-place l = record {
  text : l.out.items ++ turns_json l.script l.first (l.first + l.place) (drop l.place l.journal) ≡ l.initial.out.items ++ turns_json l.script l.first l.first l.journal;
  end : l.place-end ≡ length l.journal;
}
