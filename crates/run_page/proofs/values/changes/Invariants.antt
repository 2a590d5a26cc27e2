use Rattle.run_page.proofs.Prelude.{◌≡◌, ◌++◌, drop, changes_json}
use Rattle.run_page.proofs.values.changes.Given as goal

abbrev pub invariant-loop-one : goal.invariant-loop-one
invariant-loop-one l = l.out.items ++ changes_json l.script l.executor.0 (drop l.one-index l.changes) ≡ l.initial.out.items ++ changes_json l.script l.executor.0 l.changes
