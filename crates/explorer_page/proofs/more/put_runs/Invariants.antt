use Rattle.std.proofs.Common.{◌≡◌, ◌++◌, drop}
use Rattle.explorer_page.specs.Pages.{runs_json}
use Rattle.explorer_page.proofs.more.put_runs.Given as goal

abbrev pub invariant-loop-place : goal.invariant-loop-place
invariant-loop-place l = l.out.items ++ runs_json l.script l.place (drop l.place l.runs) ≡ l.initial.out.items ++ runs_json l.script 0 l.runs
