use Rattle.nuchapay_runs.proofs.Prelude.{drop, change_lines, note_lines}
use Rattle.nuchapay_runs.proofs.Joined.{UpTo}
use Rattle.nuchapay_runs.proofs.notes.write_lines.Given as goal

abbrev pub invariant-loop-change : goal.invariant-loop-change
invariant-loop-change l =
    UpTo l.initial.out l.out (note_lines (change_lines l.script l.executor.0 l.front (drop l.change-index l.changes))) (note_lines (change_lines l.script l.executor.0 l.front l.changes))
