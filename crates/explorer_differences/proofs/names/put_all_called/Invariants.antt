use Rattle.std.proofs.Common.{◌≡◌, ◌-◌, ◌++◌, length}
use Rattle.explorer_differences.specs.Names.{called_texts}
use Rattle.explorer_differences.proofs.names.put_all_called.Given as goal

abbrev pub invariant-loop-place : goal.invariant-loop-place
invariant-loop-place l =
    l.out.items ++ called_texts l.script l.endings l.place (length l.endings - l.place) ≡ l.initial.out.items ++ called_texts l.script l.endings 0 (length l.endings)
