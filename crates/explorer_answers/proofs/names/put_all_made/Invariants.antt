use Rattle.explorer_answers.proofs.Prelude.{◌≡◌, ◌++◌, drop, made_texts}
use Rattle.explorer_answers.proofs.names.put_all_made.Given as goal

abbrev pub invariant-loop-place : goal.invariant-loop-place
invariant-loop-place l = l.out.items ++ made_texts l.script l.endings l.place (drop l.place l.endings) ≡ l.initial.out.items ++ made_texts l.script l.endings 0 l.endings
