use Rattle.expectations.proofs.Prelude.{◌≡◌, ◌++◌, drop, map, rows_of, more_text}
use Rattle.expectations.proofs.text.put_more.Given as goal

abbrev pub invariant-loop-place : goal.invariant-loop-place
invariant-loop-place l = l.out.items ++ more_text l.script l.endings (map (λ rows. rows_of rows.items) l.fields) (drop l.place l.reads) ≡ l.initial.out.items ++ more_text l.script l.endings (map (λ rows. rows_of rows.items) l.fields) l.reads
