use Rattle.nuchapay_runs.proofs.Prelude.{drop, codes, names_view, listed_text}
use Rattle.script_code.specs.Tree.{terms_of}
use Rattle.nuchapay_runs.proofs.Joined.{UpTo}
use Rattle.nuchapay_runs.proofs.statement.write_listed.Given as goal

abbrev pub invariant-loop-formula : goal.invariant-loop-formula
invariant-loop-formula l =
    UpTo l.initial.out l.out (listed_text (names_view l.names) l.between (terms_of (drop l.formula-index l.formulas))) (listed_text (names_view l.names) (codes " ") (terms_of l.formulas))
