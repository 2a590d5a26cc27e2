use Rattle.swift_undo.proofs.Prelude.{ℕ, List, subst, terms_of, AreListed, places_of}
use Rattle.swift_undo.proofs.ReadRows.{rows_have}
use Rattle.swift_undo.proofs.rows.rows_of_invariants.Goals as goal

pub invariant_of-result : goal.invariant_of-result
invariant_of-result c = subst (λ (rows : List ℕ). AreListed (places_of c.in_ok-readers.readers.items) rows) c.deref.ensures.value c.in_ok-readers.ensures

pub returns-clause-fit : goal.returns-clause-fit
returns-clause-fit c = rows_have c.in_ok-rows.rows.items (terms_of c.args.invariants.now) c.in_ok-rows.ensures
