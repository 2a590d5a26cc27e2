use Rattle.swift_explorer.proofs.Prelude.{◌≡◌, drop, terms_of, terms_are_own}
use Rattle.swift_explorer.proofs.silent.terms_are_own.Given as goal

abbrev pub invariant-loop-formula : goal.invariant-loop-formula
invariant-loop-formula l = terms_are_own (terms_of (drop l.formula-index l.formulas)) ≡ terms_are_own (terms_of l.formulas)
