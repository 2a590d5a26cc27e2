use Rattle.swift_explorer.proofs.Prelude.{◌≡◌, drop, terms_of, terms_look_away}
use Rattle.swift_explorer.proofs.away.terms_look_away.Given as goal

abbrev pub invariant-loop-formula : goal.invariant-loop-formula
invariant-loop-formula l = terms_look_away l.cancelled (terms_of (drop l.formula-index l.formulas)) ≡ terms_look_away l.cancelled (terms_of l.formulas)
