use Rattle.swift_explorer.proofs.Prelude.{◌+◌, drop, Bool, sym, ap, ◌∙◌, ◌&&◌, terms_of, terms_are_own}
use Rattle.swift_explorer.proofs.MarksRead.{own_from}
use Rattle.swift_explorer.proofs.silent.terms_are_own.Goals as goal

pub loop-formula-preserved : goal.loop-formula-preserved
loop-formula-preserved c =
    let xs = c.args.formulas.now in
    let i = c.loop-formula.formula-index in
    sym (own_from xs i c.formula-item.result c.loop-formula-test.true c.formula-item.is ∙ ap (λ (b : Bool). b && terms_are_own (terms_of (drop (i + 1) xs))) (sym c.if-not-term_is_own.ensures)) ∙ c.loop-formula.invariant
