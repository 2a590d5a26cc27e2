use Rattle.swift_explorer.proofs.Prelude.{◌+◌, drop, Bool, sym, ap, ◌∙◌, ◌&&◌, terms_of, terms_look_away}
use Rattle.swift_explorer.proofs.LooksAway.{away_from}
use Rattle.swift_explorer.proofs.away.terms_look_away.Goals as goal

pub loop-formula-preserved : goal.loop-formula-preserved
loop-formula-preserved c =
    let xs = c.args.formulas.now in
    let i = c.loop-formula.formula-index in
    sym (away_from c.args.cancelled xs i c.formula-item.result c.loop-formula-test.true c.formula-item.is ∙ ap (λ (b : Bool). b && terms_look_away c.args.cancelled (terms_of (drop (i + 1) xs))) (sym c.if-not-term_looks_away.ensures)) ∙ c.loop-formula.invariant
