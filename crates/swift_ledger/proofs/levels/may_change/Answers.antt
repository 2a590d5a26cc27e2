use Rattle.swift_ledger.proofs.Prelude.{◌++◌, ◌∷◌, [], sym, subst, ◌∙◌, false≢true, ltb-false, Event, Wait, CanNote, AreLevels}
use Rattle.swift_ledger.proofs.LevelLemmas.{not_some, levels_stay, levels_at_wait}
use Rattle.swift_ledger.proofs.levels.may_change.Goals as goal

pub returns-in-Wait : goal.returns-in-Wait
returns-in-Wait c = λ fresh levels are.
    let log = c.args.log.now.events in
    let made : CanNote c.args.roots log (Wait c.in-Wait.task c.in-Wait.awaited) = subst (CanNote c.args.roots log) c.in-Wait.is c.requires.fits in
    subst (λ (e : Event). AreLevels (log ++ e ∷ []) levels) (sym c.in-Wait.is)
    (levels_at_wait log c.in-Wait.task c.in-Wait.awaited c.level_of-in-Wait.result c.level_of.result levels made.0 made.1 c.level_of-in-Wait.ensures c.level_of.ensures
    (ltb-false c.level_of.result c.level_of-in-Wait.result fresh) are)

pub returns : goal.returns
returns c = λ fresh levels are.
    levels_stay c.args.log.now.events c.args.event levels (sym c.link_of.ensures ∙ not_some c.link_of.result (λ known. false≢true (sym fresh ∙ c.is_some.ensures ∙ known))) are
