use Rattle.swift_ledger.proofs.Prelude.{List, subst, sym, refl, rules, inr, false≢true, IsKnown, IsPriority}
use Rattle.swift_escalation.specs.declared.waits.PriorityEvent.{PriorityEvent as Link}
use Rattle.swift_ledger.proofs.LevelLemmas.{none_level}
use Rattle.swift_ledger.proofs.LinkLemmas.{known_made}
use Rattle.swift_ledger.proofs.levels.level_of.Goals as goal

pub returns-in-None : goal.returns-in-None
returns-in-None c = none_level c.args.log.now.events c.args.task (λ known. false≢true (c.in-None.ensures.known.1 (subst (λ (es : List Link). IsKnown es c.args.task) (sym c.requires) known)))

pub returns-in-Some : goal.returns-in-Some
returns-in-Some c =
    let log = c.args.log.now.events in
    inr (
      c.in-Some.priority,
      subst (λ (es : List Link). IsPriority es c.args.task c.in-Some.priority) c.requires c.in-Some.ensures.priority,
      search rules,
      known_made log c.args.task (subst (λ (es : List Link). IsKnown es c.args.task) c.requires (c.in-Some.ensures.known.0 refl)),
    )
