use Rattle.swift_journal.proofs.Prelude.{ap, ◌∙◌, append-nil, span_of, record_of, whole}
use Rattle.swift_journal.proofs.TurnsStay.{retracted}
use Rattle.swift_journal.proofs.journal.Journal.retract.Goals as goal

pub returns-in-Some : goal.returns-in-Some
returns-in-Some c =
    retracted span_of record_of c.self.inside.heads.items c.pop.new.self.items (whole c.self.inside.words) (whole c.truncate.new.self) c.self.inside.effects.items c.truncate-in-Some.new.self.items c.in-Some.head c.args.self.now
    c.in-Some.ensures.items (ap whole c.truncate.ensures ∙ append-nil _) c.truncate-in-Some.ensures.items c.self.invariant c.self.view_is
