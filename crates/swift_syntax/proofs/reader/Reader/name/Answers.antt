use Rattle.swift_syntax.specs.ReadersInside.{Grows}
use Rattle.swift_syntax.proofs.Grown.{grows_on, grows_same}
use Rattle.swift_syntax.proofs.Refused.{clash, grows_taken}
use Rattle.swift_syntax.proofs.reader.Reader.name.Goals.{then-here+then-matches, else-here}
use Rattle.swift_syntax.proofs.reader.Reader.name.Goals as goal

pub returns-in-Name-clause-grows : goal.returns-in-Name-clause-grows
returns-in-Name-clause-grows c =
    let g : Grows c.args.self.now c.if-here.self = elim c.if-here.branch [ then-here+then-matches w ↦ rw w.self-is w.refuse.ensures.grows | else-here w ↦ rw w.self-is (grows_same c.args.self.now) ] in
    grows_on g (grows_taken c.take.ensures.taken)

pub returns-in_default-kind : goal.returns-in_default-kind
returns-in_default-kind c =
    let g : Grows c.args.self.now c.if-here.self = elim c.if-here.branch [ then-here+then-matches w ↦ rw w.self-is w.refuse.ensures.grows | else-here w ↦ rw w.self-is (grows_same c.args.self.now) ] in
    record { taken = λ n. clash c.unexpected.new.self.refused n c.unexpected.ensures.noted; grows = grows_on g c.unexpected.ensures.grows }
