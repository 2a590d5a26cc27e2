use Rattle.swift_certificate.proofs.Prelude.{subst}
use Rattle.std.specs.Bool.{IsTrue}
use Rattle.std.specs.Cmp.Rules.{signed_items}
use Rattle.swift_certificate.proofs.ends.is_same_row.Goals as goal

pub returns : goal.returns
returns c = λ yes. (signed_items c.args.row.now c.args.other.now).0 (subst IsTrue c.eq.ensures yes)
