use Rattle.swift_journal.proofs.Prelude.{subst, IsTrue}
use Rattle.std.specs.Cmp.Rules.{signed_items}
use Rattle.swift_journal.proofs.journal.are_same_words.Goals as goal

pub returns : goal.returns
returns c = λ yes. (signed_items c.args.words.now c.args.others.now).0 (subst IsTrue c.eq.ensures yes)
