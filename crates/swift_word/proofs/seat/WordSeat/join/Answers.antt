use Rattle.std.proofs.Common.{rules}
use Rattle.swift_word.proofs.WordSteps.{joins, loads}
use Rattle.swift_word.proofs.WordCalls.{joined_carries}
use Rattle.swift_word.proofs.seat.WordSeat.join.Goals as goal

pub join_seat-requires : goal.join_seat-requires
join_seat-requires g c = (search rules, search rules, search rules, search rules, joins _ g.T.Named.image _ _ _ _ _ (search rules))

pub load-requires : goal.load-requires
load-requires g c = (search rules, search rules, loads _ g.T.Named.image _ _ _ _)

pub invariant_of-self : goal.invariant_of-self
invariant_of-self g c =
    joined_carries g.T.Named.name g.T.Named.image (g.T.Named.name c.word.inside.table.shared.key.value) c.self.inside.holding c.self.inside.token.me c.join_seat.new.seat.me c.load.new.seat.me c.other.inside.token.me.0 c.self.inside.allowance c.other.inside.allowance
    c.self.invariant.1 c.self.invariant.0 c.other.invariant.0 (search rules) (search rules)
