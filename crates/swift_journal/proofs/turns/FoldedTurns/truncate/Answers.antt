use Rattle.swift_journal.proofs.Prelude.{◌<◌, ◌≤◌, length, arith, rules, take_all}
use Rattle.swift_journal.proofs.FoldedStay.{folded_count, left_laid, left_view}
use Rattle.swift_journal.proofs.turns.FoldedTurns.truncate.Goals as goal

pub invariant_of-self : goal.invariant_of-self
invariant_of-self c =
    let lt : c.args.count < length c.self.inside.heads.items = search rules in
    left_laid c.self.inside.heads.items c.truncate-then-count-len-2.new.self.items c.args.count c.index-head.result.now c.self.inside.words.items c.truncate.new.self.items c.self.inside.effects.items c.truncate-then-count-len.new.self.items
    lt c.index-head.ensures c.truncate-then-count-len-2.ensures.items c.truncate.ensures.items c.truncate-then-count-len.ensures.items c.self.invariant

pub returns-then-count-len : goal.returns-then-count-len
returns-then-count-len c =
    let lt : c.args.count < length c.self.inside.heads.items = search rules in
    left_view c.self.inside.heads.items c.truncate-then-count-len-2.new.self.items c.args.count c.index-head.result.now c.self.inside.words.items c.truncate.new.self.items c.self.inside.effects.items c.truncate-then-count-len.new.self.items c.args.self.now
    lt c.index-head.ensures c.truncate-then-count-len-2.ensures.items c.truncate.ensures.items c.truncate-then-count-len.ensures.items c.self.invariant c.self.view_is

pub returns-else-count-len : goal.returns-else-count-len
returns-else-count-len c =
    let t = c.self.inside in
    let le : length t.heads.items ≤ c.args.count = search rules in
    let count = folded_count t.heads.items t.words.items t.effects.items c.args.self.now c.self.view_is in
    cc (take_all c.args.count c.args.self.now (omega (arith, le, count)))
