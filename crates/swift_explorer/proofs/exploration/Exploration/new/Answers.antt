use Rattle.swift_explorer.proofs.Prelude.{arc_value}
use Rattle.swift_explorer.proofs.Complete.{gone_none}
use Rattle.swift_explorer.proofs.exploration.Exploration.new.Goals as goal

pub invariant_of-result : goal.invariant_of-result
invariant_of-result c =
    gone_none (arc_value c.args.script.now) c.in_ok-search.search c.keep.new.self c.in_ok-first.first c.in_ok-search.ensures.script c.in_ok-first.ensures.first c.in_ok-keep.ensures.keeps
