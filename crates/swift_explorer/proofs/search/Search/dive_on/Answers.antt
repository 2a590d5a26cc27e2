use Rattle.swift_explorer.proofs.Seeing.{seen_none, seen_on, seen_sound}
use Rattle.swift_explorer.proofs.search.Search.dive_on.Goals as goal

pub loop-init : goal.loop-init
loop-init c = seen_none c.args.self.now c.requires

pub dive_from-requires-clause-sound : goal.dive_from-requires-clause-sound
dive_from-requires-clause-sound c = seen_sound c.args.self.now c.loop.self c.loop.invariant

pub loop-preserved : goal.loop-preserved
loop-preserved c = seen_on c.args.self.now c.loop.self c.dive_from.new.self c.loop.invariant c.in_ok-taken.ensures
