use Rattle.swift_explorer.proofs.Prelude.{on_ok_weaker}
use Rattle.swift_explorer.proofs.Seeing.{seen_none, seen_on, seen_sound}
use Rattle.swift_explorer.proofs.search.Search.dive.Goals as goal

pub returns-then-from-len : goal.returns-then-from-len
returns-then-from-len c = seen_none c.args.self.now c.requires

pub dive_on-requires : goal.dive_on-requires
dive_on-requires c = seen_sound c.args.self.now c.dive_from.new.self c.in_ok-taken.ensures

pub returns : goal.returns
returns c = on_ok_weaker c.dive_on.result (λ more. seen_on c.args.self.now c.dive_from.new.self c.dive_on.new.self c.in_ok-taken.ensures more) c.dive_on.ensures
