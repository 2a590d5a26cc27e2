use Rattle.script_compiler.proofs.Prelude.{ap, arith, length, ScopeView, PlaceCounts}
use Rattle.script_compiler.proofs.Counting.{here_is}
use Rattle.script_compiler.proofs.Room.{counts_fit}
use Rattle.script_compiler.proofs.lowering.standing.StandingNames.add.Goals as goal

pub count_name-here-requires : goal.count_name-here-requires
count_name-here-requires c =
    let kinds = c.self.inside.scope.kinds in
    let here = here_is kinds c.self.inside.counts.items c.self.inside.here c.self.invariant.are in
    omega (arith, c.requires.room, counts_fit kinds, ap (λ (n : PlaceCounts). n.numbers) here, ap (λ (n : PlaceCounts). n.handles) here, ap (λ (s : ScopeView). length s.kinds) c.self.view_is)

pub returns-in-Err : goal.returns-in-Err
returns-in-Err c = tt
