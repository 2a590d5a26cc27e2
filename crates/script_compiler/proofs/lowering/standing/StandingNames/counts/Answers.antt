use Rattle.script_compiler.proofs.Prelude.{ap, ◌∙◌, ScopeView, counts_of}
use Rattle.script_compiler.proofs.Counting.{here_is}
use Rattle.script_compiler.proofs.lowering.standing.StandingNames.counts.Goals as goal

pub returns : goal.returns
returns c = here_is c.self.inside.scope.kinds c.self.inside.counts.items c.self.inside.here c.self.invariant.are ∙ ap (λ (s : ScopeView). counts_of s.kinds) c.self.view_is
