use Rattle.std.proofs.Common.{IfSome}
use Rattle.script_context.specs.Declarations.{IsNamedAs}
use Rattle.script_hints.proofs.names.unknown.elsewhere.Given as goal

abbrev pub invariant-loop-at : goal.invariant-loop-at
invariant-loop-at l = IfSome l.other (λ found. IsNamedAs l.blamed.tokens.now found.0 l.blamed.found.now found.1)
