use Rattle.swift_explorer.proofs.Prelude.{◌≡◌, ◌++◌, ℤ, List, AreParts, Grows}
use Rattle.swift_explorer.proofs.parts.KeyParts.parts.Given as goal

-- the parts so far, and what is left, are the key
abbrev pub invariant-loop-cut : goal.invariant-loop-cut
invariant-loop-cut l = record {
  grown : Grows l.fn.self l.self;
  parts : (done : List ℤ) × AreParts l.self l.parts.items done × (l.key ≡ done ++ l.rest);
}
