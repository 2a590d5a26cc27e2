-- What holds of each part of two lists of statements holds of each part of both together.
use Rattle.script_compiler.proofs.Prelude.{Term, Operation, Code, followed, end, act, choice, loop}
use Rattle.script_compiler.specs.Parts.{EachPart}

pub each_then : (Does : Operation → Type 0) (Tests : Term → Type 0) (a b : Code) → EachPart Does Tests a → EachPart Does Tests b → EachPart Does Tests (followed a b)
each_then Does Tests end b h k = k
each_then Does Tests (act d rest) b h k = (h.0, each_then Does Tests rest b h.1 k)
each_then Does Tests (choice t x y rest) b h k = (h.0, h.1, h.2, each_then Does Tests rest b h.3 k)
each_then Does Tests (loop t x rest) b h k = (h.0, h.1, each_then Does Tests rest b h.2 k)
