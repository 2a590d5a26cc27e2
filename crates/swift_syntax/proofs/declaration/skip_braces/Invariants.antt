use Rattle.std.proofs.Common.{ℕ, IsNone}
use Rattle.swift_syntax.specs.Declarations.{SpellsBalanced}
use Rattle.swift_syntax.specs.ReadersInside.{Grows, lexed_of}
use Rattle.swift_syntax.proofs.declaration.skip_braces.Given as goal

abbrev pub invariant-loop : goal.invariant-loop
invariant-loop l =
    record {
      grows : Grows l.fn.reader l.reader;
      spelled : IsNone l.reader.refused → (j : ℕ) → SpellsBalanced (lexed_of l.fn.reader) l.depth l.reader.at j → SpellsBalanced (lexed_of l.fn.reader) 0 l.fn.reader.at j;
    }
