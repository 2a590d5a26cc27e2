use Rattle.std.proofs.Common.{◌≡◌, ◌++◌, ℕ, List, IsNone}
use Rattle.swift_syntax.specs.ReadersInside.{Grows, lexed_of}
use Rattle.swift_syntax.specs.Statements.{SpellsNames}
use Rattle.swift_syntax.proofs.Arguments.{name_rows}
use Rattle.swift_syntax.proofs.closure.captured.Given as goal

abbrev pub invariant-loop : goal.invariant-loop
invariant-loop l =
    record {
      grows : Grows l.fn.reader l.reader;
      spelled : IsNone l.reader.refused → (so_far : List ℕ) × (l.names.items ≡ name_rows so_far) × ((j : ℕ) (names : List ℕ) → SpellsNames (lexed_of l.fn.reader) l.reader.at j names → SpellsNames (lexed_of l.fn.reader) l.fn.reader.at j (so_far ++ names));
    }
