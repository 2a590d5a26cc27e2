use Rattle.std.proofs.Common.{◌+◌, ◌*◌, IsNone}
use Rattle.swift_syntax.specs.Expressions.{Reads, SpellsSome, table_of}
use Rattle.swift_syntax.specs.ReadersInside.{Grows, ReadsGiven}
use Rattle.swift_syntax.proofs.expression.+expression.Given as goal

abbrev pub decreases-operands : goal.decreases-operands
decreases-operands l = l.depth * 8

abbrev pub decreases-prefixed : goal.decreases-prefixed
decreases-prefixed l = l.depth * 8 + 6

abbrev pub decreases-called : goal.decreases-called
decreases-called l = l.depth * 8 + 3

abbrev pub decreases-named : goal.decreases-named
decreases-named l = l.depth * 8 + 4

abbrev pub decreases-atom : goal.decreases-atom
decreases-atom l = l.depth * 8 + 5

abbrev pub decreases-arguments : goal.decreases-arguments
decreases-arguments l = l.depth * 8 + 2

abbrev pub decreases-argument : goal.decreases-argument
decreases-argument l = l.depth * 8 + 1

abbrev pub decreases-covered : goal.decreases-covered
decreases-covered l = l.depth * 8

abbrev pub decreases-choice : goal.decreases-choice
decreases-choice l = l.depth * 8 + 1

abbrev pub invariant-arguments-loop : goal.invariant-arguments-loop
invariant-arguments-loop l =
    record {
      grows : Grows l.fn.reader l.reader;
      spelled : IsNone l.reader.refused → ReadsGiven l.reader.tokens.now (table_of l.reader.tree.value) l.fn.reader.at l.reader.at l.given.items;
    }

abbrev pub invariant-operands-loop : goal.invariant-operands-loop
invariant-operands-loop l =
    record {
      grows : Grows l.fn.reader l.reader;
      spelled : IsNone l.reader.refused → Reads (SpellsSome l.reader.tokens.now l.loosest) (table_of l.reader.tree.value) l.fn.reader.at l.reader.at l.left;
    }
