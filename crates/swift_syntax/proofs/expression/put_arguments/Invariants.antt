use Rattle.std.proofs.Common.{◌≡◌, ◌≤◌, IsNone, length}
use Rattle.std.specs.Prelude.{drop}
use Rattle.swift_syntax.specs.ReadersInside.{AreFrom, Grows}
use Rattle.swift_syntax.proofs.expression.put_arguments.Given as goal

abbrev pub invariant-put : goal.invariant-put
invariant-put l =
    record {
      within : l.left ≤ length l.given;
      grows : Grows l.fn.reader l.reader;
      at : IsNone l.reader.refused → l.reader.at ≡ l.fn.reader.at;
      put : IsNone l.reader.refused → AreFrom l.reader.tree.value.arguments.items l.next (drop l.left l.given);
    }

abbrev pub decreases-put : goal.decreases-put
decreases-put l = l.left
