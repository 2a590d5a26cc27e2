use Rattle.std.proofs.Common.{◌+◌, ◌*◌, IsNone}
use Rattle.swift_syntax.specs.ReadersInside.{Extends, IsBegun}
use Rattle.swift_syntax.proofs.Chains.{Chain}
use Rattle.swift_syntax.proofs.statement.+statement.Given as goal

abbrev pub decreases-valued : goal.decreases-valued
decreases-valued l = l.blocks * 8 + 1

abbrev pub decreases-conditional : goal.decreases-conditional
decreases-conditional l = l.blocks * 8 + 3

abbrev pub decreases-otherwise : goal.decreases-otherwise
decreases-otherwise l = l.blocks * 8 + 2

abbrev pub decreases-tested : goal.decreases-tested
decreases-tested l = l.blocks * 8 + 2

abbrev pub decreases-for_in : goal.decreases-for_in
decreases-for_in l = l.blocks * 8 + 2

abbrev pub decreases-do_catch : goal.decreases-do_catch
decreases-do_catch l = l.blocks * 8 + 2

abbrev pub decreases-returned : goal.decreases-returned
decreases-returned l = l.blocks * 8 + 2

abbrev pub decreases-statement : goal.decreases-statement
decreases-statement l = l.blocks * 8 + 7

abbrev pub decreases-statements : goal.decreases-statements
decreases-statements l = l.blocks * 8

abbrev pub decreases-block : goal.decreases-block
decreases-block l = l.blocks * 8 + 1

abbrev pub invariant-statements-loop : goal.invariant-statements-loop
invariant-statements-loop l =
    record {
      extends : Extends l.fn.reader l.reader;
      chain : IsNone l.reader.refused → IsBegun l.fn.reader → Chain l.fn.reader l.reader l.first l.last;
    }
