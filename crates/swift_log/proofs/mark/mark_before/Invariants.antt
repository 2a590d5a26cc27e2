use Rattle.std.proofs.Common.{◌≤◌, length}
use Rattle.swift_log.proofs.mark.mark_before.Given as goal

abbrev pub invariant-marks : goal.invariant-marks
invariant-marks l = l.near ≤ length l.marks

abbrev pub decreases-marks : goal.decreases-marks
decreases-marks l = l.near
