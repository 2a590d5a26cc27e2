use Rattle.std.proofs.Common.{◌≡◌, ◌≤◌, length}
use Rattle.swift_syntax.specs.Fronts.{block_comment_at}
use Rattle.swift_syntax.proofs.front.block_comment.Given as goal

abbrev pub invariant-loop-rest : goal.invariant-loop-rest
invariant-loop-rest l = record {
  same : block_comment_at l.rest ≡ block_comment_at l.bytes;
  shorter : length l.rest ≤ length l.bytes;
}

abbrev pub decreases-loop-rest : goal.decreases-loop-rest
decreases-loop-rest l = length l.rest
