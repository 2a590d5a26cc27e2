use Rattle.expectations.proofs.Prelude.{◌≡◌, length, comment_in}
use Rattle.expectations.proofs.comments.comment_in.Given as goal

abbrev pub invariant-bytes : goal.invariant-bytes
invariant-bytes l = comment_in l.line ≡ comment_in l.rest

abbrev pub decreases-bytes : goal.decreases-bytes
decreases-bytes l = length l.rest
