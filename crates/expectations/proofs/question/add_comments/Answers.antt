use Rattle.expectations.proofs.Prelude.{refl}
use Rattle.expectations.proofs.Asking.{expected_next}
use Rattle.expectations.proofs.question.add_comments.Goals as goal

pub loop-comment-preserved : goal.loop-comment-preserved
loop-comment-preserved c = λ texts before.
    expected_next (λ x. x.text.now) c.args.script.now c.args.comments.now c.loop-comment.comment-index _ texts _ c.loop-comment.asked.items c.add.new.asked.items
    c.loop-comment-test.true refl c.in_ok-add.ensures (c.loop-comment.invariant texts before)
