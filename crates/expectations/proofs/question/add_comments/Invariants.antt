use Rattle.expectations.proofs.Prelude.{◌++◌, ℕ, List, map, take, AreExpected}
use Rattle.expectations.proofs.question.add_comments.Given as goal

abbrev pub invariant-loop-comment : goal.invariant-loop-comment
invariant-loop-comment l = (texts : List (List ℕ)) → AreExpected l.script texts l.initial.asked.items → AreExpected l.script (texts ++ map (λ c. c.text.now) (take l.comment-index l.comments)) l.asked.items
