use Rattle.expectations.proofs.Prelude.{map, take, AreExpected}
use Rattle.expectations.proofs.question.of_words.Given as goal

abbrev pub invariant-loop-word : goal.invariant-loop-word
invariant-loop-word l = AreExpected l.script (map (λ w. w.now) (take l.word-index l.words)) l.asked.items
