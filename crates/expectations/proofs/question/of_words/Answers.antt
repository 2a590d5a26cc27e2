use Rattle.expectations.proofs.Prelude.{[], sym, subst, AreExpected, no_more}
use Rattle.expectations.proofs.Asking.{expected_next}
use Rattle.expectations.proofs.question.of_words.Goals as goal

pub loop-word-init : goal.loop-word-init
loop-word-init c = subst (AreExpected c.args.script.now []) (sym c.new-asked.ensures.items) no_more

pub loop-word-preserved : goal.loop-word-preserved
loop-word-preserved c =
    expected_next (λ w. w.now) c.args.script.now c.args.words.now c.loop-word.word-index _ [] c.as_bytes.result.now c.loop-word.asked.items c.add.new.asked.items
    c.loop-word-test.true c.as_bytes.ensures.value c.in_ok-add.ensures c.loop-word.invariant
