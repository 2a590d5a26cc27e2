use Rattle.swift_journal.proofs.Prelude.{◌≡◌, ℕ, ℤ, pos, ◌<◌, List, [], ◌∷◌, ◌++◌, length, reverse, get_or, arith, ap, subst, ◌∙◌, rules, w64, to_z, of_z, length-reverse, take_all, pair_words, AreNarrow}
use Rattle.swift_journal.proofs.Pairs.{written_more, narrow_more}
use Rattle.swift_journal.proofs.words.write_bindings.Goals as goal

pub loop-place-preserved : goal.loop-place-preserved
loop-place-preserved c =
    let v = c.entry-value.result.1 in
    let p : ℕ × ℤ = (c.entry-value.result.0.0, v) in
    let ps = reverse c.args.bindings.now in
    let value : to_z w64 (of_z w64 v) ≡ v = search rules in
    let len = length-reverse c.args.bindings.now in
    let h : c.loop-place.place < length ps = omega arith in
    let at : get_or ps c.loop-place.place p ≡ p = c.entry-value.ensures p in
    let written : c.write_pair.new.words.written ≡ c.loop-place.words.written ++ pair_words (p ∷ []) =
    c.in_ok-write_pair.ensures.words ∙ ap (λ (z : ℤ). c.loop-place.words.written ++ pos p.0 ∷ z ∷ []) value in
    record {
      before = c.in_ok-write_pair.ensures.before ∙ c.loop-place.invariant.before;
      words = written_more _ _ _ ps c.loop-place.place p h at c.loop-place.invariant.words written;
      narrow = narrow_more ps c.loop-place.place p h at c.loop-place.invariant.narrow c.in_ok-write_pair.ensures.narrow;
    }

pub returns-clause-words : goal.returns-clause-words
returns-clause-words c =
    let ps = reverse c.args.bindings.now in
    let len = length-reverse c.args.bindings.now in
    c.loop-place.invariant.words ∙ ap (λ (qs : List (ℕ × ℤ)). c.args.words.now.written ++ pair_words qs) (take_all c.loop-place.place ps (omega arith))

pub returns-clause-narrow : goal.returns-clause-narrow
returns-clause-narrow c =
    let ps = reverse c.args.bindings.now in
    let len = length-reverse c.args.bindings.now in
    subst AreNarrow (take_all c.loop-place.place ps (omega arith)) c.loop-place.invariant.narrow
