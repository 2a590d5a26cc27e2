use Rattle.swift_journal.proofs.Prelude.{◌≡◌, ℕ, ℤ, pos, ◌<◌, List, [], ◌∷◌, ◌++◌, length, map, get_or, arith, ap, subst, ◌∙◌, rules, w64, to_z, of_z, length-map, get_or-map, take_all, pair_of, pair_words, AreNarrow}
use Rattle.swift_journal.proofs.Pairs.{written_more, narrow_more}
use Rattle.swift_journal.proofs.words.write_own.Goals as goal

pub loop-binding-preserved : goal.loop-binding-preserved
loop-binding-preserved c =
    let own = c.args.own.now in
    let k = c.loop-binding.binding-index in
    let b = get_or own k (record { local = record { 0 = 0 }; value = pos 0 }) in
    let p = pair_of b in
    let ps = map pair_of own in
    let value : to_z w64 (of_z w64 b.value) ≡ b.value = search rules in
    let len = length-map own pair_of in
    let h : k < length ps = omega arith in
    let at : get_or ps k p ≡ p = get_or-map pair_of own k _ p (omega arith) in
    let written : c.write_pair.new.words.written ≡ c.loop-binding.words.written ++ pair_words (p ∷ []) =
    c.in_ok-write_pair.ensures.words ∙ ap (λ (z : ℤ). c.loop-binding.words.written ++ pos p.0 ∷ z ∷ []) value in
    record {
      before = c.in_ok-write_pair.ensures.before ∙ c.loop-binding.invariant.before;
      words = written_more _ _ _ ps k p h at c.loop-binding.invariant.words written;
      narrow = narrow_more ps k p h at c.loop-binding.invariant.narrow c.in_ok-write_pair.ensures.narrow;
    }

pub returns-clause-words : goal.returns-clause-words
returns-clause-words c =
    let ps = map pair_of c.args.own.now in
    let len = length-map c.args.own.now pair_of in
    c.loop-binding.invariant.words ∙ ap (λ (qs : List (ℕ × ℤ)). c.args.words.now.written ++ pair_words qs) (take_all c.loop-binding.binding-index ps (omega (arith, len, c.loop-binding-test.false)))

pub returns-clause-narrow : goal.returns-clause-narrow
returns-clause-narrow c =
    let ps = map pair_of c.args.own.now in
    let len = length-map c.args.own.now pair_of in
    subst AreNarrow (take_all c.loop-binding.binding-index ps (omega (arith, len, c.loop-binding-test.false))) c.loop-binding.invariant.narrow
