use Rattle.swift_journal.proofs.Prelude.{◌≡◌, ℕ, ℤ, pos, List, [], ◌∷◌, ◌++◌, get_or, take, sym, ap, ◌∙◌, arith, rules, w64, to_z, of_z, map_more, take_all, narrowed, numbers_of}
use Rattle.swift_journal.proofs.words.read_numbers.Goals as goal

pub loop-word-preserved : goal.loop-word-preserved
loop-word-preserved c =
    let words = c.args.words.now in
    let i = c.loop-word.word-index in
    let w : ℤ = get_or words i (pos 0) in
    let value : to_z w64 (of_z w64 w) ≡ w = search rules in
    let read : c.narrow.result ≡ narrowed w = c.narrow.ensures ∙ ap narrowed value in
    c.in_ok-push.ensures.items ∙ (ap (λ (ns : List ℕ). ns ++ c.narrow.result ∷ []) c.loop-word.invariant
    ∙ (ap (λ (n : ℕ). numbers_of (take i words) ++ n ∷ []) read ∙ sym (map_more narrowed words i (pos 0) c.loop-word-test.true)))

pub returns : goal.returns
returns c =
    c.loop-word.invariant ∙ ap numbers_of (take_all c.loop-word.word-index c.args.words.now (omega (arith, c.loop-word-test.false)))
