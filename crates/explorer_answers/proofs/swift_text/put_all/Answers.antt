use Rattle.explorer_answers.proofs.Prelude.{ℕ, ◌+◌, ◌++◌, List, drop, sym, ap, ◌∙◌, append_assoc, at_drop_more, told_if, told_texts}
use Rattle.explorer_answers.proofs.swift_text.put_all.Goals as goal

pub loop-place-preserved : goal.loop-place-preserved
loop-place-preserved c =
    let p = c.args.script.now in
    let m = c.args.meaning in
    let outcomes = c.args.outcomes.now in
    let k = c.loop-place.place in
    let old = c.loop-place.out.items in
    let o = c.index-outcomes-place.result in
    let rest = told_texts p m (k + 1) (drop (k + 1) outcomes) in
    ap (λ (xs : List ℕ). xs ++ rest) c.in_ok-put_if.ensures
    ∙ append_assoc old (told_if p m k o) rest
    ∙ ap (λ other. old ++ (told_if p m k other ++ rest)) c.index-outcomes-place.is
    ∙ sym (at_drop_more (λ os. old ++ told_texts p m k os) outcomes k o c.loop-place-test.true)
    ∙ c.loop-place.invariant
