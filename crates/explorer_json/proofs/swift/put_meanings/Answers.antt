use Rattle.explorer_json.proofs.Prelude.{ℕ, ◌+◌, ◌++◌, List, drop, sym, ap, ◌∙◌, append_assoc, at_drop_more, comma, meaning_json, meanings_json}
use Rattle.explorer_answers.specs.SwiftMeanings.{meaning}
use Rattle.explorer_json.proofs.swift.put_meanings.Goals as goal

pub loop-place-preserved : goal.loop-place-preserved
loop-place-preserved c =
    let outcomes = c.args.outcomes.now in
    let k = c.loop-place.place in
    let old = c.loop-place.out.items in
    let o = c.index-outcomes-place.result in
    let rest = meanings_json (k + 1) (drop (k + 1) outcomes) in
    ap (λ (xs : List ℕ). xs ++ rest) c.in_ok-put_meaning.ensures
    ∙ append_assoc old _ rest
    ∙ ap (λ other. old ++ ((comma 0 k ++ meaning_json (meaning other)) ++ rest)) c.index-outcomes-place.is
    ∙ sym (at_drop_more (λ os. old ++ meanings_json k os) outcomes k o c.loop-place-test.true)
    ∙ c.loop-place.invariant
