use Rattle.explorer_answers.proofs.Prelude.{◌≡◌, ◌<◌, ℕ, ◌+◌, ◌++◌, List, drop, length, rules, sym, ap, ◌∙◌, append_assoc, get_or, at_drop_more, ScriptView, made_text, made_texts}
use Rattle.swift_types.specs.declared.outcome.Ending.{Ending}
use Rattle.swift_events.specs.declared.life.Origin.{Origin}
use Rattle.task_names.specs.Names.{maker_of}
use Rattle.explorer_answers.proofs.names.put_all_made.Goals as goal

-- one task more
one_more : (p : ScriptView) (es : List (Origin × Ending)) (k n : ℕ) (d : Origin × Ending) (old new all : List ℕ) → k < length es → n ≡ k
    → new ≡ old ++ made_text p es n (maker_of (get_or es k d).0) → old ++ made_texts p es k (drop k es) ≡ all → new ++ made_texts p es (k + 1) (drop (k + 1) es) ≡ all
one_more p es k n d old new all within number is upto =
    let rest = made_texts p es (k + 1) (drop (k + 1) es) in
    ap (λ (xs : List ℕ). xs ++ rest) (is ∙ ap (λ (m : ℕ). old ++ made_text p es m (maker_of (get_or es k d).0)) number)
    ∙ append_assoc old (made_text p es k (maker_of (get_or es k d).0)) rest
    ∙ sym (at_drop_more (λ (l : List (Origin × Ending)). old ++ made_texts p es k l) es k d within)
    ∙ upto

pub loop-place-preserved : goal.loop-place-preserved
loop-place-preserved c =
    let number : c.in-Ok.number ≡ c.loop-place.place = search rules in
    one_more c.args.script.now c.args.endings.now c.loop-place.place c.in-Ok.number _ c.loop-place.out.items c.put_made.new.out.items _ c.loop-place-test.true number c.in_ok-put_made.ensures c.loop-place.invariant
