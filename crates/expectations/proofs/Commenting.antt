-- Expectations of lines, one after the other.
use Rattle.expectations.proofs.Prelude.{◌≡◌, ℕ, ◌+◌, ◌<◌, ◌==◌, Bool, List, ◌++◌, length, drop, sym, ap, ap₂, ◌∙◌, append_assoc, get_or, option_to_list, at_drop_more, expected_from, expected_here}

-- one byte further: what was found, with the expectation of the line that begins there
pub expected_more : (text : List ℕ) (k : ℕ) (begins next : Bool) (old new all : List (List ℕ)) → k < length text → next ≡ (get_or text k 0 == 10)
    → new ≡ old ++ option_to_list (expected_here begins (drop k text)) → old ++ expected_from begins (drop k text) ≡ all → new ++ expected_from next (drop (k + 1) text) ≡ all
expected_more text k begins next old new all within is more before =
    let here = λ (bs : List ℕ). option_to_list (expected_here begins bs) in
    ap₂ (λ (xs : List (List ℕ)) (b : Bool). xs ++ expected_from b (drop (k + 1) text)) (more ∙ ap (λ (xs : List (List ℕ)). old ++ xs) (at_drop_more here text k 0 within)) is
    ∙ append_assoc old _ _
    ∙ sym (at_drop_more (λ (bs : List ℕ). old ++ expected_from begins bs) text k 0 within)
    ∙ before
