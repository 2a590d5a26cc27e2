-- Expectations of texts, one after the other.
use Rattle.expectations.proofs.Prelude.{◌≡◌, ℕ, ◌+◌, ◌<◌, List, [], ◌∷◌, ◌++◌, length, map, take, sym, subst, ap, ◌∙◌, append_assoc, get_or, map-append, take_more, ScriptView, AreExpected, IsExpected, no_more}
use Rattle.expectations.specs.declared.expectation.Expectation.{Expectation}
use Rattle.expectations.specs.Questions.{one_more}

pub expected_more : (p : ScriptView) (texts : List (List ℕ)) (es : List Expectation) (text : List ℕ) (e : Expectation) → AreExpected p texts es → IsExpected p text e → AreExpected p (texts ++ text ∷ []) (es ++ e ∷ [])
expected_more p [] [] text e no_more is = one_more is no_more
expected_more p [] (d ∷ es) text e all is = elim all [ ]
expected_more p (t ∷ texts) [] text e all is = elim all [ ]
expected_more p (t ∷ texts) (d ∷ es) text e (one_more that rest) is = one_more that (expected_more p texts es text e rest is)

-- one text further of those that `f` gives, after other texts
pub expected_next : {X : Type 0} (f : X → List ℕ) (p : ScriptView) (xs : List X) (k : ℕ) (d : X) (before : List (List ℕ)) (text : List ℕ) (old new : List Expectation)
    → k < length xs → text ≡ f (get_or xs k d) → (e : Expectation) × IsExpected p text e × (new ≡ old ++ e ∷ [])
    → AreExpected p (before ++ map f (take k xs)) old → AreExpected p (before ++ map f (take (k + 1) xs)) new
expected_next f p xs k d before text old new within is one so_far =
    let texts : before ++ map f (take (k + 1) xs) ≡ (before ++ map f (take k xs)) ++ text ∷ [] =
    ap (λ ys. before ++ map f ys) (take_more xs k d within)
    ∙ ap (λ ys. before ++ ys) (map-append f (take k xs) (get_or xs k d ∷ []))
    ∙ sym (append_assoc before (map f (take k xs)) (f (get_or xs k d) ∷ []))
    ∙ ap (λ t. (before ++ map f (take k xs)) ++ t ∷ []) (sym is) in
    subst (λ ts. AreExpected p ts new) (sym texts) (subst (AreExpected p ((before ++ map f (take k xs)) ++ text ∷ [])) (sym one.2)
    (expected_more p (before ++ map f (take k xs)) old text one.0 so_far one.1))
