-- The turns of a journal that are written ahead, one more at a time.
use Rattle.swift_journal.proofs.Prelude.{◌≡◌, ℕ, ◌+◌, ◌<◌, List, [], ◌∷◌, ◌++◌, length, map, take, get_or, sym, ap, ◌∙◌, arith, append_assoc, false, Result, Ok, Err, OnOk, is_err, map_more, FoldedView, folded_of, RecordView}

-- an element of a list that has one
element_of : {X : Type 0} (xs : List X) (k : ℕ) → k < length xs → X
element_of [] k lt = absurd (omega (arith, lt))
element_of (x ∷ xs) k lt = x

pub ahead_more : (old turns turns' : List FoldedView) (journal : List RecordView) (k : ℕ) (v : FoldedView) → k < length journal → ((d : RecordView) → v ≡ folded_of (get_or journal k d))
    → turns ≡ old ++ map folded_of (take k journal) → turns' ≡ turns ++ v ∷ [] → turns' ≡ old ++ map folded_of (take (k + 1) journal)
ahead_more old turns turns' journal k v lt is before after =
    let d = element_of journal k lt in
    after ∙ ap (λ s. s ++ v ∷ []) before ∙ append_assoc old (map folded_of (take k journal)) (v ∷ [])
    ∙ ap (λ (x : FoldedView). old ++ (map folded_of (take k journal) ++ x ∷ [])) (is d)
    ∙ ap (λ s. old ++ s) (sym (map_more folded_of journal k d lt))

-- what holds of a success, where there is one
pub on_ok : {A E : Type 0} (r : Result A E) (P : Type 0) → OnOk r P → is_err r ≡ false → P
on_ok (Ok x) P is fine = is
on_ok (Err e) P is fine = absurd cc
