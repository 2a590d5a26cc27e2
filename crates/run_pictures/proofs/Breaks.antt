-- Turns of a journal, and journals, of which one is asked after the other.
use Rattle.run_pictures.proofs.Prelude.{◌≡◌, ℕ, ◌+◌, ◌<◌, ◌≤◌, Bool, true, false, if◌then◌else◌, List, [], ◌∷◌, length, drop, get_or, refl, sym, ap, ◌∙◌, inl, inr, arith, cases_lt, at_drop_all, at_drop_more, ScriptView, RecordView, TurnValues, breaks_at, breaks_in, is_broke, is_turn, values_from, values_views}
use Prim.Native.Nat.{min}
use Rattle.swift_journal.specs.Checkpoints.{CheckpointRoomView}

pub turn_more : (t n i : ℕ) (rs : List RecordView) (vs : List TurnValues) (r : RecordView) (v : TurnValues) (here : Bool) → i < length rs → i < length vs → ((d : RecordView) → here ≡ is_turn t n (get_or rs i d))
    → breaks_in t n (drop i rs) (values_views (drop i vs)) ≡ (if here then is_broke (get_or vs i v).outcome else breaks_in t n (drop (i + 1) rs) (values_views (drop (i + 1) vs)))
turn_more t n i rs vs r v here within below is =
    at_drop_more (λ (l : List RecordView). breaks_in t n l (values_views (drop i vs))) rs i r within
    ∙ at_drop_more (λ (w : List TurnValues). breaks_in t n (get_or rs i r ∷ drop (i + 1) rs) (values_views w)) vs i v below
    ∙ ap (λ (b : Bool). if b then is_broke (get_or vs i v).outcome else breaks_in t n (drop (i + 1) rs) (values_views (drop (i + 1) vs))) (sym (is r))

no_values : (t n : ℕ) (rs : List RecordView) → breaks_in t n rs [] ≡ false
no_values t n [] = refl
no_values t n (r ∷ rs) = refl

pub turns_end : (t n i : ℕ) (rs : List RecordView) (vs : List TurnValues) → min (length rs) (length vs) ≤ i → breaks_in t n (drop i rs) (values_views (drop i vs)) ≡ false
turns_end t n i rs vs past = elim (cases_lt i (length rs)) [
  | inl lt ↦
      let short : length vs ≤ i = omega arith in
      at_drop_all (λ (w : List TurnValues). breaks_in t n (drop i rs) (values_views w)) vs i short ∙ no_values t n (drop i rs)
  | inr ge ↦ at_drop_all (λ (l : List RecordView). breaks_in t n l (values_views (drop i vs))) rs i ge
]

-- what is asked of the executor at a place
abbrev pub breaks_here : ScriptView → ℕ → ℕ → CheckpointRoomView → List RecordView → Bool
breaks_here p t n c j = breaks_in t n j (values_from p c.view.fields j)

no_journals : (p : ScriptView) (t n : ℕ) (cs : List CheckpointRoomView) → breaks_at p t n cs [] ≡ false
no_journals p t n [] = refl
no_journals p t n (c ∷ cs) = refl

pub executors_end : (p : ScriptView) (t n i : ℕ) (cs : List CheckpointRoomView) (js : List (List RecordView)) → min (length cs) (length js) ≤ i → breaks_at p t n (drop i cs) (drop i js) ≡ false
executors_end p t n i cs js past = elim (cases_lt i (length cs)) [
  | inl lt ↦
      let short : length js ≤ i = omega arith in
      at_drop_all (λ (l : List (List RecordView)). breaks_at p t n (drop i cs) l) js i short ∙ no_journals p t n (drop i cs)
  | inr ge ↦ at_drop_all (λ (l : List CheckpointRoomView). breaks_at p t n l (drop i js)) cs i ge
]
