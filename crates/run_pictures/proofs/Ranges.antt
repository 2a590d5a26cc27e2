-- Parts of lists, from one place to another.
use Rattle.run_pictures.proofs.Prelude.{◌≡◌, ℕ, suc, ◌+◌, ◌-◌, ◌<◌, ◌≤◌, ℤ, List, [], ◌∷◌, length, take, drop, get_or, sym, ap, ap₂, ◌∙◌, arith, slice_range, drop_more, ScriptView, RecordView, fields_after, replay}

-- an element of a list that has one
pub first_of : {X : Type 0} (xs : List X) (k : ℕ) → k < length xs → X
first_of [] k lt = absurd (omega (arith, lt))
first_of (x ∷ xs) k lt = x

-- a part of a list: its first element, and then the others
pub range_more : {X : Type 0} (xs : List X) (i to : ℕ) (d : X) → i < to → i < length xs → slice_range xs i to ≡ get_or xs i d ∷ slice_range xs (i + 1) to
range_more xs i to d within lt =
    let one_more : to - i ≡ suc (to - (i + 1)) = omega arith in
    ap₂ (λ (k : ℕ) (l : List _). take k l) one_more (drop_more xs i d lt)

pub range_none : {X : Type 0} (xs : List X) (i to : ℕ) → to ≤ i → slice_range xs i to ≡ []
range_none xs i to past =
    let zero : to - i ≡ 0 = omega arith in
    ap (λ (k : ℕ). take k (drop i xs)) zero

-- replaying from a turn on
pub replay_more : (p : ScriptView) (before after : List (List ℤ)) (j : List RecordView) (i to : ℕ) (all : List (List ℤ)) → i < to → i < length j
    → ((d : RecordView) → after ≡ fields_after p before (get_or j i d))
    → replay p before (slice_range j i to) ≡ all → replay p after (slice_range j (i + 1) to) ≡ all
replay_more p before after j i to all within lt is already =
    let d = first_of j i lt in
    ap (λ (f : List (List ℤ)). replay p f (slice_range j (i + 1) to)) (is d)
    ∙ sym (ap (λ (rs : List RecordView). replay p before rs) (range_more j i to d within lt))
    ∙ already
