-- The turns that events apply.
use Rattle.run_page.proofs.Prelude.{◌≡◌, ℕ, ◌+◌, ◌-◌, ◌<◌, ◌≤◌, Bool, if◌then◌else◌, List, [], ◌∷◌, ◌++◌, length, drop, take, get_or, sym, ap, refl, ◌∙◌, arith, Option, Some, None, is_some, length-append, take-append-drop, TaskId, Event, applied_turn, applied_turns, before_others, last_turns, EXPLAINED}
use Rattle.run_page.proofs.Events.{from_place}

-- the turns from one event on
pub applied_from : (k : ℕ) (es : List Event) (e : Event) → k < length es → ((d : Event) → e ≡ get_or es k d) →
    applied_turns (drop k es) ≡ before_others (applied_turn e) (applied_turns (drop (k + 1) es))
applied_from k es e lt is = ap applied_turns (from_place k es e lt is)

counted : (o : Option (TaskId × ℕ)) (turns : List (TaskId × ℕ)) → length (before_others o turns) ≡ (if is_some o then length turns + 1 else length turns)
counted (Some x) turns = omega arith
counted None turns = refl

-- how many turns there are from one event on: one more where that applies one
pub counted_from : (k : ℕ) (es : List Event) (e : Event) (o : Option (TaskId × ℕ)) (b : Bool) → k < length es → ((d : Event) → e ≡ get_or es k d) → o ≡ applied_turn e → b ≡ is_some o →
    length (applied_turns (drop k es)) ≡ (if b then length (applied_turns (drop (k + 1) es)) + 1 else length (applied_turns (drop (k + 1) es)))
counted_from k es e o b lt is turn b_is =
    let turns = applied_turns (drop (k + 1) es) in
    ap (λ (ts : List (TaskId × ℕ)). length ts) (applied_from k es e lt is)
    ∙ ap (λ (x : Option (TaskId × ℕ)). length (before_others x turns)) (sym turn)
    ∙ counted o turns
    ∙ ap (λ (x : Bool). if x then length turns + 1 else length turns) (sym b_is)

before_append : (o : Option (TaskId × ℕ)) (xs ys : List (TaskId × ℕ)) → before_others o (xs ++ ys) ≡ before_others o xs ++ ys
before_append (Some x) xs ys = refl
before_append None xs ys = refl

applied_append : (es fs : List Event) → applied_turns (es ++ fs) ≡ applied_turns es ++ applied_turns fs
applied_append [] fs = refl
applied_append (e ∷ es) fs = ap (before_others (applied_turn e)) (applied_append es fs) ∙ before_append (applied_turn e) (applied_turns es) (applied_turns fs)

drop_front : (xs ys : List (TaskId × ℕ)) → drop (length xs) (xs ++ ys) ≡ ys
drop_front [] ys = refl
drop_front (x ∷ xs) ys = drop_front xs ys

-- as many as are explained are the last ones
pub last_of : (k : ℕ) (es : List Event) → length (applied_turns (drop k es)) ≡ EXPLAINED → applied_turns (drop k es) ≡ last_turns es
last_of k es many =
    let xs = applied_turns (take k es) in
    let ys = applied_turns (drop k es) in
    let whole : applied_turns es ≡ xs ++ ys = ap applied_turns (sym (take-append-drop k es)) ∙ applied_append (take k es) (drop k es) in
    let long : length (xs ++ ys) ≡ length xs + length ys = length-append xs ys in
    let front : length (xs ++ ys) - EXPLAINED ≡ length xs = omega (arith, many, long) in
    sym (ap (λ (ts : List (TaskId × ℕ)). drop (length ts - EXPLAINED) ts) whole ∙ ap (λ (n : ℕ). drop n (xs ++ ys)) front ∙ drop_front xs ys)

-- where there are no more, all of them are
pub last_all : (es : List Event) → length (applied_turns es) ≤ EXPLAINED → applied_turns es ≡ last_turns es
last_all es few =
    let none : length (applied_turns es) - EXPLAINED ≡ 0 = omega (arith, few) in
    sym (ap (λ (n : ℕ). drop n (applied_turns es)) none)
