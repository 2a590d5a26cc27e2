-- Where an answer is that all holds, each verdict says so.
use Rattle.expectations.proofs.Prelude.{◌≡◌, zero, suc, Bool, true, false, List, [], ◌∷◌, map, refl, sym, ap, ◌∙◌, arith, All, Contains, ◌&&◌, not, if◌then◌else◌, list_all}
use Rattle.std.specs.declared.vec.Vec.{Vec}
use Rattle.std.specs.declared.alloc.Global.{Global}
use Rattle.std.proofs.lemmas.List.Elements.{All-nil, All-cons}
use Rattle.expectations.specs.declared.answer.Answer.TheVariants as answer
use Rattle.expectations.specs.declared.expectation.Verdict.{Verdict}
use Rattle.expectations.specs.declared.expectation.Verdict.TheVariants as verdict
use Rattle.expectations.specs.Answers.{all_so, answer_in, is_so, status_of}

both_true : (a b : Bool) → (a && b) ≡ true → (a ≡ true) × (b ≡ true)
both_true true true is = (refl, refl)
both_true true false is = absurd (cc is)
both_true false true is = absurd (cc is)
both_true false false is = absurd (cc is)

-- what is so of each that a list is mapped to is so of what an element of it is mapped to
pub all_mapped : {X Y : Type 0} (f : X → Y) (t : Y → Bool) (xs : List X) (x : X) → list_all t (map f xs) ≡ true → Contains xs x → t (f x) ≡ true
all_mapped f t [] x is there = absurd (omega (arith, there.1))
all_mapped f t (y ∷ xs) x is (zero, low, same) = ap (λ z. t (f z)) (sym same) ∙ (both_true (t (f y)) (list_all t (map f xs)) is).0
all_mapped f t (y ∷ xs) x is (suc k, low, same) = all_mapped f t xs x (both_true (t (f y)) (list_all t (map f xs)) is).1 (k, omega (arith, low), same)

holds_is : (v : Verdict) → is_so v ≡ true → v ≡ verdict.Holds
holds_is verdict.Holds is = refl
holds_is verdict.IsFalse is = absurd (cc is)
holds_is verdict.Overflows is = absurd (cc is)
holds_is verdict.HasFault is = absurd (cc is)

-- each verdict of a list is that it holds
pub each_holds : {X : Type 0} (f : X → Verdict) (xs : List X) → list_all is_so (map f xs) ≡ true → All (λ x. f x ≡ verdict.Holds) xs
each_holds f [] is = All-nil (λ x. f x ≡ verdict.Holds)
each_holds f (x ∷ xs) is =
    let both = both_true (is_so (f x)) (list_all is_so (map f xs)) is in
    All-cons (λ x. f x ≡ verdict.Holds) x xs (holds_is (f x) both.0) (each_holds f xs both.1)

-- An answer that is status 0 is that of a search that came to its end, has found no turn that is undone, and each of whose outcomes is so.
pub record AllHolds (is_complete is_broken : Bool) (outcomes : List (List Verdict)) : Type 0 where
  pub complete : is_complete ≡ true
  pub unbroken : is_broken ≡ false
  pub so : all_so outcomes ≡ true

chosen : (complete broken so : Bool) → status_of (if not broken && so then (if complete then answer.Holds else answer.Undecided) else answer.Fails) ≡ 0 → (complete ≡ true) × (broken ≡ false) × (so ≡ true)
chosen true false true is = (refl, refl, refl)
chosen true false false is = absurd (cc is)
chosen true true so is = absurd (cc is)
chosen false false true is = absurd (cc is)
chosen false false false is = absurd (cc is)
chosen false true so is = absurd (cc is)

pub answer_holds : (is_complete is_broken : Bool) (outcomes : List (List Verdict)) → status_of (answer_in is_complete is_broken outcomes) ≡ 0 → AllHolds is_complete is_broken outcomes
answer_holds is_complete is_broken outcomes is =
    let all = chosen is_complete is_broken (all_so outcomes) is in
    record { complete = all.0; unbroken = all.1; so = all.2 }

-- the verdicts of rows that lie in memory
pub all_so_mapped : (rows : List (Vec Verdict Global)) → list_all (λ row. list_all is_so row.items) rows ≡ all_so (map (λ row. row.items) rows)
all_so_mapped [] = refl
all_so_mapped (row ∷ rows) = ap (λ b. list_all is_so row.items && b) (all_so_mapped rows)
