-- One block more.
use Rattle.swift_course.proofs.Prelude.{◌≡◌, ℕ, ℤ, ◌+◌, List, [], ◌∷◌, ◌++◌, refl, sym, subst, ap, ◌∙◌, append_assoc, add-zero, arith, zero, suc, Option, Some, None, filter_map, cons_option, range_with_len, append-nil, filter_map-append, ScriptView, CheckpointView, RecordView, fields_after, replay, AllStand, Block, Standing, Stands, after_block, after_blocks, AllAllowed}

pub after_push : (script : ScriptView) (s : Standing) (bs : List Block) (b : Block) → after_blocks script s (bs ++ b ∷ []) ≡ after_block script (after_blocks script s bs) b
after_push script s [] b = refl
after_push script s (c ∷ bs) b = after_push script (after_block script s c) bs b

stand_from : (script : ScriptView) (cps : List CheckpointView) (before bs : List Block) (b : Block) → AllStand script cps before bs → Stands script cps (before ++ bs) b → AllStand script cps before (bs ++ b ∷ [])
stand_from script cps before [] b all is = (subst (λ xs. Stands script cps xs b) (append-nil before) is, tt)
stand_from script cps before (c ∷ bs) b all is =
    (all.0, stand_from script cps (before ++ c ∷ []) bs b all.1 (subst (λ xs. Stands script cps xs b) (sym (append_assoc before (c ∷ []) bs)) is))

pub stand_push : (script : ScriptView) (cps : List CheckpointView) (bs : List Block) (b : Block) → AllStand script cps [] bs → Stands script cps bs b → AllStand script cps [] (bs ++ b ∷ [])
stand_push script cps bs b all is = stand_from script cps [] bs b all is

allowed_from : (Allowed : List Block → Block → Type 0) (before bs : List Block) (b : Block) → AllAllowed Allowed before bs → Allowed (before ++ bs) b → AllAllowed Allowed before (bs ++ b ∷ [])
allowed_from Allowed before [] b all is = (subst (λ xs. Allowed xs b) (append-nil before) is, tt)
allowed_from Allowed before (c ∷ bs) b all is = (all.0, allowed_from Allowed (before ++ c ∷ []) bs b all.1 (subst (λ xs. Allowed xs b) (sym (append_assoc before (c ∷ []) bs)) is))

pub allowed_push : (Allowed : List Block → Block → Type 0) (bs : List Block) (b : Block) → AllAllowed Allowed [] bs → Allowed bs b → AllAllowed Allowed [] (bs ++ b ∷ [])
allowed_push Allowed bs b all is = allowed_from Allowed [] bs b all is

pub filter_none : {A B : Type 0} (f : A → Option B) (xs : List A) (x : A) → f x ≡ None → filter_map f (xs ++ x ∷ []) ≡ filter_map f xs
filter_none f xs x is = filter_map-append f xs (x ∷ []) ∙ ap (λ y. filter_map f xs ++ cons_option y []) is ∙ append-nil (filter_map f xs)

pub filter_some : {A B : Type 0} (f : A → Option B) (xs : List A) (x : A) (y : B) → f x ≡ Some y → filter_map f (xs ++ x ∷ []) ≡ filter_map f xs ++ y ∷ []
filter_some f xs x y is = filter_map-append f xs (x ∷ []) ∙ ap (λ z. filter_map f xs ++ cons_option z []) is

pub replay_append : (script : ScriptView) (fields : List (List ℤ)) (rs qs : List RecordView) → replay script fields (rs ++ qs) ≡ replay script (replay script fields rs) qs
replay_append script fields [] qs = refl
replay_append script fields (r ∷ rs) qs = replay_append script (fields_after script fields r) rs qs

next : (a n : ℕ) → a + suc n ≡ a + 1 + n
next a n = omega arith

range_suc : (a n : ℕ) → range_with_len a n ++ (a + n) ∷ [] ≡ range_with_len a (suc n)
range_suc a zero = ap (λ k. k ∷ []) (add-zero a)
range_suc a (suc n) = ap (λ ks. a ∷ ks) (ap (λ k. range_with_len (a + 1) n ++ k ∷ []) (next a n) ∙ range_suc (a + 1) n)

from_zero : (n : ℕ) → 0 + n ≡ n
from_zero n = omega arith

one_more : (n : ℕ) → n + 1 ≡ suc n
one_more n = omega arith

-- the numbers from 0 on, and one more
pub range_next : (n : ℕ) → range_with_len 0 n ++ n ∷ [] ≡ range_with_len 0 (n + 1)
range_next n = ap (λ k. range_with_len 0 n ++ k ∷ []) (sym (from_zero n)) ∙ range_suc 0 n ∙ ap (λ k. range_with_len 0 k) (sym (one_more n))
