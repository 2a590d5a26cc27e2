-- Names that two lists share.
use Rattle.script_names.proofs.Prelude.{◌≡◌, ℕ, zero, suc, Bool, true, false, List, [], ◌∷◌, take, drop, refl, sym, ap, ◌∙◌, ◌||◌, bytes_eq, or_parts, is_among, share_a_name}
use Rattle.std.proofs.lemmas.Cmp.{lists_equiv, nat_eq_equiv}
use Rattle.script_names.proofs.Standing.{none_shared}

same_either_way : (a b : List ℕ) → bytes_eq a b ≡ bytes_eq b a
same_either_way = (lists_equiv nat_eq_equiv).symm

exchange : (a b c d : Bool) → ((a || b) || (c || d)) ≡ ((a || c) || (b || d))
exchange true b c d = refl
exchange false true true d = refl
exchange false true false d = refl
exchange false false true d = refl
exchange false false false d = refl

one_more : (x : List ℕ) (xs ys : List (List ℕ)) → share_a_name (x ∷ xs) ys ≡ (is_among ys x || share_a_name xs ys)
one_more x xs [] = refl
one_more x xs (y ∷ ys) =
    (λ i. (same_either_way y x i || is_among xs y) || one_more x xs ys i) ∙ exchange (bytes_eq x y) (is_among xs y) (is_among ys x) (share_a_name xs ys)

-- it is all one which list is asked for the names of the other
pub either_way : (xs ys : List (List ℕ)) → share_a_name xs ys ≡ share_a_name ys xs
either_way [] ys = none_shared ys
either_way (x ∷ xs) ys = one_more x xs ys ∙ ap (λ b. is_among ys x || b) (either_way xs ys)

-- of fewer names none is shared either
pub fewer : (n : ℕ) (xs ys : List (List ℕ)) → share_a_name xs ys ≡ false → share_a_name xs (take n ys) ≡ false
fewer zero xs ys e = refl
fewer (suc n) xs [] e = refl
fewer (suc n) xs (y ∷ ys) e =
    let parts = or_parts _ _ e in
    (λ i. parts.0 i || fewer n xs ys parts.1 i)

-- where the first names are not shared, the others decide
pub others_decide : (n : ℕ) (xs ys : List (List ℕ)) → share_a_name xs (take n ys) ≡ false → share_a_name xs (drop n ys) ≡ share_a_name xs ys
others_decide zero xs ys e = refl
others_decide (suc n) xs [] e = refl
others_decide (suc n) xs (y ∷ ys) e =
    let parts = or_parts _ _ e in
    others_decide n xs ys parts.1 ∙ (λ i. sym parts.0 i || share_a_name xs ys)
