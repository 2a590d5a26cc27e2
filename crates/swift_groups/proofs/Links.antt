-- Endings in order, linked by group, after one more.
use Rattle.swift_groups.proofs.Prelude.{◌≡◌, ℕ, zero, suc, ◌+◌, ◌-◌, ◌<◌, List, Option, None, Some, [], ◌∷◌, ◌++◌, length, set, get_or, eqb, refl, ap, sym, subst, ◌∙◌, inl, inr, arith, same_Some, none-some, slice_get_within, slice_get_past, slice_get-get_or, length_push, get_or-set_same, get_or-set_other, get_or_push, get_or_append_left, length-set, cases_eq, cond-true, cond-false, eq-eqb, ne_eqb, slice_get, TaskId, Ending, ended_of, places_from, places_of, last_of, AreLinked, ChildEnding}
use Rattle.swift_groups.proofs.Lists.{slice_get_old, slice_get_new, slice_get_push}

-- an ending of the group, and one of another
pub ended_same : (e : ChildEnding) (es : List ChildEnding) (i : ℕ) → e.group ≡ i → ended_of (e ∷ es) i ≡ (e.task, e.ending) ∷ ended_of es i
ended_same e es i h = cond-true (eqb e.group i) ((e.task, e.ending) ∷ ended_of es i) (ended_of es i) (eq-eqb e.group i h)

pub ended_other : (e : ChildEnding) (es : List ChildEnding) (i : ℕ) → (e.group ≡ i → ⊥) → ended_of (e ∷ es) i ≡ ended_of es i
ended_other e es i h = cond-false (eqb e.group i) ((e.task, e.ending) ∷ ended_of es i) (ended_of es i) (ne_eqb e.group i h)

places_same : (n : ℕ) (e : ChildEnding) (es : List ChildEnding) (i : ℕ) → e.group ≡ i → places_from n (e ∷ es) i ≡ n ∷ places_from (suc n) es i
places_same n e es i h = cond-true (eqb e.group i) (n ∷ places_from (suc n) es i) (places_from (suc n) es i) (eq-eqb e.group i h)

places_other : (n : ℕ) (e : ChildEnding) (es : List ChildEnding) (i : ℕ) → (e.group ≡ i → ⊥) → places_from n (e ∷ es) i ≡ places_from (suc n) es i
places_other n e es i h = cond-false (eqb e.group i) (n ∷ places_from (suc n) es i) (places_from (suc n) es i) (ne_eqb e.group i h)

-- after a push
pub ended_push_same : (es : List ChildEnding) (e : ChildEnding) (i : ℕ) → e.group ≡ i → ended_of (es ++ e ∷ []) i ≡ ended_of es i ++ (e.task, e.ending) ∷ []
ended_push_same [] e i h = ended_same e [] i h
ended_push_same (x ∷ xs) e i h = elim (cases_eq x.group i) [
  | inl s ↦ ended_same x (xs ++ e ∷ []) i s ∙ ap (λ (l : List (TaskId × Ending)). (x.task, x.ending) ∷ l) (ended_push_same xs e i h) ∙ ap (λ (l : List (TaskId × Ending)). l ++ (e.task, e.ending) ∷ []) (sym (ended_same x xs i s))
  | inr o ↦ ended_other x (xs ++ e ∷ []) i o ∙ ended_push_same xs e i h ∙ ap (λ (l : List (TaskId × Ending)). l ++ (e.task, e.ending) ∷ []) (sym (ended_other x xs i o))
]

pub ended_push_other : (es : List ChildEnding) (e : ChildEnding) (i : ℕ) → (e.group ≡ i → ⊥) → ended_of (es ++ e ∷ []) i ≡ ended_of es i
ended_push_other [] e i h = ended_other e [] i h
ended_push_other (x ∷ xs) e i h = elim (cases_eq x.group i) [
  | inl s ↦ ended_same x (xs ++ e ∷ []) i s ∙ ap (λ (l : List (TaskId × Ending)). (x.task, x.ending) ∷ l) (ended_push_other xs e i h) ∙ sym (ended_same x xs i s)
  | inr o ↦ ended_other x (xs ++ e ∷ []) i o ∙ ended_push_other xs e i h ∙ sym (ended_other x xs i o)
]

places_from_push_same : (n m : ℕ) (es : List ChildEnding) (e : ChildEnding) (i : ℕ) → m ≡ n + length es → e.group ≡ i → places_from n (es ++ e ∷ []) i ≡ places_from n es i ++ m ∷ []
places_from_push_same n m [] e i len h = places_same n e [] i h ∙ ap (λ (k : ℕ). k ∷ []) (let z : n ≡ m = omega (arith, len) in z)
places_from_push_same n m (x ∷ xs) e i len h =
    let rest = places_from_push_same (suc n) m xs e i (omega (arith, len)) h in
    elim (cases_eq x.group i) [
      | inl s ↦ places_same n x (xs ++ e ∷ []) i s ∙ ap (λ (l : List ℕ). n ∷ l) rest ∙ ap (λ (l : List ℕ). l ++ m ∷ []) (sym (places_same n x xs i s))
      | inr o ↦ places_other n x (xs ++ e ∷ []) i o ∙ rest ∙ ap (λ (l : List ℕ). l ++ m ∷ []) (sym (places_other n x xs i o))
    ]

places_from_push_other : (n : ℕ) (es : List ChildEnding) (e : ChildEnding) (i : ℕ) → (e.group ≡ i → ⊥) → places_from n (es ++ e ∷ []) i ≡ places_from n es i
places_from_push_other n [] e i h = places_other n e [] i h
places_from_push_other n (x ∷ xs) e i h = elim (cases_eq x.group i) [
  | inl s ↦ places_same n x (xs ++ e ∷ []) i s ∙ ap (λ (l : List ℕ). n ∷ l) (places_from_push_other (suc n) xs e i h) ∙ sym (places_same n x xs i s)
  | inr o ↦ places_other n x (xs ++ e ∷ []) i o ∙ places_from_push_other (suc n) xs e i h ∙ sym (places_other n x xs i o)
]

pub places_push_same : (es : List ChildEnding) (e : ChildEnding) (i : ℕ) → e.group ≡ i → places_of (es ++ e ∷ []) i ≡ places_of es i ++ length es ∷ []
places_push_same es e i h = places_from_push_same 0 (length es) es e i (omega arith) h

pub places_push_other : (es : List ChildEnding) (e : ChildEnding) (i : ℕ) → (e.group ≡ i → ⊥) → places_of (es ++ e ∷ []) i ≡ places_of es i
places_push_other es e i h = places_from_push_other 0 es e i h

pub length_places : (n : ℕ) (es : List ChildEnding) (i : ℕ) → length (places_from n es i) ≡ length (ended_of es i)
length_places n [] i = refl
length_places n (x ∷ xs) i = elim (cases_eq x.group i) [
  | inl s ↦ ap length (places_same n x xs i s) ∙ ap suc (length_places (suc n) xs i) ∙ sym (ap length (ended_same x xs i s))
  | inr o ↦ ap length (places_other n x xs i o) ∙ length_places (suc n) xs i ∙ sym (ap length (ended_other x xs i o))
]

-- the ending at the r-th place of a group
pub record EndingAt (n : ℕ) (es : List ChildEnding) (i r k : ℕ) : Type 0 where
  pub place : ℕ
  pub ending : ChildEnding
  pub is_place : k ≡ n + place
  pub there : slice_get es place ≡ Some ending
  pub group : ending.group ≡ i
  pub listed : slice_get (ended_of es i) r ≡ Some (ending.task, ending.ending)

ending_next : (n : ℕ) (x : ChildEnding) (es : List ChildEnding) (i r s k : ℕ) → slice_get (ended_of (x ∷ es) i) s ≡ slice_get (ended_of es i) r → EndingAt (suc n) es i r k → EndingAt n (x ∷ es) i s k
ending_next n x es i r s k same a = let p = a.is_place in record {
  place = suc a.place;
  ending = a.ending;
  is_place = omega (arith, p);
  there = a.there;
  group = a.group;
  listed = same ∙ a.listed;
}

pub ending_from : (n : ℕ) (es : List ChildEnding) (i r k : ℕ) → slice_get (places_from n es i) r ≡ Some k → EndingAt n es i r k
ending_from n [] i r k h = absurd (cc h)
ending_from n (x ∷ xs) i zero k h = elim (cases_eq x.group i) [
  | inl s ↦ let at : n ≡ k = same_Some n k (sym (ap (λ (l : List ℕ). slice_get l 0) (places_same n x xs i s)) ∙ h) in
      record { place = 0; ending = x; is_place = omega (arith, at); there = refl; group = s; listed = ap (λ (l : List (TaskId × Ending)). slice_get l 0) (ended_same x xs i s) }
  | inr o ↦ ending_next n x xs i 0 0 k (ap (λ (l : List (TaskId × Ending)). slice_get l 0) (ended_other x xs i o))
      (ending_from (suc n) xs i 0 k (sym (ap (λ (l : List ℕ). slice_get l 0) (places_other n x xs i o)) ∙ h))
]
ending_from n (x ∷ xs) i (suc r) k h = elim (cases_eq x.group i) [
  | inl s ↦ ending_next n x xs i r (suc r) k (ap (λ (l : List (TaskId × Ending)). slice_get l (suc r)) (ended_same x xs i s))
      (ending_from (suc n) xs i r k (sym (ap (λ (l : List ℕ). slice_get l (suc r)) (places_same n x xs i s)) ∙ h))
  | inr o ↦ ending_next n x xs i (suc r) (suc r) k (ap (λ (l : List (TaskId × Ending)). slice_get l (suc r)) (ended_other x xs i o))
      (ending_from (suc n) xs i (suc r) k (sym (ap (λ (l : List ℕ). slice_get l (suc r)) (places_other n x xs i o)) ∙ h))
]

-- places are within the endings, and each is of one group and one rank
pub place_within : (es : List ChildEnding) (i r k : ℕ) → slice_get (places_of es i) r ≡ Some k → k < length es
place_within es i r k h = let a = ending_from 0 es i r k h in let p = a.is_place in let w = slice_get_within es a.place a.ending a.there in omega (arith, p, w)

place_group : (es : List ChildEnding) (i j r s k : ℕ) → slice_get (places_of es i) r ≡ Some k → slice_get (places_of es j) s ≡ Some k → i ≡ j
place_group es i j r s k h g =
    let a = ending_from 0 es i r k h in let b = ending_from 0 es j s k g in
    let p = a.is_place in let q = b.is_place in
    let at : a.place ≡ b.place = omega (arith, p, q) in
    let same : a.ending ≡ b.ending = same_Some a.ending b.ending (sym a.there ∙ ap (λ (m : ℕ). slice_get es m) at ∙ b.there) in
    sym a.group ∙ ap (λ (e : ChildEnding). e.group) same ∙ b.group

place_rank : (n : ℕ) (es : List ChildEnding) (i r s k : ℕ) → slice_get (places_from n es i) r ≡ Some k → slice_get (places_from n es i) s ≡ Some k → r ≡ s
place_rank n [] i r s k h g = absurd (cc h)
place_rank n (x ∷ xs) i zero zero k h g = refl
place_rank n (x ∷ xs) i zero (suc s) k h g = elim (cases_eq x.group i) [
  | inl e ↦ let at = same_Some n k (sym (ap (λ (l : List ℕ). slice_get l 0) (places_same n x xs i e)) ∙ h) in
      let later = ending_from (suc n) xs i s k (sym (ap (λ (l : List ℕ). slice_get l (suc s)) (places_same n x xs i e)) ∙ g) in
      let p = later.is_place in absurd (omega (arith, at, p))
  | inr o ↦ place_rank (suc n) xs i 0 (suc s) k (sym (ap (λ (l : List ℕ). slice_get l 0) (places_other n x xs i o)) ∙ h) (sym (ap (λ (l : List ℕ). slice_get l (suc s)) (places_other n x xs i o)) ∙ g)
]
place_rank n (x ∷ xs) i (suc r) zero k h g = elim (cases_eq x.group i) [
  | inl e ↦ let at = same_Some n k (sym (ap (λ (l : List ℕ). slice_get l 0) (places_same n x xs i e)) ∙ g) in
      let later = ending_from (suc n) xs i r k (sym (ap (λ (l : List ℕ). slice_get l (suc r)) (places_same n x xs i e)) ∙ h) in
      let p = later.is_place in absurd (omega (arith, at, p))
  | inr o ↦ place_rank (suc n) xs i (suc r) 0 k (sym (ap (λ (l : List ℕ). slice_get l (suc r)) (places_other n x xs i o)) ∙ h) (sym (ap (λ (l : List ℕ). slice_get l 0) (places_other n x xs i o)) ∙ g)
]
place_rank n (x ∷ xs) i (suc r) (suc s) k h g = elim (cases_eq x.group i) [
  | inl e ↦ ap suc (place_rank (suc n) xs i r s k (sym (ap (λ (l : List ℕ). slice_get l (suc r)) (places_same n x xs i e)) ∙ h) (sym (ap (λ (l : List ℕ). slice_get l (suc s)) (places_same n x xs i e)) ∙ g))
  | inr o ↦ place_rank (suc n) xs i (suc r) (suc s) k (sym (ap (λ (l : List ℕ). slice_get l (suc r)) (places_other n x xs i o)) ∙ h) (sym (ap (λ (l : List ℕ). slice_get l (suc s)) (places_other n x xs i o)) ∙ g)
]

-- after a push, where the place of the new ending was written at the one that was the last of its group
pub linked_push : (es : List ChildEnding) (e : ChildEnding) (after after' : List (Option ℕ)) → AreLinked es after → length after' ≡ suc (length es)
    → ((k : ℕ) → k < length es → (last_of (places_of es e.group) ≡ Some k → ⊥) → get_or after' k None ≡ get_or after k None)
    → ((k : ℕ) → last_of (places_of es e.group) ≡ Some k → get_or after' k None ≡ Some (length es))
    → get_or after' (length es) None ≡ None → AreLinked (es ++ e ∷ []) after'
linked_push es e after after' linked len old link new = record {
  same = let n = length_push es e in omega (arith, len, n);
  next = λ i r k h. elim (cases_eq e.group i) [
    | inr o ↦
        let here = sym (ap (λ (l : List ℕ). slice_get l r) (places_push_other es e i o)) ∙ h in
        old k (place_within es i r k here) (λ last. o (place_group es e.group i _ r k last here))
        ∙ linked.next i r k here ∙ sym (ap (λ (l : List ℕ). slice_get l (suc r)) (places_push_other es e i o))
    | inl s ↦
        let mine : List ℕ = places_of es i in
        let more : places_of (es ++ e ∷ []) i ≡ mine ++ length es ∷ [] = places_push_same es e i s in
        let of_last : last_of (places_of es e.group) ≡ last_of mine = ap (λ (j : ℕ). last_of (places_of es j)) s in
        elim (slice_get_push mine (length es) r k (sym (ap (λ (l : List ℕ). slice_get l r) more) ∙ h)) [
          | inl here ↦ elim (cases_eq (suc r) (length mine)) [
            | inl end ↦
                let at : length mine - 1 ≡ r = omega (arith, end) in
                link k (of_last ∙ ap (λ (m : ℕ). slice_get mine m) at ∙ here)
                ∙ sym (ap (λ (l : List ℕ). slice_get l (suc r)) more ∙ ap (λ (m : ℕ). slice_get (mine ++ length es ∷ []) m) end ∙ slice_get_new mine (length es))
            | inr amid ↦
                let within = slice_get_within mine r k here in
                let below : suc r < length mine = omega (arith, within, amid) in
                let there = slice_get-get_or mine (suc r) 0 below in
                old k (place_within es i r k here) (λ last. let rank = place_rank 0 es i r (length mine - 1) k here (sym of_last ∙ last) in absurd (omega (arith, rank, within, amid)))
                ∙ linked.next i r k here ∙ there
                ∙ sym (ap (λ (l : List ℕ). slice_get l (suc r)) more ∙ slice_get_old mine (length es ∷ []) (suc r) _ there)
          ]
          | inr it ↦
              let n = length_push mine (length es) in let rank = it.0 in
              ap (λ (m : ℕ). get_or after' m None) (sym it.1) ∙ new
              ∙ sym (ap (λ (l : List ℕ). slice_get l (suc r)) more ∙ slice_get_past (mine ++ length es ∷ []) (suc r) (omega (arith, n, rank)))
        ]
  ];
}

-- the first ending of its group
pub linked_first : (es es' : List ChildEnding) (e : ChildEnding) (after after' : List (Option ℕ)) → es' ≡ es ++ e ∷ [] → after' ≡ after ++ None ∷ [] → AreLinked es after → last_of (places_of es e.group) ≡ None
    → AreLinked es' after'
linked_first es es' e after after' shown shown' linked none =
    let len = length_push {X = Option ℕ} after None in let same = linked.same in
    let all : AreLinked (es ++ e ∷ []) (after ++ None ∷ []) = linked_push es e after (after ++ None ∷ []) linked (omega (arith, len, same))
    (λ k h _. get_or_append_left after (None ∷ []) None k (omega (arith, h, same)))
    (λ k h. absurd (none-some k (sym none ∙ h)))
    (get_or_push after None None (length es) same) in
    subst (λ (s : List ChildEnding). AreLinked s after') (sym shown) (subst (λ (s : List (Option ℕ)). AreLinked (es ++ e ∷ []) s) (sym shown') all)

-- a later one
pub linked_later : (es es' : List ChildEnding) (e : ChildEnding) (after after' : List (Option ℕ)) (b n : ℕ) → es' ≡ es ++ e ∷ [] → after' ≡ after ++ None ∷ [] → n ≡ length es → AreLinked es after
    → last_of (places_of es e.group) ≡ Some b → AreLinked es' (set after' b (Some n))
linked_later es es' e after after' b n shown shown' at linked last =
    let len = length_push {X = Option ℕ} after None in let same = linked.same in
    let base : List (Option ℕ) = after ++ None ∷ [] in
    let len' = length-set base b (Some (length es)) in
    let within : b < length es = place_within es e.group _ b last in
    let all : AreLinked (es ++ e ∷ []) (set base b (Some (length es))) = linked_push es e after (set base b (Some (length es))) linked (omega (arith, len, len', same))
    (λ k h other. get_or-set_other base b k (Some (length es)) None (λ (q : k ≡ b). other (last ∙ ap Some (sym q))) ∙ get_or_append_left after (None ∷ []) None k (omega (arith, h, same)))
    (λ k h. let q : k ≡ b = same_Some k b (sym h ∙ last) in ap (λ (m : ℕ). get_or (set base b (Some (length es))) m None) q ∙ get_or-set_same base b (Some (length es)) None (omega (arith, len, same, within)))
    (get_or-set_other base b (length es) (Some (length es)) None (λ (q : length es ≡ b). absurd (omega (arith, q, within))) ∙ get_or_push after None None (length es) same) in
    subst (λ (m : ℕ). AreLinked es' (set after' b (Some m))) (sym at)
    (subst (λ (s : List ChildEnding). AreLinked s (set after' b (Some (length es)))) (sym shown)
    (subst (λ (s : List (Option ℕ)). AreLinked (es ++ e ∷ []) (set s b (Some (length es)))) (sym shown') all))
