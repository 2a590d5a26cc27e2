-- Two lists that have the same elements, and the same first one, have the same others.
use Rattle.swift_executor.proofs.Prelude.{◌≡◌, ℕ, zero, suc, ◌<◌, List, [], ◌∷◌, ◌++◌, length, get_or, set, take, drop, map, refl, sym, ap, subst, ◌∙◌, arith, IsPermutation, set_split, IsPermutation-cons, IsPermutation-keeps, IsPermutation-map, IsPermutation-middle, IsPermutation-refl, IsPermutation-remove, IsPermutation-swap, IsPermutation-sym, IsPermutation-trans, swap_is, swap}

module _ {X : Type 0} where
  -- the first element of a list that has one, or another
  abbrev first : List X → X → X
  first [] d = d
  first (y ∷ ys) d = y

  -- the first two exchanged
  flipped : (y z : X) (xs : List X) → IsPermutation (y ∷ z ∷ xs) (z ∷ y ∷ xs)
  flipped y z xs = IsPermutation-middle (y ∷ []) z xs

  -- two places exchanged
  moves : (xs : List X) (i j : ℕ) (d : X) → i < length xs → j < length xs → IsPermutation xs (set (set xs i (get_or xs j d)) j (get_or xs i d))
  moves xs i j d p q = IsPermutation-swap xs (set (set xs i (get_or xs j d)) j (get_or xs i d)) i j p q (swap_is xs i j d p q)

  module _ (x : X) where
    -- x stands in a list, whose others are these in some order
    abbrev pub Has : List X → List X → Type 0
    Has zs others = (b : List X) × (a : List X) × (zs ≡ b ++ x ∷ a) × IsPermutation others (b ++ a)

    under : (y : X) (zs others : List X) → Has zs others → Has (y ∷ zs) (y ∷ others)
    under y zs others (b, a, e, p) = (y ∷ b, a, ap (λ l. y ∷ l) e, IsPermutation-cons y others (b ++ a) p)

    moved : (zs others others' : List X) → IsPermutation others others' → Has zs others' → Has zs others
    moved zs others others' q (b, a, e, p) = (b, a, e, IsPermutation-trans others others' (b ++ a) q p)

    -- one more comes second
    second : (z w : X) (s others : List X) → Has (z ∷ s) others → Has (z ∷ w ∷ s) (w ∷ others)
    second z w s others ([], a, e, p) =
        let head : z ≡ x = ap (λ l. first l x) e in
        let tail : s ≡ a = ap (drop 1) e in
        ([], w ∷ a, ap (λ y. y ∷ w ∷ s) head ∙ ap (λ l. x ∷ w ∷ l) tail, IsPermutation-cons w others a p)
    second z w s others (v ∷ b, a, e, p) =
        let head : z ≡ v = ap (λ l. first l z) e in
        let tail : s ≡ b ++ x ∷ a = ap (drop 1) e in (
          v ∷ w ∷ b,
          a,
          ap (λ y. y ∷ w ∷ s) head ∙ ap (λ l. v ∷ w ∷ l) tail,
          IsPermutation-trans (w ∷ others) (w ∷ v ∷ (b ++ a)) (v ∷ w ∷ (b ++ a)) (IsPermutation-cons w others (v ∷ (b ++ a)) p) (flipped w v (b ++ a)),
        )

    -- the one in front is exchanged with one behind it
    front : (y d : X) (b a : List X) (m : ℕ) → m < length (b ++ x ∷ a) → Has (get_or (b ++ x ∷ a) m d ∷ set (b ++ x ∷ a) m y) (y ∷ (b ++ a))
    front y d [] a zero lt = ([], y ∷ a, refl, IsPermutation-refl (y ∷ a))
    front y d [] a (suc m) lt = (get_or a m d ∷ [], set a m y, refl, moves (y ∷ a) 0 (suc m) d (omega arith) lt)
    front y d (w ∷ b) a zero lt = (w ∷ y ∷ b, a, refl, flipped y w (b ++ a))
    front y d (w ∷ b) a (suc m) lt =
        moved (get_or (b ++ x ∷ a) m d ∷ w ∷ set (b ++ x ∷ a) m y) (y ∷ w ∷ (b ++ a)) (w ∷ y ∷ (b ++ a)) (flipped y w (b ++ a))
        (second (get_or (b ++ x ∷ a) m d) w (set (b ++ x ∷ a) m y) (y ∷ (b ++ a)) (front y d b a m (omega (arith, lt))))

    -- x itself is exchanged with one behind it
    own : (d : X) (a : List X) (m : ℕ) → m < length a → Has (get_or a m d ∷ set a m x) a
    own d a m lt =
        let z = get_or a m d in (
          z ∷ take m a,
          drop (suc m) a,
          ap (λ l. z ∷ l) (set_split a m x lt),
          IsPermutation-remove a m z lt (same_read a m d lt),
        )
      where
        same_read : (l : List X) (k : ℕ) (e : X) → k < length l → get_or l k e ≡ get_or l k (get_or l k e)
        same_read [] k e less = absurd (omega (arith, less))
        same_read (u ∷ l) zero e less = refl
        same_read (u ∷ l) (suc k) e less = same_read l k e (omega (arith, less))

    stays : (d : X) (b a : List X) (i j : ℕ) → i < length (b ++ x ∷ a) → j < length (b ++ x ∷ a) → Has (set (set (b ++ x ∷ a) i (get_or (b ++ x ∷ a) j d)) j (get_or (b ++ x ∷ a) i d)) (b ++ a)
    stays d [] a zero zero p q = ([], a, refl, IsPermutation-refl a)
    stays d [] a zero (suc m) p q = own d a m (omega (arith, q))
    stays d [] a (suc n) zero p q = own d a n (omega (arith, p))
    stays d [] a (suc n) (suc m) p q = ([], set (set a n (get_or a m d)) m (get_or a n d), refl, moves a n m d (omega (arith, p)) (omega (arith, q)))
    stays d (y ∷ b) a zero zero p q = (y ∷ b, a, refl, IsPermutation-refl (y ∷ (b ++ a)))
    stays d (y ∷ b) a zero (suc m) p q = front y d b a m (omega (arith, q))
    stays d (y ∷ b) a (suc n) zero p q = front y d b a n (omega (arith, p))
    stays d (y ∷ b) a (suc n) (suc m) p q =
        under y (set (set (b ++ x ∷ a) n (get_or (b ++ x ∷ a) m d)) m (get_or (b ++ x ∷ a) n d)) (b ++ a) (stays d b a n m (omega (arith, p)) (omega (arith, q)))

    step : (others l : List X) (i j : ℕ) → i < length l → j < length l → Has l others → Has (swap l i j) others
    step others l i j p q (b, a, e, perm) =
        let here : Has (set (set l i (get_or l j x)) j (get_or l i x)) (b ++ a) =
        subst (λ (zs : List X). Has (set (set zs i (get_or zs j x)) j (get_or zs i x)) (b ++ a)) (sym e)
        (stays x b a i j (subst (λ (zs : List X). i < length zs) e p) (subst (λ (zs : List X). j < length zs) e q)) in
        moved (swap l i j) others (b ++ a) perm (subst (λ (zs : List X). Has zs (b ++ a)) (swap_is l i j x p q) here)

    pub has_others : (xs ys : List X) → IsPermutation (x ∷ xs) ys → Has ys xs
    has_others xs ys perm = IsPermutation-keeps (x ∷ xs) (λ l. Has l xs) ([], xs, refl, IsPermutation-refl xs) (step xs) ys perm

    pub same_others : (xs ys : List X) → IsPermutation (x ∷ xs) (x ∷ ys) → IsPermutation xs ys
    same_others xs ys perm = by (has_others xs (x ∷ ys) perm)
      where
        by : Has (x ∷ ys) xs → IsPermutation xs ys
        by ([], a, e, p) = subst (IsPermutation xs) (sym (ap (drop 1) e)) p
        by (v ∷ b, a, e, p) =
            let head : x ≡ v = ap (λ l. first l x) e in
            let tail : ys ≡ b ++ x ∷ a = ap (drop 1) e in
            let front_is : IsPermutation xs (x ∷ (b ++ a)) = subst (λ (y : X). IsPermutation xs (y ∷ (b ++ a))) (sym head) p in
            subst (IsPermutation xs) (sym tail) (IsPermutation-trans xs (x ∷ (b ++ a)) (b ++ x ∷ a) front_is (IsPermutation-sym (b ++ x ∷ a) (x ∷ (b ++ a)) (IsPermutation-middle b x a)))

module _ {A X : Type 0} (f : A → X) where
  -- of a list whose images are these, one has the first image, and the others have the others
  pub record HasImage (x : X) (others : List X) (ks : List A) : Type 0 where
    pub one : A
    pub rest : List A
    pub all : IsPermutation ks (one ∷ rest)
    pub is : f one ≡ x
    pub images : IsPermutation (map f rest) others

  split_at : (ks : List A) (x : X) (b a : List X) → map f ks ≡ b ++ x ∷ a → (one : A) × (before : List A) × (after : List A) × (ks ≡ before ++ one ∷ after) × (f one ≡ x)
  split_at [] x [] a e = absurd (cc e)
  split_at [] x (v ∷ b) a e = absurd (cc e)
  split_at (u ∷ ks) x [] a e = (u, [], ks, refl, ap (λ l. first l x) e)
  split_at (u ∷ ks) x (v ∷ b) a e =
      let r = split_at ks x b a (ap (drop 1) e) in
      (r.0, u ∷ r.1, r.2, ap (λ l. u ∷ l) r.3, r.4)

  pub has_image : (ks : List A) (x : X) (others : List X) → IsPermutation (map f ks) (x ∷ others) → HasImage x others ks
  has_image ks x others perm =
      let h = has_others x others (map f ks) (IsPermutation-sym (map f ks) (x ∷ others) perm) in
      let r = split_at ks x h.0 h.1 h.2 in
      let one = r.0 in
      let rest = r.1 ++ r.2 in
      let all : IsPermutation ks (one ∷ rest) = subst (λ (l : List A). IsPermutation l (one ∷ rest)) (sym r.3) (IsPermutation-middle r.1 one r.2) in
      let images : IsPermutation (f one ∷ map f rest) (x ∷ others) =
      IsPermutation-trans (f one ∷ map f rest) (map f ks) (x ∷ others) (IsPermutation-sym (map f ks) (f one ∷ map f rest) (IsPermutation-map f ks (one ∷ rest) all)) perm in
      record {
        one = one;
        rest = rest;
        all = all;
        is = r.4;
        images = same_others x (map f rest) others (subst (λ (y : X). IsPermutation (y ∷ map f rest) (x ∷ others)) r.4 images);
      }
