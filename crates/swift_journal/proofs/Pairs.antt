-- Bindings and numbers of 32 bits as words, one more at a time.
use Rattle.swift_journal.proofs.Prelude.{◌≡◌, ℕ, zero, suc, ℤ, pos, ◌+◌, ◌<◌, ◌^◌, List, [], ◌∷◌, ◌++◌, length, map, reverse, take, drop, get_or, ltb, refl, sym, ap, subst, ◌∙◌, arith, append_assoc, add-one, map-append, drop-drop, reverse-append, take_more, pair_of, pairs_of, Binding, narrowed, pair_words, pairs_from, first_pair, rounded, AreNarrow}
use Rattle.std.proofs.lemmas.Bool.{cond-true, lt-ltb}

pub narrowed_same : (n : ℕ) → n < 2 ^ 32 → narrowed (pos n) ≡ n
narrowed_same n h = cond-true (ltb n (2 ^ 32)) n 0 (lt-ltb n (2 ^ 32) h)

pub pair_words_push : (ps : List (ℕ × ℤ)) (p : ℕ × ℤ) → pair_words (ps ++ p ∷ []) ≡ pair_words ps ++ pair_words (p ∷ [])
pair_words_push [] p = refl
pair_words_push (q ∷ ps) p = ap (λ ws. pos q.0 ∷ q.1 ∷ ws) (pair_words_push ps p)

pub narrow_push : (ps : List (ℕ × ℤ)) (p : ℕ × ℤ) → AreNarrow ps → narrowed (pos p.0) ≡ p.0 → AreNarrow (ps ++ p ∷ [])
narrow_push ps p h e = map-append rounded ps (p ∷ []) ∙ ap (λ s. s ++ rounded p ∷ []) h ∙ ap (λ (n : ℕ). ps ++ (n, p.1) ∷ []) e

pub pairs_from_more : (k : ℕ) (ws : List ℤ) → pairs_from (k + 1) ws ≡ pairs_from k ws ++ first_pair (drop (k + k) ws) ∷ []
pairs_from_more zero ws = refl
pairs_from_more (suc k) ws =
    let e : 2 + (k + k) ≡ suc k + suc k = omega arith in
    ap (λ (n : ℕ). pairs_from n ws) (add-one (suc k))
    ∙ ap (λ (n : ℕ). first_pair ws ∷ pairs_from n (drop 2 ws)) (sym (add-one k))
    ∙ ap (λ s. first_pair ws ∷ s) (pairs_from_more k (drop 2 ws))
    ∙ ap (λ (s : List ℤ). first_pair ws ∷ (pairs_from k (drop 2 ws) ++ first_pair s ∷ [])) (drop-drop (k + k) 2 ws)
    ∙ ap (λ (n : ℕ). first_pair ws ∷ (pairs_from k (drop 2 ws) ++ first_pair (drop n ws) ∷ [])) e

pub pairs_back : (ps : List (ℕ × ℤ)) (rest : List ℤ) → pairs_from (length ps) (pair_words ps ++ rest) ≡ map rounded ps
pairs_back [] rest = refl
pairs_back (p ∷ ps) rest = ap (λ s. rounded p ∷ s) (pairs_back ps rest)

pub length-pair_words : (ps : List (ℕ × ℤ)) → length (pair_words ps) ≡ length ps + length ps
length-pair_words [] = refl
length-pair_words (p ∷ ps) = let h = length-pair_words ps in omega (arith, h)

-- in reverse
pub map_reverse : {X Y : Type 0} (f : X → Y) (xs : List X) → map f (reverse xs) ≡ reverse (map f xs)
map_reverse f [] = refl
map_reverse f (x ∷ xs) =
    ap (map f) (reverse-append (x ∷ []) xs) ∙ map-append f (reverse xs) (x ∷ []) ∙ ap (λ s. s ++ f x ∷ []) (map_reverse f xs) ∙ sym (reverse-append (f x ∷ []) (map f xs))

pub own_reversed : (own : List Binding) (ps : List (ℕ × ℤ)) → map pair_of own ≡ ps → pairs_of own ≡ reverse ps
own_reversed own ps e = map_reverse pair_of own ∙ ap reverse e

-- a step of a loop that writes bindings
pub written_more : (old before after : List ℤ) (ps : List (ℕ × ℤ)) (k : ℕ) (p : ℕ × ℤ) → k < length ps → get_or ps k p ≡ p
    → before ≡ old ++ pair_words (take k ps) → after ≡ before ++ pair_words (p ∷ []) → after ≡ old ++ pair_words (take (k + 1) ps)
written_more old before after ps k p h at b a =
    a ∙ ap (λ s. s ++ pair_words (p ∷ [])) b ∙ append_assoc old (pair_words (take k ps)) (pair_words (p ∷ []))
    ∙ ap (λ s. old ++ s) (sym (pair_words_push (take k ps) p) ∙ ap pair_words (ap (λ (x : ℕ × ℤ). take k ps ++ x ∷ []) (sym at) ∙ sym (take_more ps k p h)))

pub narrow_more : (ps : List (ℕ × ℤ)) (k : ℕ) (p : ℕ × ℤ) → k < length ps → get_or ps k p ≡ p → AreNarrow (take k ps) → narrowed (pos p.0) ≡ p.0 → AreNarrow (take (k + 1) ps)
narrow_more ps k p h at a n =
    subst AreNarrow (ap (λ (x : ℕ × ℤ). take k ps ++ x ∷ []) (sym at) ∙ sym (take_more ps k p h)) (narrow_push (take k ps) p a n)

-- a step of a loop that reads bindings
pub read_more : (ws rest rest' : List ℤ) (k : ℕ) → rest ≡ drop (k + k) ws → rest' ≡ drop 2 rest → rest' ≡ drop (k + 1 + (k + 1)) ws
read_more ws rest rest' k r r' =
    let e : k + k + 2 ≡ k + 1 + (k + 1) = omega arith in
    r' ∙ ap (drop 2) r ∙ drop-drop 2 (k + k) ws ∙ ap (λ (n : ℕ). drop n ws) e

pub pairs_more : (ws rest : List ℤ) (k : ℕ) (ps : List (ℕ × ℤ)) (p : ℕ × ℤ) → rest ≡ drop (k + k) ws → ps ≡ pairs_from k ws → p ≡ first_pair rest → ps ++ p ∷ [] ≡ pairs_from (k + 1) ws
pairs_more ws rest k ps p r e f =
    ap (λ s. s ++ p ∷ []) e ∙ ap (λ (q : ℕ × ℤ). pairs_from k ws ++ q ∷ []) (f ∙ ap first_pair r) ∙ sym (pairs_from_more k ws)

pub pairs_more_reversed : (ws rest : List ℤ) (k : ℕ) (ps : List (ℕ × ℤ)) (p : ℕ × ℤ) → rest ≡ drop (k + k) ws → ps ≡ reverse (pairs_from k ws) → p ≡ first_pair rest → p ∷ ps ≡ reverse (pairs_from (k + 1) ws)
pairs_more_reversed ws rest k ps p r e f =
    ap (λ s. p ∷ s) e ∙ sym (reverse-append (pairs_from k ws) (p ∷ [])) ∙ ap reverse (pairs_more ws rest k (pairs_from k ws) p r refl f)
