-- What a set of keys has.
use Rattle.swift_explorer.proofs.Prelude.{◌≡◌, ◌⊎◌, ◌↔◌, ◌<◌, ℕ, zero, suc, Bool, true, false, List, [], ◌∷◌, length, get_or, refl, sym, subst, ap, ◌∙◌, arith, inl, inr, ◌||◌, Contains, map, not, list_any, bytes_eq, ◌==◌, ◌&&◌, GroupPair, HalfCode, KeyCode}
use Rattle.swift_explorer.specs.declared.key_set.Key.{Key}
use Rattle.std.specs.HashSet.{HashSet, PutsKey}
use Rattle.std.proofs.lemmas.List.Folds.{Any-from_list_any, list_any_at}
use Rattle.std.specs.Cmp.{first_so, second_so, unsigned_Decides}
use Rattle.std.proofs.lemmas.Slice.Eq.{bytes_eq-Decides}
use Rattle.std.proofs.lemmas.List.Sorted.{Contains-permutation, IsPermutation-map, IsPermutation-sym}

-- the bytes of these keys
abbrev pub bytes_of : List Key → List (List ℕ)
bytes_of keys = map (λ v. v.bytes.items) keys

pub any_bytes : (key : List ℕ) (keys : List Key) → list_any (λ v. bytes_eq key v.bytes.items) keys ≡ list_any (bytes_eq key) (bytes_of keys)
any_bytes key [] = refl
any_bytes key (v ∷ keys) = ap (λ b. bytes_eq key v.bytes.items || b) (any_bytes key keys)

pub among_there : (keys : List (List ℕ)) (key : List ℕ) → list_any (bytes_eq key) keys ≡ true → Contains keys key
among_there keys key is =
    let one = Any-from_list_any (bytes_eq key) keys is in
    subst (Contains keys) (sym ((bytes_eq-Decides key one.1).0 one.4)) (one.0, one.2, one.3)

pub there_among : (keys : List (List ℕ)) (key : List ℕ) → Contains keys key → list_any (bytes_eq key) keys ≡ true
there_among keys key has = list_any_at (bytes_eq key) keys has.0 key has.1 ((bytes_eq-Decides key (get_or keys has.0 key)).1 (sym has.2))

by_place : {A : Type 0} (head x : A) (rest : List A) (k : ℕ) → k < length (head ∷ rest) → get_or (head ∷ rest) k x ≡ x → Contains rest x ⊎ (head ≡ x)
by_place head x rest zero low is = inr is
by_place head x rest (suc k) low is = inl (k, omega arith, is)

-- what is among these is the first, or among the others
pub first_or_other : {A : Type 0} (head x : A) (rest : List A) → Contains (head ∷ rest) x → Contains rest x ⊎ (head ≡ x)
first_or_other head x rest has = by_place head x rest has.0 has.1 has.2

one_more : {S : Type 0} (s n : HashSet Key S) (key : Key) (added : Bool) → PutsKey s n key added → (k : List ℕ) → Contains (bytes_of n.keys) k → Contains (bytes_of s.keys) k ⊎ (key.bytes.items ≡ k)
one_more s n key true put k has =
    first_or_other key.bytes.items k (bytes_of s.keys)
    (Contains-permutation (bytes_of n.keys) (bytes_of (key ∷ s.keys)) k
    (IsPermutation-sym (bytes_of (key ∷ s.keys)) (bytes_of n.keys) (IsPermutation-map (λ (v : Key). v.bytes.items) (key ∷ s.keys) n.keys put)) has)
one_more s n key false put k has = inl (subst (λ keys. Contains (bytes_of keys) k) put has)

still : {S : Type 0} (s n : HashSet Key S) (key : Key) (added : Bool) → PutsKey s n key added → (k : List ℕ) → Contains (bytes_of s.keys) k → Contains (bytes_of n.keys) k
still s n key true put k old =
    Contains-permutation (bytes_of (key ∷ s.keys)) (bytes_of n.keys) k (IsPermutation-map (λ (v : Key). v.bytes.items) (key ∷ s.keys) n.keys put)
    (let within = old.1 in (suc old.0, omega arith, old.2))
still s n key false put k old = subst (λ keys. Contains (bytes_of keys) k) (sym put) old

was : (b : Bool) → false ≡ not b → b ≡ true
was true is = refl
was false is = is

there : {S : Type 0} (s n : HashSet Key S) (key : Key) (added : Bool) → PutsKey s n key added → added ≡ not (list_any (λ v. bytes_eq key.bytes.items v.bytes.items) s.keys) → Contains (bytes_of n.keys) key.bytes.items
there s n key true put is =
    Contains-permutation (bytes_of (key ∷ s.keys)) (bytes_of n.keys) key.bytes.items (IsPermutation-map (λ (v : Key). v.bytes.items) (key ∷ s.keys) n.keys put) (zero, omega arith, refl)
there s n key false put is =
    subst (λ keys. Contains (bytes_of keys) key.bytes.items) (sym put) (among_there (bytes_of s.keys) key.bytes.items (sym (any_bytes key.bytes.items s.keys) ∙ was _ is))

-- the keys are those of before and the one that was put in
pub put_keys : {S : Type 0} (s n : HashSet Key S) (key : Key) (added : Bool) → PutsKey s n key added → added ≡ not (list_any (λ v. bytes_eq key.bytes.items v.bytes.items) s.keys)
    → (k : List ℕ) → Contains (bytes_of n.keys) k ↔ (Contains (bytes_of s.keys) k ⊎ (key.bytes.items ≡ k))
put_keys s n key added put is k = (
  one_more s n key added put k,
  λ has. elim has [
    | inl old ↦ still s n key added put k old
    | inr same ↦ subst (Contains (bytes_of n.keys)) same (there s n key added put is)
  ],
)

-- the same of codes

pair_same : (p q : GroupPair) → ((p.left == q.left) && (p.right == q.right)) ≡ true → p ≡ q
pair_same p q is =
    let left : p.left ≡ q.left = (unsigned_Decides p.left q.left).0 (first_so _ _ is) in
    let right : p.right ≡ q.right = (unsigned_Decides p.right q.right).0 (second_so _ _ is) in
    λ i. record { left = left i; right = right i }

abbrev pair_eq : GroupPair → GroupPair → Bool
pair_eq p q = (p.left == q.left) && (p.right == q.right)

abbrev half_eq : HalfCode → HalfCode → Bool
half_eq a b = pair_eq a.left b.left && pair_eq a.right b.right

abbrev code_eq : KeyCode → KeyCode → Bool
code_eq a b = half_eq a.left b.left && half_eq a.right b.right

half_same : (a b : HalfCode) → half_eq a b ≡ true → a ≡ b
half_same a b is =
    let left : a.left ≡ b.left = pair_same a.left b.left (first_so _ _ is) in
    let right : a.right ≡ b.right = pair_same a.right b.right (second_so _ _ is) in
    λ i. record { left = left i; right = right i }

code_same : (a b : KeyCode) → code_eq a b ≡ true → a ≡ b
code_same a b is =
    let left : a.left ≡ b.left = half_same a.left b.left (first_so _ _ is) in
    let right : a.right ≡ b.right = half_same a.right b.right (second_so _ _ is) in
    λ i. record { left = left i; right = right i }

-- a code that is found is there
pub known_code : (codes : List KeyCode) (code : KeyCode) → list_any (code_eq code) codes ≡ true → Contains codes code
known_code codes code is =
    let one = Any-from_list_any (code_eq code) codes is in
    subst (Contains codes) (sym (code_same code one.1 one.4)) (one.0, one.2, one.3)

-- the codes are those of before and the one that was put in
pub codes_added : {S : Type 0} (s n : HashSet KeyCode S) (code : KeyCode) (added : Bool) → PutsKey s n code added → (c : KeyCode) → Contains n.keys c → Contains s.keys c ⊎ (code ≡ c)
codes_added s n code true put c has = first_or_other code c s.keys (Contains-permutation n.keys (code ∷ s.keys) c (IsPermutation-sym (code ∷ s.keys) n.keys put) has)
codes_added s n code false put c has = inl (subst (λ (keys : List KeyCode). Contains keys c) put has)
