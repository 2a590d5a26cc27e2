-- Numbers that were written as bytes can be read again.
use Rattle.swift_explorer.proofs.Prelude.{◌≡◌, ℕ, ◌+◌, ◌<◌, ℤ, Bool, true, false, List, [], ◌∷◌, ◌++◌, length, take, get_or, refl, sym, ◌∙◌, ap, arith, append_assoc, append-nil, pos, negsuc, nat_lt, ◌/◌, ◌%◌, ◌^◌, if◌then◌else◌, take_more, bytes_2, bytes_4, bytes_8, packed, all_packed, BytesAreRead}
use Rattle.swift_explorer.proofs.Codes.{halves}

read_2 : (a b : ℕ) (r s : List ℕ) → bytes_2 a ++ r ≡ bytes_2 b ++ s → (a ≡ b) × (r ≡ s)
read_2 a b r s e =
    let high : a / 2 ^ 8 ≡ b / 2 ^ 8 = cc in
    let low : a % 2 ^ 8 ≡ b % 2 ^ 8 = cc in
    (halves (2 ^ 8) a b (omega arith) high low, cc)

read_4 : (a b : ℕ) (r s : List ℕ) → bytes_4 a ++ r ≡ bytes_4 b ++ s → (a ≡ b) × (r ≡ s)
read_4 a b r s e =
    let one = read_2 (a / 2 ^ 16) (b / 2 ^ 16) (bytes_2 (a % 2 ^ 16) ++ r) (bytes_2 (b % 2 ^ 16) ++ s) e in
    let two = read_2 (a % 2 ^ 16) (b % 2 ^ 16) r s one.1 in
    let high : a / 2 ^ 16 ≡ b / 2 ^ 16 = one.0 in
    let low : a % 2 ^ 16 ≡ b % 2 ^ 16 = two.0 in
    (halves (2 ^ 16) a b (omega arith) high low, two.1)

read_8 : (a b : ℕ) (r s : List ℕ) → bytes_8 a ++ r ≡ bytes_8 b ++ s → (a ≡ b) × (r ≡ s)
read_8 a b r s e =
    let one = read_4 (a / 2 ^ 32) (b / 2 ^ 32) (bytes_4 (a % 2 ^ 32) ++ r) (bytes_4 (b % 2 ^ 32) ++ s) e in
    let two = read_4 (a % 2 ^ 32) (b % 2 ^ 32) r s one.1 in
    let high : a / 2 ^ 32 ≡ b / 2 ^ 32 = one.0 in
    let low : a % 2 ^ 32 ≡ b % 2 ^ 32 = two.0 in
    (halves (2 ^ 32) a b (omega arith) high low, two.1)

-- a natural number, by whether it takes one byte
pos_read : (a b : ℕ) (x y : Bool) (r s : List ℕ) → nat_lt a 253 ≡ x → nat_lt b 253 ≡ y
    → (if x then a ∷ [] else 253 ∷ bytes_8 a) ++ r ≡ (if y then b ∷ [] else 253 ∷ bytes_8 b) ++ s → (a ≡ b) × (r ≡ s)
pos_read a b true true r s p q e = (cc, cc)
pos_read a b true false r s p q e = let same : a ≡ 253 = cc in absurd (grind arith)
pos_read a b false true r s p q e = let same : 253 ≡ b = cc in absurd (grind arith)
pos_read a b false false r s p q e = let rest : bytes_8 a ++ r ≡ bytes_8 b ++ s = cc in read_8 a b r s rest

same_head : (m n : ℕ) (r s : List ℕ) → m ∷ r ≡ n ∷ s → m ≡ n
same_head m n r s e = cc

apart : (m n : ℕ) → m ≡ 253 → n ≡ 254 → m ≡ n → ⊥
apart m n p q e = omega (arith, p, q, e)

-- a number that is none starts with 254, which no other does
neg_read : (a b : ℕ) (x : Bool) (r s : List ℕ) → nat_lt a 253 ≡ x → (if x then a ∷ [] else 253 ∷ bytes_8 a) ++ r ≡ 254 ∷ (bytes_8 b ++ s) → ⊥
neg_read a b true r s p e = let same : a ≡ 254 = cc in grind arith
neg_read a b false r s p e = apart 253 254 refl refl (same_head 253 254 (bytes_8 a ++ r) (bytes_8 b ++ s) e)

packed_read : (a b : ℤ) (r s : List ℕ) → packed a ++ r ≡ packed b ++ s → (a ≡ b) × (r ≡ s)
packed_read (pos a) (pos b) r s e = let one = pos_read a b (nat_lt a 253) (nat_lt b 253) r s refl refl e in (ap (λ n. pos n) one.0, one.1)
packed_read (negsuc a) (negsuc b) r s e = let rest : bytes_8 a ++ r ≡ bytes_8 b ++ s = cc in let one = read_8 a b r s rest in (ap (λ n. negsuc n) one.0, one.1)
packed_read (pos a) (negsuc b) r s e = absurd (neg_read a b (nat_lt a 253) r s refl e)
packed_read (negsuc a) (pos b) r s e = absurd (neg_read b a (nat_lt b 253) s r refl (sym e))

none_packed : (z : ℤ) (r : List ℕ) → packed z ++ r ≡ [] → ⊥
none_packed (pos n) r e = by_size (nat_lt n 253) e where
  by_size : (x : Bool) → (if x then n ∷ [] else 253 ∷ bytes_8 n) ++ r ≡ [] → ⊥
  by_size true e = cc
  by_size false e = cc
none_packed (negsuc n) r e = cc

pub bytes_read : BytesAreRead
bytes_read [] [] e = refl
bytes_read [] (y ∷ ys) e = absurd (none_packed y (all_packed ys) (sym e))
bytes_read (x ∷ xs) [] e = absurd (none_packed x (all_packed xs) e)
bytes_read (x ∷ xs) (y ∷ ys) e =
    let one = packed_read x y (all_packed xs) (all_packed ys) e in
    let first : x ≡ y = one.0 in
    let rest : xs ≡ ys = bytes_read xs ys one.1 in
    cc

packed-append : (xs ys : List ℤ) → all_packed (xs ++ ys) ≡ all_packed xs ++ all_packed ys
packed-append [] ys = refl
packed-append (x ∷ xs) ys = ap (λ l. packed x ++ l) (packed-append xs ys) ∙ sym (append_assoc (packed x) (all_packed xs) (all_packed ys))

-- one more number is written
pub packed_step : (xs : List ℤ) (i : ℕ) (d z : ℤ) (k more : List ℕ) → i < length xs → get_or xs i d ≡ z → k ≡ all_packed (take i xs) → more ≡ k ++ packed z → more ≡ all_packed (take (i + 1) xs)
packed_step xs i d z k more low at before written =
    written
    ∙ ap (λ l. l ++ packed z) before
    ∙ ap (λ l. all_packed (take i xs) ++ l) (sym (append-nil (packed z)))
    ∙ sym (packed-append (take i xs) (z ∷ []))
    ∙ ap all_packed (sym (take_more xs i d low ∙ ap (λ x. take i xs ++ x ∷ []) at))
