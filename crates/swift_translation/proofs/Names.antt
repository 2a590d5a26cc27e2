-- Names that are spelled the same are one.
use Rattle.std.proofs.Common.{◌≡◌, ◌∙◌, ◌<◌, ◌≤◌, ◌^◌, ◌==◌, ◌&&◌, ◌||◌, not, ℕ, Bool, true, false, List, [], ◌∷◌, ◌++◌, codes, decimal, refl, sym, ap, subst, arith, length, append_assoc, if◌then◌else◌}
use Rattle.std.proofs.lemmas.Bool.{false≢true}
use Rattle.std.proofs.lemmas.Bool.Decides.{nat_tests}
use Rattle.std.proofs.lemmas.Fmt.{decimal_is_IsNumeral, decimal_injective}
use Rattle.std.proofs.lemmas.Slice.Eq.{bytes_eq-Decides}
use Rattle.std.proofs.lemmas.Str.Parse.{digit_from_value}
use Rattle.std.specs.List.{list_any}
use Rattle.std.specs.Str.Parse.{AllDigits}
use Rattle.std.specs.Prelude.{bytes_eq, nat_le}
use Rattle.swift_translation.specs.declared.word.TheConstants.{WORDS}
use Rattle.swift_translation.specs.Names.{NameView, Named, Temporary, Caught, Result, Done, Printed, Precondition, IsNumbered, begins, ends_low, file_name, is_kept, pair, spelled}

abbrev tail_of : List ℕ → List ℕ
tail_of [] = []
tail_of (b ∷ bs) = bs

abbrev head_of : List ℕ → ℕ
head_of [] = 0
head_of (b ∷ bs) = b

-- whether a byte is in a text
abbrev has : ℕ → List ℕ → Bool
has m [] = false
has m (b ∷ bs) = (b == m) || has m bs

same_byte : (m : ℕ) → (m == m) ≡ true
same_byte m = grind (arith, nat_tests)

left_holds : (b : Bool) → (true || b) ≡ true
left_holds b = refl

right_holds : (a b : Bool) → b ≡ true → (a || b) ≡ true
right_holds true b e = refl
right_holds false b e = e

neither : (a b : Bool) → a ≡ false → b ≡ false → (a || b) ≡ false
neither a b e f = ap (λ c. c || b) e ∙ f

not_left : (a b : Bool) → (a || b) ≡ false → a ≡ false
not_left true b e = e
not_left false b e = refl

not_right : (a b : Bool) → (a || b) ≡ false → b ≡ false
not_right true b e = absurd (false≢true (sym e))
not_right false b e = e

has_inside : (m : ℕ) (xs ys : List ℕ) → has m (xs ++ m ∷ ys) ≡ true
has_inside m [] ys = ap (λ c. c || has m ys) (same_byte m)
has_inside m (x ∷ xs) ys = right_holds (x == m) (has m (xs ++ m ∷ ys)) (has_inside m xs ys)

has_both : (m : ℕ) (xs ys : List ℕ) → has m xs ≡ false → has m ys ≡ false → has m (xs ++ ys) ≡ false
has_both m [] ys e f = f
has_both m (x ∷ xs) ys e f = neither (x == m) (has m (xs ++ ys)) (not_left (x == m) (has m xs) e) (has_both m xs ys (not_right (x == m) (has m xs) e) f)

-- a text that is cut at the last of a byte
cut_last : (m : ℕ) (xs ys t u : List ℕ) → has m t ≡ false → has m u ≡ false → xs ++ m ∷ t ≡ ys ++ m ∷ u → (xs ≡ ys) × (t ≡ u)
cut_last m [] [] t u h k e = (refl, ap tail_of e)
cut_last m [] (y ∷ ys) t u h k e = absurd (false≢true (sym h ∙ ap (has m) (ap tail_of e) ∙ has_inside m ys u))
cut_last m (x ∷ xs) [] t u h k e = absurd (false≢true (sym k ∙ ap (has m) (sym (ap tail_of e)) ∙ has_inside m xs t))
cut_last m (x ∷ xs) (y ∷ ys) t u h k e =
    let rest : (xs ≡ ys) × (t ≡ u) = cut_last m xs ys t u h k (ap tail_of e) in
    let same : x ≡ y = ap head_of e in
    (ap (λ z. z ∷ xs) same ∙ ap (λ zs. y ∷ zs) rest.0, rest.1)

-- a text before `_`
stem : (xs ys : List ℕ) → xs ++ 95 ∷ [] ≡ ys ++ 95 ∷ [] → xs ≡ ys
stem xs ys e = (cut_last 95 xs ys [] [] refl refl e).0

-- Digits.

other_byte : (b m : ℕ) → b ≤ 57 → 57 < m → (b == m) ≡ false
other_byte b m h k = grind (arith, nat_tests)

digits_lack : (m : ℕ) (ds : List ℕ) → 57 < m → AllDigits 10 ds → has m ds ≡ false
digits_lack m [] h d = refl
digits_lack m (c ∷ cs) h d = neither (c == m) (has m cs) (other_byte c m (digit_from_value c d.0).1 h) (digits_lack m cs h d.1)

decimal_lacks : (m n : ℕ) → 57 < m → n < 2 ^ 64 → has m (decimal n) ≡ false
decimal_lacks m n h k = digits_lack m (decimal n) h (decimal_is_IsNumeral n k).0.1

-- digits begin with no other byte
digits_first : (m : ℕ) (ds xs ys : List ℕ) → 57 < m → 0 < length ds → AllDigits 10 ds → ds ++ xs ≡ m ∷ ys → ⊥
digits_first m [] xs ys h some d e = absurd (omega (arith, some))
digits_first m (c ∷ cs) xs ys h some d e =
    let same : c ≡ m = ap head_of e in
    absurd (omega (arith, same, (digit_from_value c d.0).1, h))

decimal_first : (m n : ℕ) (xs ys : List ℕ) → 57 < m → n < 2 ^ 64 → decimal n ++ xs ≡ m ∷ ys → ⊥
decimal_first m n xs ys h k = digits_first m (decimal n) xs ys h (decimal_is_IsNumeral n k).0.0 (decimal_is_IsNumeral n k).0.1

-- whether a text has a digit
abbrev is_digit : ℕ → Bool
is_digit b = nat_le 48 b && nat_le b 57

abbrev has_digit : List ℕ → Bool
has_digit [] = false
has_digit (b ∷ bs) = is_digit b || has_digit bs

digit_byte : (b : ℕ) → 48 ≤ b → b ≤ 57 → is_digit b ≡ true
digit_byte b h k = grind (arith, nat_tests)

digits_have : (ds xs : List ℕ) → 0 < length ds → AllDigits 10 ds → has_digit (ds ++ xs) ≡ true
digits_have [] xs some d = absurd (omega (arith, some))
digits_have (c ∷ cs) xs some d = ap (λ b. b || has_digit (cs ++ xs)) (digit_byte c (digit_from_value c d.0).0 (digit_from_value c d.0).1)

decimal_has : (n : ℕ) (xs : List ℕ) → n < 2 ^ 64 → has_digit (decimal n ++ xs) ≡ true
decimal_has n xs k = digits_have (decimal n) xs (decimal_is_IsNumeral n k).0.0 (decimal_is_IsNumeral n k).0.1

digit_behind : (xs ys : List ℕ) → has_digit ys ≡ true → has_digit (xs ++ ys) ≡ true
digit_behind [] ys e = e
digit_behind (x ∷ xs) ys e = right_holds (is_digit x) (has_digit (xs ++ ys)) (digit_behind xs ys e)

-- The last byte.

ends_at : (xs ys : List ℕ) (b : ℕ) → ends_low (xs ++ b ∷ ys) ≡ ends_low (b ∷ ys)
ends_at [] ys b = refl
ends_at (x ∷ []) ys b = refl
ends_at (x ∷ y ∷ xs) ys b = ends_at (y ∷ xs) ys b

ends_lack : (xs : List ℕ) → has 95 xs ≡ false → ends_low xs ≡ false
ends_lack [] e = refl
ends_lack (x ∷ []) e = not_left (x == 95) false e
ends_lack (x ∷ y ∷ xs) e = ends_lack (y ∷ xs) (not_right (x == 95) (has 95 (y ∷ xs)) e)

ends_digits : (xs ds : List ℕ) → 0 < length ds → AllDigits 10 ds → ends_low (xs ++ ds) ≡ false
ends_digits xs [] some d = absurd (omega (arith, some))
ends_digits xs (c ∷ cs) some d = ends_at xs cs c ∙ ends_lack (c ∷ cs) (digits_lack 95 (c ∷ cs) (omega arith) d)

ends_decimal : (n : ℕ) (xs : List ℕ) → n < 2 ^ 64 → ends_low (xs ++ decimal n) ≡ false
ends_decimal n xs k = ends_digits xs (decimal n) (decimal_is_IsNumeral n k).0.0 (decimal_is_IsNumeral n k).0.1

-- Keywords have no digit.

abbrev lacks_digits : {W : Type 0} → List W → (W → List ℕ) → Bool
lacks_digits [] f = true
lacks_digits (w ∷ ws) f = not (has_digit (f w)) && lacks_digits ws f

lacked : (b c : Bool) → (not b && c) ≡ true → b ≡ false
lacked true c e = absurd (false≢true e)
lacked false c e = refl

lacked_rest : (b c : Bool) → (not b && c) ≡ true → c ≡ true
lacked_rest true c e = absurd (false≢true e)
lacked_rest false c e = e

among : {W : Type 0} → (b : Bool) (word v : List ℕ) (ws : List W) (f : W → List ℕ) → bytes_eq word v ≡ b → has_digit word ≡ false → (list_any (λ w. bytes_eq (f w) v) ws ≡ true → has_digit v ≡ false) → (b || list_any (λ w. bytes_eq (f w) v) ws) ≡ true → has_digit v ≡ false
among true word v ws f e lacks g h = subst (λ x. has_digit x ≡ false) ((bytes_eq-Decides word v).0 e) lacks
among false word v ws f e lacks g h = g h

kept_lacks : {W : Type 0} → (ws : List W) (f : W → List ℕ) (v : List ℕ) → lacks_digits ws f ≡ true → list_any (λ w. bytes_eq (f w) v) ws ≡ true → has_digit v ≡ false
kept_lacks [] f v e h = absurd (false≢true h)
kept_lacks (w ∷ ws) f v e h = among (bytes_eq (f w) v) (f w) v ws f refl (lacked (has_digit (f w)) (lacks_digits ws f) e) (kept_lacks ws f v (lacked_rest (has_digit (f w)) (lacks_digits ws f) e)) h

-- Names of the file.

abbrev escape : Bool → List ℕ
escape b = if b then 95 ∷ [] else []

ends_made : (xs : List ℕ) → ends_low (xs ++ 95 ∷ []) ≡ true
ends_made xs = ends_at xs [] 95

plain_end : (w : List ℕ) → w ++ [] ≡ w
plain_end [] = refl
plain_end (b ∷ bs) = ap (λ cs. b ∷ cs) (plain_end bs)

-- the text of a name is that name
file_same : (b c : Bool) (v w : List ℕ) → (b ≡ false → ends_low v ≡ false) → (c ≡ false → ends_low w ≡ false) → v ++ escape b ≡ w ++ escape c → v ≡ w
file_same true true v w p q e = stem v w e
file_same true false v w p q e = absurd (false≢true (sym (q refl) ∙ ap ends_low (sym (plain_end w) ∙ sym e) ∙ ends_made v))
file_same false true v w p q e = absurd (false≢true (sym (p refl) ∙ ap ends_low (sym (plain_end v) ∙ e) ∙ ends_made w))
file_same false false v w p q e = sym (plain_end v) ∙ e ∙ plain_end w

-- which names of the file are the text of another one with `_` behind it
file_stem : (b : Bool) (v x : List ℕ) → (b ≡ false → ends_low v ≡ false) → v ++ escape b ≡ x ++ 95 ∷ [] → (v ≡ x) × (b ≡ true)
file_stem true v x p e = (stem v x e, refl)
file_stem false v x p e = absurd (false≢true (sym (p refl) ∙ ap ends_low (sym (plain_end v) ∙ e) ∙ ends_made x))

abbrev escaped : List ℕ → Bool
escaped v = is_kept v || ends_low v

unescaped : (v : List ℕ) → escaped v ≡ false → ends_low v ≡ false
unescaped v e = not_right (is_kept v) (ends_low v) e

left_is : (a b : Bool) → b ≡ false → (a || b) ≡ true → a ≡ true
left_is true b f e = refl
left_is false b f e = absurd (false≢true (sym f ∙ e))

-- a name of the file is no made one
file_made : (v x : List ℕ) → has_digit x ≡ true → ends_low x ≡ false → file_name v ≡ x ++ 95 ∷ [] → ⊥
file_made v x d l e =
    let s : (v ≡ x) × (escaped v ≡ true) = file_stem (escaped v) v x (unescaped v) e in
    let k : is_kept v ≡ true = left_is (is_kept v) (ends_low v) (ap ends_low s.0 ∙ l) s.1 in
    absurd (false≢true (sym (kept_lacks WORDS (λ w. w.now) v refl k) ∙ ap has_digit s.0 ∙ d))

-- Two numbers.

abbrev second : Bool → ℕ → ℕ → List ℕ
second b m n = if b then [] else (m ∷ []) ++ decimal n

zero_is : (n : ℕ) → (n == 0) ≡ true → n ≡ 0
zero_is n e = grind (arith, nat_tests)

pair_is : (m a b c d : ℕ) (p q : Bool) → 57 < m → a < 2 ^ 64 → b < 2 ^ 64 → c < 2 ^ 64 → d < 2 ^ 64 → (p ≡ true → b ≡ 0) → (q ≡ true → d ≡ 0) → decimal a ++ second p m b ≡ decimal c ++ second q m d → (a ≡ c) × (b ≡ d)
pair_is m a b c d true true h ha hb hc hd f g e = (decimal_injective a c ha hc (sym (plain_end (decimal a)) ∙ e ∙ plain_end (decimal c)), f refl ∙ sym (g refl))
pair_is m a b c d true false h ha hb hc hd f g e = absurd (false≢true (sym (decimal_lacks m a h ha) ∙ ap (has m) (sym (plain_end (decimal a)) ∙ e) ∙ has_inside m (decimal c) (decimal d)))
pair_is m a b c d false true h ha hb hc hd f g e = absurd (false≢true (sym (decimal_lacks m c h hc) ∙ ap (has m) (sym (plain_end (decimal c)) ∙ sym e) ∙ has_inside m (decimal a) (decimal b)))
pair_is m a b c d false false h ha hb hc hd f g e =
    let s : (decimal a ≡ decimal c) × (decimal b ≡ decimal d) = cut_last m (decimal a) (decimal c) (decimal b) (decimal d) (decimal_lacks m b h hb) (decimal_lacks m d h hd) e in
    (decimal_injective a c ha hc s.0, decimal_injective b d hb hd s.1)

pair_same : (m a b c d : ℕ) → 57 < m → a < 2 ^ 64 → b < 2 ^ 64 → c < 2 ^ 64 → d < 2 ^ 64 → pair a (m ∷ []) b ≡ pair c (m ∷ []) d → (a ≡ c) × (b ≡ d)
pair_same m a b c d h ha hb hc hd e = pair_is m a b c d (b == 0) (d == 0) h ha hb hc hd (zero_is b) (zero_is d) e

second_lacks : (p : Bool) (m k n : ℕ) → (m == k) ≡ false → 57 < k → n < 2 ^ 64 → has k (second p m n) ≡ false
second_lacks true m k n e h hn = refl
second_lacks false m k n e h hn = neither (m == k) (has k (decimal n)) e (decimal_lacks k n h hn)

pair_lacks : (m k a b : ℕ) → (m == k) ≡ false → 57 < k → a < 2 ^ 64 → b < 2 ^ 64 → has k (pair a (m ∷ []) b) ≡ false
pair_lacks m k a b e h ha hb = has_both k (decimal a) (second (b == 0) m b) (decimal_lacks k a h ha) (second_lacks (b == 0) m k b e h hb)

second_ends : (p : Bool) (xs : List ℕ) (a m b : ℕ) → a < 2 ^ 64 → b < 2 ^ 64 → ends_low (xs ++ (decimal a ++ second p m b)) ≡ false
second_ends true xs a m b ha hb = ap (λ ds. ends_low (xs ++ ds)) (plain_end (decimal a)) ∙ ends_decimal a xs ha
second_ends false xs a m b ha hb = ap ends_low (sym (append_assoc xs (decimal a) (m ∷ decimal b))) ∙ ends_at (xs ++ decimal a) (decimal b) m ∙ ends_decimal b (m ∷ []) hb

pair_ends : (xs : List ℕ) (a m b : ℕ) → a < 2 ^ 64 → b < 2 ^ 64 → ends_low (xs ++ pair a (m ∷ []) b) ≡ false
pair_ends xs a m b ha hb = second_ends (b == 0) xs a m b ha hb

pair_has : (xs : List ℕ) (a m b : ℕ) → a < 2 ^ 64 → has_digit (xs ++ pair a (m ∷ []) b) ≡ true
pair_has xs a m b ha = digit_behind xs (pair a (m ∷ []) b) (decimal_has a (second (b == 0) m b) ha)

-- Variables.

-- a name behind which numbers stand
abbrev numbered : List ℕ → ℕ → ℕ → List ℕ
numbered w d s = w ++ 95 ∷ pair s (100 ∷ []) d

abbrev variable_by : Bool → List ℕ → ℕ → ℕ → List ℕ
variable_by b w d s = if b then file_name w else (numbered w d s ++ 95 ∷ [])

abbrev is_bare : List ℕ → ℕ → ℕ → Bool
is_bare w d s = (d == 0) && ((s == 0) && not (begins (codes "print_line") w))

first_of : (a b : Bool) → (a && b) ≡ true → a ≡ true
first_of true b e = refl
first_of false b e = e

rest_of : (a b : Bool) → (a && b) ≡ true → b ≡ true
rest_of true b e = e
rest_of false b e = absurd (false≢true e)

not_true : (a : Bool) → not a ≡ true → a ≡ false
not_true true e = absurd (false≢true e)
not_true false e = refl

bare_first : (w : List ℕ) (d s : ℕ) → is_bare w d s ≡ true → d ≡ 0
bare_first w d s e = zero_is d (first_of (d == 0) ((s == 0) && not (begins (codes "print_line") w)) e)

bare_second : (w : List ℕ) (d s : ℕ) → is_bare w d s ≡ true → s ≡ 0
bare_second w d s e = zero_is s (first_of (s == 0) (not (begins (codes "print_line") w)) (rest_of (d == 0) ((s == 0) && not (begins (codes "print_line") w)) e))

bare_begins : (w : List ℕ) (d s : ℕ) → is_bare w d s ≡ true → begins (codes "print_line") w ≡ false
bare_begins w d s e = not_true (begins (codes "print_line") w) (rest_of (s == 0) (not (begins (codes "print_line") w)) (rest_of (d == 0) ((s == 0) && not (begins (codes "print_line") w)) e))

numbered_ends : (w : List ℕ) (d s : ℕ) → d < 2 ^ 64 → s < 2 ^ 64 → ends_low (numbered w d s) ≡ false
numbered_ends w d s hd hs = ends_at w (pair s (100 ∷ []) d) 95 ∙ pair_ends (95 ∷ []) s 100 d hs hd

numbered_has : (w : List ℕ) (d s : ℕ) → s < 2 ^ 64 → has_digit (numbered w d s) ≡ true
numbered_has w d s hs = digit_behind w (95 ∷ pair s (100 ∷ []) d) (pair_has (95 ∷ []) s 100 d hs)

numbered_same : (v w : List ℕ) (d s e t : ℕ) → d < 2 ^ 64 → s < 2 ^ 64 → e < 2 ^ 64 → t < 2 ^ 64 → numbered v d s ≡ numbered w e t → (v ≡ w) × ((s ≡ t) × (d ≡ e))
numbered_same v w d s e t hd hs he ht h =
    let c : (v ≡ w) × (pair s (100 ∷ []) d ≡ pair t (100 ∷ []) e) = cut_last 95 v w (pair s (100 ∷ []) d) (pair t (100 ∷ []) e) (pair_lacks 100 95 s d refl (omega arith) hs hd) (pair_lacks 100 95 t e refl (omega arith) ht he) h in
    (c.0, pair_same 100 s d t e (omega arith) hs hd ht he c.1)

named_same : (a b : Bool) (v w : List ℕ) (d s e t : ℕ) → is_bare v d s ≡ a → is_bare w e t ≡ b → d < 2 ^ 64 → s < 2 ^ 64 → e < 2 ^ 64 → t < 2 ^ 64 → variable_by a v d s ≡ variable_by b w e t → Named v d s ≡ Named w e t
named_same true true v w d s e t p q hd hs he ht h =
    let names : v ≡ w = file_same (escaped v) (escaped w) v w (unescaped v) (unescaped w) h in
    ap (λ x. Named x d s) names ∙ ap (λ x. Named w x s) (bare_first v d s p ∙ sym (bare_first w e t q)) ∙ ap (λ x. Named w e x) (bare_second v d s p ∙ sym (bare_second w e t q))
named_same true false v w d s e t p q hd hs he ht h = absurd (file_made v (numbered w e t) (numbered_has w e t ht) (numbered_ends w e t he ht) h)
named_same false true v w d s e t p q hd hs he ht h = absurd (file_made w (numbered v d s) (numbered_has v d s hs) (numbered_ends v d s hd hs) (sym h))
named_same false false v w d s e t p q hd hs he ht h =
    let r : (v ≡ w) × ((s ≡ t) × (d ≡ e)) = numbered_same v w d s e t hd hs he ht (stem (numbered v d s) (numbered w e t) h) in
    ap (λ x. Named x d s) r.0 ∙ ap (λ x. Named w x s) r.1.1 ∙ ap (λ x. Named w e x) r.1.0

-- a variable is no text of letters and numbers with `_` behind it
named_made : (a : Bool) (w : List ℕ) (d s : ℕ) (x : List ℕ) → d < 2 ^ 64 → s < 2 ^ 64 → has 95 x ≡ false → has_digit x ≡ true → variable_by a w d s ≡ x ++ 95 ∷ [] → ⊥
named_made true w d s x hd hs l g h = file_made w x g (ends_lack x l) h
named_made false w d s x hd hs l g h = absurd (false≢true (sym l ∙ ap (has 95) (sym (stem (numbered w d s) x h)) ∙ has_inside 95 w (pair s (100 ∷ []) d)))

begins_itself : (xs ys : List ℕ) → begins xs (xs ++ ys) ≡ true
begins_itself [] ys = refl
begins_itself (x ∷ xs) ys = ap (λ c. c && begins xs (xs ++ ys)) (same_byte x) ∙ begins_itself xs ys

file_ends : (b : Bool) (v : List ℕ) → (b ≡ false → ends_low v ≡ false) → ends_low (v ++ escape b) ≡ false → b ≡ false
file_ends true v p e = absurd (false≢true (sym e ∙ ends_made v))
file_ends false v p e = refl

file_printed : (b : Bool) (v x : List ℕ) → b ≡ false → v ++ escape b ≡ x → v ≡ x
file_printed true v x p e = absurd (false≢true (sym p))
file_printed false v x p e = sym (plain_end v) ∙ e

-- a variable is no printed value
named_printed : (a : Bool) (w : List ℕ) (d s : ℕ) (p : List ℕ) → is_bare w d s ≡ a → ends_low (codes "print_line" ++ p) ≡ false → variable_by a w d s ≡ codes "print_line" ++ p → ⊥
named_printed true w d s p e l h =
    let kept : escaped w ≡ false = file_ends (escaped w) w (unescaped w) (ap ends_low h ∙ l) in
    let same : w ≡ codes "print_line" ++ p = file_printed (escaped w) w (codes "print_line" ++ p) kept h in
    absurd (false≢true (sym (bare_begins w d s e) ∙ ap (begins (codes "print_line")) same ∙ begins_itself (codes "print_line") p))
named_printed false w d s p e l h = absurd (false≢true (sym l ∙ ap ends_low (sym h) ∙ ends_made (numbered w d s)))

-- a variable is not the line of a precondition
named_fixed : (a : Bool) (w : List ℕ) (d s : ℕ) → d < 2 ^ 64 → s < 2 ^ 64 → variable_by a w d s ≡ codes "precondition_line" ++ 95 ∷ [] → ⊥
named_fixed true w d s hd hs h =
    let c : (w ≡ codes "precondition_line") × (escaped w ≡ true) = file_stem (escaped w) w (codes "precondition_line") (unescaped w) h in
    absurd (false≢true (ap escaped (sym c.0) ∙ c.1))
named_fixed false w d s hd hs h =
    let c : (w ≡ codes "precondition") × (pair s (100 ∷ []) d ≡ codes "line") = cut_last 95 w (codes "precondition") (pair s (100 ∷ []) d) (codes "line") (pair_lacks 100 95 s d refl (omega arith) hs hd) refl (stem (numbered w d s) (codes "precondition_line") h) in
    absurd (decimal_first 108 s (second (d == 0) 100 d) (codes "ine") (omega arith) hs c.1)

-- Two names.

other_head : (a b : ℕ) (xs ys : List ℕ) → (a == b) ≡ false → a ∷ xs ≡ b ∷ ys → ⊥
other_head a b xs ys e h = absurd (false≢true (sym e ∙ ap (λ x. x == b) (ap head_of h) ∙ same_byte b))

temporary : (p s : ℕ) → p < 2 ^ 64 → s < 2 ^ 64 → has 95 (109 ∷ pair p (115 ∷ []) s) ≡ false
temporary p s hp hs = pair_lacks 115 95 p s refl (omega arith) hp hs

counted : (xs : List ℕ) (n : ℕ) → has 95 xs ≡ false → n < 2 ^ 64 → has 95 (xs ++ decimal n) ≡ false
counted xs n e h = has_both 95 xs (decimal n) e (decimal_lacks 95 n (omega arith) h)

counted_has : (xs : List ℕ) (n : ℕ) → n < 2 ^ 64 → has_digit (xs ++ decimal n) ≡ true
counted_has xs n h = digit_behind xs (decimal n) (ap has_digit (sym (plain_end (decimal n))) ∙ decimal_has n [] h)

ends_word : (xs : List ℕ) → ends_low (xs ++ 95 ∷ []) ≡ false → ⊥
ends_word xs e = absurd (false≢true (sym e ∙ ends_made xs))

printed_ends : (l k : ℕ) → l < 2 ^ 64 → k < 2 ^ 64 → ends_low (codes "print_line" ++ pair l (95 ∷ []) k) ≡ false
printed_ends l k hl hk = pair_ends (codes "print_line") l 95 k hl hk

printed_made : (l k : ℕ) (x : List ℕ) → l < 2 ^ 64 → k < 2 ^ 64 → codes "print_line" ++ pair l (95 ∷ []) k ≡ x ++ 95 ∷ [] → ⊥
printed_made l k x hl hk h = ends_word x (ap ends_low (sym h) ∙ printed_ends l k hl hk)

cut_front : (xs ys zs : List ℕ) → xs ++ ys ≡ xs ++ zs → ys ≡ zs
cut_front [] ys zs e = e
cut_front (x ∷ xs) ys zs e = cut_front xs ys zs (ap tail_of e)

named_temporary : (w : List ℕ) (d s p t : ℕ) → d < 2 ^ 64 → s < 2 ^ 64 → p < 2 ^ 64 → t < 2 ^ 64 → spelled (Named w d s) ≡ spelled (Temporary p t) → ⊥
named_temporary w d s p t hd hs hp ht h = named_made (is_bare w d s) w d s (109 ∷ pair p (115 ∷ []) t) hd hs (temporary p t hp ht) (pair_has (109 ∷ []) p 115 t hp) h

caught : (p s : ℕ) → p < 2 ^ 64 → s < 2 ^ 64 → has 95 (codes "caught" ++ pair p (115 ∷ []) s) ≡ false
caught p s hp hs = pair_lacks 115 95 p s refl (omega arith) hp hs

named_caught : (w : List ℕ) (d s p t : ℕ) → d < 2 ^ 64 → s < 2 ^ 64 → p < 2 ^ 64 → t < 2 ^ 64 → spelled (Named w d s) ≡ spelled (Caught p t) → ⊥
named_caught w d s p t hd hs hp ht h = named_made (is_bare w d s) w d s (codes "caught" ++ pair p (115 ∷ []) t) hd hs (caught p t hp ht) (pair_has (codes "caught") p 115 t hp) h

caught_same : (p s q t : ℕ) → p < 2 ^ 64 → s < 2 ^ 64 → q < 2 ^ 64 → t < 2 ^ 64 → spelled (Caught p s) ≡ spelled (Caught q t) → Caught p s ≡ Caught q t
caught_same p s q t hp hs hq ht h =
    let r : (p ≡ q) × (s ≡ t) = pair_same 115 p s q t (omega arith) hp hs hq ht (cut_front (codes "caught") (pair p (115 ∷ []) s) (pair q (115 ∷ []) t) (stem (codes "caught" ++ pair p (115 ∷ []) s) (codes "caught" ++ pair q (115 ∷ []) t) h)) in
    ap (λ x. Caught x s) r.0 ∙ ap (λ x. Caught q x) r.1

named_result : (w : List ℕ) (d s n : ℕ) → d < 2 ^ 64 → s < 2 ^ 64 → n < 2 ^ 64 → spelled (Named w d s) ≡ spelled (Result n) → ⊥
named_result w d s n hd hs hn h = named_made (is_bare w d s) w d s (codes "result" ++ decimal n) hd hs (counted (codes "result") n refl hn) (counted_has (codes "result") n hn) h

named_done : (w : List ℕ) (d s n : ℕ) → d < 2 ^ 64 → s < 2 ^ 64 → n < 2 ^ 64 → spelled (Named w d s) ≡ spelled (Done n) → ⊥
named_done w d s n hd hs hn h = named_made (is_bare w d s) w d s (codes "done" ++ decimal n) hd hs (counted (codes "done") n refl hn) (counted_has (codes "done") n hn) h

named_value : (w : List ℕ) (d s l k : ℕ) → l < 2 ^ 64 → k < 2 ^ 64 → spelled (Named w d s) ≡ spelled (Printed l k) → ⊥
named_value w d s l k hl hk h = named_printed (is_bare w d s) w d s (pair l (95 ∷ []) k) refl (printed_ends l k hl hk) h

named_line : (w : List ℕ) (d s : ℕ) → d < 2 ^ 64 → s < 2 ^ 64 → spelled (Named w d s) ≡ spelled Precondition → ⊥
named_line w d s hd hs h = named_fixed (is_bare w d s) w d s hd hs h

temporary_same : (p s q t : ℕ) → p < 2 ^ 64 → s < 2 ^ 64 → q < 2 ^ 64 → t < 2 ^ 64 → spelled (Temporary p s) ≡ spelled (Temporary q t) → Temporary p s ≡ Temporary q t
temporary_same p s q t hp hs hq ht h =
    let r : (p ≡ q) × (s ≡ t) = pair_same 115 p s q t (omega arith) hp hs hq ht (ap tail_of (stem (109 ∷ pair p (115 ∷ []) s) (109 ∷ pair q (115 ∷ []) t) h)) in
    ap (λ x. Temporary x s) r.0 ∙ ap (λ x. Temporary q x) r.1

result_same : (m n : ℕ) → m < 2 ^ 64 → n < 2 ^ 64 → spelled (Result m) ≡ spelled (Result n) → Result m ≡ Result n
result_same m n hm hn h = ap Result (decimal_injective m n hm hn (cut_front (codes "result") (decimal m) (decimal n) (stem (codes "result" ++ decimal m) (codes "result" ++ decimal n) h)))

done_same : (m n : ℕ) → m < 2 ^ 64 → n < 2 ^ 64 → spelled (Done m) ≡ spelled (Done n) → Done m ≡ Done n
done_same m n hm hn h = ap Done (decimal_injective m n hm hn (cut_front (codes "done") (decimal m) (decimal n) (stem (codes "done" ++ decimal m) (codes "done" ++ decimal n) h)))

printed_same : (l k m n : ℕ) → l < 2 ^ 64 → k < 2 ^ 64 → m < 2 ^ 64 → n < 2 ^ 64 → spelled (Printed l k) ≡ spelled (Printed m n) → Printed l k ≡ Printed m n
printed_same l k m n hl hk hm hn h =
    let r : (l ≡ m) × (k ≡ n) = pair_same 95 l k m n (omega arith) hl hk hm hn (cut_front (codes "print_line") (pair l (95 ∷ []) k) (pair m (95 ∷ []) n) h) in
    ap (λ x. Printed x k) r.0 ∙ ap (λ x. Printed m x) r.1

-- Two names that are spelled the same are one.
pub apart : (a b : NameView) → IsNumbered a → IsNumbered b → spelled a ≡ spelled b → a ≡ b
apart (Named v d s) (Named w e t) p q h = named_same (is_bare v d s) (is_bare w e t) v w d s e t refl refl p.0 p.1 q.0 q.1 h
apart (Named w d s) (Temporary r t) p q h = absurd (named_temporary w d s r t p.0 p.1 q.0 q.1 h)
apart (Named w d s) (Result n) p q h = absurd (named_result w d s n p.0 p.1 q h)
apart (Named w d s) (Done n) p q h = absurd (named_done w d s n p.0 p.1 q h)
apart (Named w d s) (Printed l k) p q h = absurd (named_value w d s l k q.0 q.1 h)
apart (Named w d s) Precondition p q h = absurd (named_line w d s p.0 p.1 h)
apart (Temporary r t) (Named w d s) p q h = absurd (named_temporary w d s r t q.0 q.1 p.0 p.1 (sym h))
apart (Temporary r s) (Temporary u t) p q h = temporary_same r s u t p.0 p.1 q.0 q.1 h
apart (Temporary r t) (Result n) p q h = absurd (false≢true (ap (λ xs. head_of xs == 114) h))
apart (Temporary r t) (Done n) p q h = absurd (false≢true (ap (λ xs. head_of xs == 100) h))
apart (Temporary r t) (Printed l k) p q h = absurd (false≢true (ap (λ xs. head_of xs == 112) h))
apart (Temporary r t) Precondition p q h = absurd (false≢true (ap (λ xs. head_of xs == 112) h))
apart (Result n) (Named w d s) p q h = absurd (named_result w d s n q.0 q.1 p (sym h))
apart (Result n) (Temporary r t) p q h = absurd (false≢true (ap (λ xs. head_of xs == 109) h))
apart (Result m) (Result n) p q h = result_same m n p q h
apart (Result m) (Done n) p q h = absurd (false≢true (ap (λ xs. head_of xs == 100) h))
apart (Result m) (Printed l k) p q h = absurd (false≢true (ap (λ xs. head_of xs == 112) h))
apart (Result m) Precondition p q h = absurd (false≢true (ap (λ xs. head_of xs == 112) h))
apart (Done n) (Named w d s) p q h = absurd (named_done w d s n q.0 q.1 p (sym h))
apart (Done n) (Temporary r t) p q h = absurd (false≢true (ap (λ xs. head_of xs == 109) h))
apart (Done m) (Result n) p q h = absurd (false≢true (ap (λ xs. head_of xs == 114) h))
apart (Done m) (Done n) p q h = done_same m n p q h
apart (Done m) (Printed l k) p q h = absurd (false≢true (ap (λ xs. head_of xs == 112) h))
apart (Done m) Precondition p q h = absurd (false≢true (ap (λ xs. head_of xs == 112) h))
apart (Printed l k) (Named w d s) p q h = absurd (named_value w d s l k p.0 p.1 (sym h))
apart (Printed l k) (Temporary r t) p q h = absurd (false≢true (ap (λ xs. head_of xs == 109) h))
apart (Printed l k) (Result n) p q h = absurd (false≢true (ap (λ xs. head_of xs == 114) h))
apart (Printed l k) (Done n) p q h = absurd (false≢true (ap (λ xs. head_of xs == 100) h))
apart (Printed l k) (Printed m n) p q h = printed_same l k m n p.0 p.1 q.0 q.1 h
apart (Printed l k) Precondition p q h = absurd (printed_made l k (codes "precondition_line") p.0 p.1 h)
apart Precondition (Named w d s) p q h = absurd (named_line w d s q.0 q.1 (sym h))
apart Precondition (Temporary r t) p q h = absurd (false≢true (ap (λ xs. head_of xs == 109) h))
apart Precondition (Result n) p q h = absurd (false≢true (ap (λ xs. head_of xs == 114) h))
apart Precondition (Done n) p q h = absurd (false≢true (ap (λ xs. head_of xs == 100) h))
apart Precondition (Printed l k) p q h = absurd (printed_made l k (codes "precondition_line") q.0 q.1 (sym h))
apart Precondition Precondition p q h = refl
apart (Named w d s) (Caught r t) p q h = absurd (named_caught w d s r t p.0 p.1 q.0 q.1 h)
apart (Caught r t) (Named w d s) p q h = absurd (named_caught w d s r t q.0 q.1 p.0 p.1 (sym h))
apart (Caught r s) (Caught u t) p q h = caught_same r s u t p.0 p.1 q.0 q.1 h
apart (Caught u s) (Temporary r t) p q h = absurd (false≢true (ap (λ xs. head_of xs == 109) h))
apart (Temporary r t) (Caught u s) p q h = absurd (false≢true (ap (λ xs. head_of xs == 99) h))
apart (Caught u s) (Result n) p q h = absurd (false≢true (ap (λ xs. head_of xs == 114) h))
apart (Result n) (Caught u s) p q h = absurd (false≢true (ap (λ xs. head_of xs == 99) h))
apart (Caught u s) (Done n) p q h = absurd (false≢true (ap (λ xs. head_of xs == 100) h))
apart (Done n) (Caught u s) p q h = absurd (false≢true (ap (λ xs. head_of xs == 99) h))
apart (Caught u s) (Printed l k) p q h = absurd (false≢true (ap (λ xs. head_of xs == 112) h))
apart (Printed l k) (Caught u s) p q h = absurd (false≢true (ap (λ xs. head_of xs == 99) h))
apart (Caught u s) Precondition p q h = absurd (false≢true (ap (λ xs. head_of xs == 112) h))
apart Precondition (Caught u s) p q h = absurd (false≢true (ap (λ xs. head_of xs == 99) h))
