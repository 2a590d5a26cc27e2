-- What stands at the front of the bytes of a token.
use Rattle.plain_laws.proofs.Prelude.{IsName, begins_name, goes_on, mark_of, mark_spelling, ◌≡◌, ℕ, pos, ◌<◌, ◌^◌, ◌+◌, ◌-◌, ◌*◌, Bool, true, false, ◌&&◌, ◌||◌, ◌==◌, not, eqb, nat_lt, List, [], ◌∷◌, ◌++◌, length, take, drop, refl, sym, ap, ◌∙◌, arith, rules, nat_tests, decimal_nonempty, digits_decimal, digits_value-decimal, decimal, list_all, prefix_len, take_while, is_digit, is_letter, is_name_byte, is_number_byte, Operator}
use Rattle.std.specs.Int.{IsInRange}
use Rattle.std.proofs.lemmas.Str.Parse.{IsNumeralModel, FoldsDigits, numerals_by_fold}
use Rattle.swift_types.specs.declared.operator.Operator.TheVariants as op
use Rattle.swift_syntax.specs.Fronts.{a_line, a_space, a_token, decimal_behind, front_of, front_at, number_before, number_of, sign_at, slashed_at, word_as}
use Rattle.swift_syntax.specs.Words.{word_of}
use Rattle.swift_syntax.specs.declared.sign.Sign.TheVariants as sign
use Rattle.swift_syntax.specs.declared.token.TokenKind.TheVariants as kind
use Rattle.plain_laws.proofs.Operators.{sign_of}

pub space_front : (bs : List ℕ) → front_of (32 ∷ bs) ≡ (a_space, bs)
unfolding front_at
space_front bs = refl

-- an operator with a space behind it
pub operator_front : (o : Operator) (bs : List ℕ) → front_of (mark_spelling (mark_of o) ++ 32 ∷ bs) ≡ (a_token (kind.Sign (sign_of o)), 32 ∷ bs)
unfolding front_at slashed_at sign_at
operator_front op.Or bs = refl
operator_front op.And bs = refl
operator_front op.Equal bs = refl
operator_front op.Unequal bs = refl
operator_front op.AtMost bs = refl
operator_front op.AtLeast bs = refl
operator_front op.Less [] = refl
operator_front op.Less (b ∷ bs) = refl
operator_front op.Greater [] = refl
operator_front op.Greater (b ∷ bs) = refl
operator_front op.Plus [] = refl
operator_front op.Plus (b ∷ bs) = refl
operator_front op.Minus [] = refl
operator_front op.Minus (b ∷ bs) = refl
operator_front op.Times [] = refl
operator_front op.Times (b ∷ bs) = refl

pub open_front : (bs : List ℕ) → front_of (40 ∷ bs) ≡ (a_token (kind.Sign sign.Open), bs)
unfolding front_at slashed_at sign_at
open_front (b ∷ c ∷ bs) = refl
open_front _ = refl

pub close_front : (bs : List ℕ) → front_of (41 ∷ bs) ≡ (a_token (kind.Sign sign.Close), bs)
unfolding front_at slashed_at sign_at
close_front (b ∷ c ∷ bs) = refl
close_front _ = refl

-- an operand begins with a letter, a digit or a parenthesis, so with none of the bytes that go on with a prefix
abbrev is_operand_byte : ℕ → Bool
is_operand_byte b = is_name_byte b || b == 40

abbrev pub begins_operand : List ℕ → Bool
begins_operand [] = false
begins_operand (b ∷ bs) = is_operand_byte b

no_angle : (b : ℕ) → is_operand_byte b ≡ true → eqb b 62 ≡ false
no_angle b h = grind (arith, nat_tests)

no_equals : (b : ℕ) → is_operand_byte b ≡ true → eqb b 61 ≡ false
no_equals b h = grind (arith, nat_tests)

pub minus_front : (bs : List ℕ) → begins_operand bs ≡ true → front_of (45 ∷ bs) ≡ (a_token (kind.Sign sign.Minus), bs)
unfolding front_at slashed_at sign_at
minus_front [] h = refl
minus_front (b ∷ []) h = rw (no_angle b h, no_equals b h) refl
minus_front (b ∷ c ∷ bs) h = rw (no_angle b h, no_equals b h) refl

pub bang_front : (bs : List ℕ) → begins_operand bs ≡ true → front_of (33 ∷ bs) ≡ (a_token (kind.Sign sign.Bang), bs)
unfolding front_at slashed_at sign_at
bang_front [] h = refl
bang_front (b ∷ []) h = rw (no_equals b h) refl
bang_front (b ∷ c ∷ bs) h = rw (no_equals b h) refl

both_true : (a b : Bool) → (a && b) ≡ true → (a ≡ true) × (b ≡ true)
both_true true b h = (refl, h)
both_true false b h = (h, cc)

-- whether a text goes on with a byte that passes no test
abbrev stops_at : (ℕ → Bool) → List ℕ → Bool
stops_at p [] = true
stops_at p (b ∷ bs) = not (p b)

not_true : (b : Bool) → not b ≡ true → b ≡ false
not_true true h = sym h
not_true false h = refl

stopped : (bs : List ℕ) → goes_on bs ≡ false → stops_at is_name_byte bs ≡ true
stopped [] e = refl
stopped (b ∷ bs) e = ap not e

no_number_byte : (b : ℕ) → is_name_byte b ≡ false → is_number_byte b ≡ false
no_number_byte b h = grind (arith, nat_tests)

no_letter : (b : ℕ) → is_name_byte b ≡ false → is_letter b ≡ false
no_letter b h = grind (arith, nat_tests)

number_stopped : (bs : List ℕ) → goes_on bs ≡ false → stops_at is_number_byte bs ≡ true
number_stopped [] e = refl
number_stopped (b ∷ bs) e = ap not (no_number_byte b e)

digit_counts : (b : ℕ) → is_digit b ≡ true → is_number_byte b ≡ true
digit_counts b h = rw h refl

all_number : (ds : List ℕ) → list_all is_digit ds ≡ true → list_all is_number_byte ds ≡ true
all_number [] h = refl
all_number (d ∷ ds) h =
    let k = both_true (is_digit d) (list_all is_digit ds) h in
    rw (digit_counts d k.0) (all_number ds k.1)

-- what passes stands before what does not
passed : (p : ℕ → Bool) (w rest : List ℕ) → list_all p w ≡ true → stops_at p rest ≡ true → prefix_len p (w ++ rest) ≡ length w
passed p [] [] h stop = refl
passed p [] (c ∷ rest) h stop = rw (not_true (p c) stop) refl
passed p (x ∷ w) rest h stop =
    let k : (p x ≡ true) × (list_all p w ≡ true) = both_true (p x) (list_all p w) h in
    rw k.0 (rw (passed p w rest k.1 stop) (omega arith))

take_front : (xs ys : List ℕ) → take (length xs) (xs ++ ys) ≡ xs
take_front [] ys = refl
take_front (x ∷ xs) ys = ap (λ zs. x ∷ zs) (take_front xs ys)

drop_front : (xs ys : List ℕ) → drop (length xs) (xs ++ ys) ≡ ys
drop_front [] ys = refl
drop_front (x ∷ xs) ys = drop_front xs ys

letter_is_no_digit : (b : ℕ) → is_letter b ≡ true → is_digit b ≡ false
letter_is_no_digit b h = grind (arith, nat_tests)

front_of_letter : (b : ℕ) (bs : List ℕ) → is_letter b ≡ true → front_of (b ∷ bs) ≡ (a_token (word_as (word_of (take_while is_name_byte (b ∷ bs)))), drop (prefix_len is_name_byte (b ∷ bs)) (b ∷ bs))
unfolding front_at
front_of_letter b bs h = rw (letter_is_no_digit b h, h) refl

front_of_digit : (b : ℕ) (bs : List ℕ) → is_digit b ≡ true → front_of (b ∷ bs) ≡ (a_token (number_before (take_while is_number_byte (b ∷ bs)) (drop (prefix_len is_number_byte (b ∷ bs)) (b ∷ bs))), drop (prefix_len is_number_byte (b ∷ bs)) (b ∷ bs))
unfolding front_at
front_of_digit b bs h = rw h refl

-- bytes of a name are taken up to what ends them, for a name or a keyword
pub spelt_front : (w bs : List ℕ) → begins_name w ≡ true → list_all is_name_byte w ≡ true → goes_on bs ≡ false → front_of (w ++ bs) ≡ (a_token (word_as (word_of w)), bs)
spelt_front [] bs begins all e = cc (begins)
spelt_front (x ∷ w) bs begins all e =
    let len : prefix_len is_name_byte (x ∷ (w ++ bs)) ≡ length (x ∷ w) = passed is_name_byte (x ∷ w) bs all (stopped bs e) in
    let front : take_while is_name_byte (x ∷ (w ++ bs)) ≡ x ∷ w = ap (λ n. take n (x ∷ (w ++ bs))) len ∙ take_front (x ∷ w) bs in
    let rest : drop (prefix_len is_name_byte (x ∷ (w ++ bs))) (x ∷ (w ++ bs)) ≡ bs = ap (λ n. drop n (x ∷ (w ++ bs))) len ∙ drop_front (x ∷ w) bs in
    front_of_letter x (w ++ bs) begins ∙ ap (λ v. (a_token (word_as (word_of v)), drop (prefix_len is_name_byte (x ∷ (w ++ bs))) (x ∷ (w ++ bs)))) front ∙ ap (λ v. (a_token (word_as (word_of (x ∷ w))), v)) rest

-- a name is taken up to what ends it
pub name_front : (w bs : List ℕ) → IsName w → goes_on bs ≡ false → front_of (w ++ bs) ≡ (a_token kind.Name, bs)
name_front w bs h e = spelt_front w bs h.begins h.bytes e ∙ ap (λ k. (a_token (word_as k), bs)) h.no_keyword

pub line_front : (bs : List ℕ) → front_of (10 ∷ bs) ≡ (a_line, bs)
unfolding front_at
line_front bs = refl

-- `=` with a space behind it
pub assign_front : (bs : List ℕ) → front_of (61 ∷ 32 ∷ bs) ≡ (a_token (kind.Sign sign.Assign), 32 ∷ bs)
unfolding front_at slashed_at sign_at
assign_front [] = refl
assign_front (b ∷ bs) = refl

no_underscore : (c : ℕ) → IsInRange 48 57 c → eqb c 95 ≡ false
no_underscore c h = grind (arith, nat_tests)

folds_one : (n c : ℕ) (cs : List ℕ) → IsInRange 48 57 c → decimal_behind n (c ∷ cs) ≡ decimal_behind (n * 10 + (c - 48)) cs
folds_one n c cs h = rw (no_underscore c h) refl

folds : FoldsDigits decimal_behind
folds = record { empty = λ n. refl; more = λ n c cs h. folds_one n c cs h }

pub numerals : IsNumeralModel (λ ds. list_all is_digit ds ≡ true) (decimal_behind 0)
numerals = numerals_by_fold _ (search rules) decimal_behind folds

number_is : (ds bs : List ℕ) (n : ℕ) → decimal_behind 0 ds ≡ n → n < 2 ^ 63 → goes_on bs ≡ false → number_before ds bs ≡ kind.Number (pos n)
unfolding number_of
number_is ds [] n e h g = rw e (let small : nat_lt n (2 ^ 63) ≡ true = grind (arith, nat_tests) in rw small refl)
number_is ds (b ∷ bs) n e h g = rw (no_letter b g, e) (let small : nat_lt n (2 ^ 63) ≡ true = grind (arith, nat_tests) in rw small refl)

digits_front : (ds : List ℕ) (n : ℕ) (bs : List ℕ) → 0 < length ds → list_all is_digit ds ≡ true → decimal_behind 0 ds ≡ n → n < 2 ^ 63 → goes_on bs ≡ false → front_of (ds ++ bs) ≡ (a_token (kind.Number (pos n)), bs)
digits_front [] n bs some all e h g = absurd (omega arith)
digits_front (x ∷ ds) n bs some all e h g =
    let len : prefix_len is_number_byte (x ∷ (ds ++ bs)) ≡ length (x ∷ ds) = passed is_number_byte (x ∷ ds) bs (all_number (x ∷ ds) all) (number_stopped bs g) in
    let front : take_while is_number_byte (x ∷ (ds ++ bs)) ≡ x ∷ ds = ap (λ n. take n (x ∷ (ds ++ bs))) len ∙ take_front (x ∷ ds) bs in
    let rest : drop (prefix_len is_number_byte (x ∷ (ds ++ bs))) (x ∷ (ds ++ bs)) ≡ bs = ap (λ n. drop n (x ∷ (ds ++ bs))) len ∙ drop_front (x ∷ ds) bs in
    front_of_digit x (ds ++ bs) (both_true (is_digit x) (list_all is_digit ds) all).0 ∙ ap (λ v. (a_token (number_before v (drop (prefix_len is_number_byte (x ∷ (ds ++ bs))) (x ∷ (ds ++ bs)))), drop (prefix_len is_number_byte (x ∷ (ds ++ bs))) (x ∷ (ds ++ bs)))) front ∙ ap (λ v. (a_token (number_before (x ∷ ds) v), v)) rest ∙ ap (λ k. (a_token k, bs)) (number_is (x ∷ ds) bs n e h g)

-- a number is taken up to what ends it
pub number_front : (n : ℕ) (bs : List ℕ) → n < 2 ^ 63 → goes_on bs ≡ false → front_of (decimal n ++ bs) ≡ (a_token (kind.Number (pos n)), bs)
number_front n bs h g =
    let long : n < 2 ^ 64 = omega arith in
    digits_front (decimal n) n bs (decimal_nonempty n long) (digits_decimal numerals n long) (digits_value-decimal numerals n long) h g
