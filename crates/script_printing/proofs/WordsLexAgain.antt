-- The names and numbers of a text's tokens can be read again.
use Rattle.script_printing.proofs.Prelude.{◌≡◌, ℕ, pos, ◌<◌, ◌^◌, Bool, true, false, ◌&&◌, cond, nat_lt, List, [], ◌∷◌, ◌==◌, drop, Option, Some, None, refl, ap, subst, ◌∙◌, arith, list_all, prefix_len, take_while, nat_tests, Keyword, Mark, is_space, is_digit, is_letter, is_name_byte, is_no_line_feed, TokenView, Num, Huge, Name, Key, Sign, Stray, word_as, pair_of, single_of, lone, paired, Lexes, at_end, separated, next_is, begins_with_letter, IsWord, IsNumber}
use Rattle.std.proofs.lemmas.List.Sums.{take_while-cons}
use Rattle.script_tokens.specs.Keywords.{keyword_of}
use Rattle.script_tokens.specs.Lexes.{decimal, number_of, word_of, mark_at, front_at}

-- a token of a text: a name that can be read again, a number that can, or something else
abbrev pub IsFound : TokenView → Type 0
IsFound (Num n) = IsNumber n
IsFound Huge = Unit {0}
IsFound (Name w) = IsWord w
IsFound (Key k) = Unit {0}
IsFound (Sign m) = Unit {0}
IsFound Stray = Unit {0}

abbrev pub AreFound : List TokenView → Type 0
AreFound [] = Unit {0}
AreFound (p ∷ ps) = IsFound p × AreFound ps

abbrev IsFoundIfAny : Option TokenView → Type 0
IsFoundIfAny None = Unit {0}
IsFoundIfAny (Some p) = IsFound p

-- a choice by a test
chosen : {A : Type 0} (P : A → Type 0) (c : Bool) (x y : A) → (c ≡ true → P x) → (c ≡ false → P y) → P (cond c x y)
chosen P true x y f g = f refl
chosen P false x y f g = g refl

less : (m n : ℕ) → nat_lt m n ≡ true → m < n
less m n e = grind (arith, nat_tests)

number_found : (ds : List ℕ) → IsFound (number_of ds)
unfolding number_of
number_found ds =
    chosen IsFound (nat_lt (decimal ds) (2 ^ 63)) (Num (pos (decimal ds))) Huge (λ e. less (decimal ds) (2 ^ 63) e) (λ e. tt)

all_taken : (p : ℕ → Bool) (xs : List ℕ) → list_all p (take_while p xs) ≡ true
all_taken p [] = refl
all_taken p (x ∷ xs) =
    ap (list_all p) (take_while-cons p x xs) ∙ chosen (λ v. list_all p v ≡ true) (p x) (x ∷ take_while p xs) [] (λ e. rw e (all_taken p xs)) (λ e. refl)

word_as_found : (k : Option Keyword) (w : List ℕ) → keyword_of w ≡ k → begins_with_letter w ≡ true → list_all is_name_byte w ≡ true → IsFound (word_as k w)
word_as_found None w e begins bytes = record { begins = begins; bytes = bytes; no_keyword = e }
word_as_found (Some k) w e begins bytes = tt

word_found : (b : ℕ) (bs : List ℕ) → is_letter b ≡ true → IsFound (word_of (take_while is_name_byte (b ∷ bs)))
unfolding word_of
word_found b bs h =
    let w = take_while is_name_byte (b ∷ bs) in
    let named : is_name_byte b ≡ true = rw h refl in
    let begins : w ≡ b ∷ take_while is_name_byte bs = take_while-cons is_name_byte b bs ∙ ap (λ c. cond c (b ∷ take_while is_name_byte bs) []) named in
    word_as_found (keyword_of w) w refl (ap begins_with_letter begins ∙ h) (all_taken is_name_byte (b ∷ bs))

lone_found : (m : Option Mark) → IsFound (lone m)
lone_found None = tt
lone_found (Some m) = tt

paired_found : (m : Option Mark) (a b : ℕ) (bs : List ℕ) → IsFoundIfAny (paired m a b bs).0
paired_found (Some m) a b bs = tt
paired_found None a b bs =
    let P : Option TokenView × List ℕ → Type 0 = λ v. IsFoundIfAny v.0 in
    let none : P (None, drop (prefix_len is_no_line_feed bs) bs) = tt in
    chosen P (a == 47 && b == 47) (None, drop (prefix_len is_no_line_feed bs) bs) (Some (lone (single_of a)), b ∷ bs) (λ e. none) (λ e. lone_found (single_of a))

mark_found : (a : ℕ) (bs : List ℕ) → IsFoundIfAny (mark_at a bs).0
unfolding mark_at
mark_found a [] = lone_found (single_of a)
mark_found a (b ∷ bs) = paired_found (pair_of a b) a b bs

front_found : (b : ℕ) (bs : List ℕ) → IsFoundIfAny (front_at b bs).0
unfolding front_at
front_found b bs =
    let P : Option TokenView × List ℕ → Type 0 = λ v. IsFoundIfAny v.0 in
    let space : Option TokenView × List ℕ = (None, bs) in
    let digits : Option TokenView × List ℕ = (Some (number_of (take_while is_digit (b ∷ bs))), drop (prefix_len is_digit (b ∷ bs)) (b ∷ bs)) in
    let word : Option TokenView × List ℕ = (Some (word_of (take_while is_name_byte (b ∷ bs))), drop (prefix_len is_name_byte (b ∷ bs)) (b ∷ bs)) in
    let third : P (cond (is_letter b) word (mark_at b bs)) = chosen P (is_letter b) word (mark_at b bs) (λ h. word_found b bs h) (λ g. mark_found b bs) in
    let second : P (cond (is_digit b) digits (cond (is_letter b) word (mark_at b bs))) = chosen P (is_digit b) digits (cond (is_letter b) word (mark_at b bs)) (λ f. number_found (take_while is_digit (b ∷ bs))) (λ f. third) in
    let none : P space = tt in
    chosen P (is_space b) space (cond (is_digit b) digits (cond (is_letter b) word (mark_at b bs))) (λ e. none) (λ e. second)

-- the tokens of a text
pub lexes_found : {bytes : List ℕ} {ps : List TokenView} → Lexes bytes ps → AreFound ps
lexes_found at_end = tt
lexes_found (separated e d) = lexes_found d
lexes_found (next_is {b} {bs} {rest} {p} {ps} e d) =
    (subst IsFoundIfAny (ap (λ (v : Option TokenView × List ℕ). v.0) e) (front_found b bs), lexes_found d)
