-- What is printed of tokens consists of these tokens.
use Rattle.script_printing.proofs.Prelude.{◌≡◌, ℕ, pos, negsuc, ◌<◌, ◌^◌, ◌⊎◌, inl, inr, Bool, true, false, ◌&&◌, nat_lt, List, [], ◌∷◌, ◌++◌, length, take, drop, Some, None, refl, sym, ap, subst, ◌∙◌, append_assoc, arith, rules, All, flat_map, list_all, prefix_len, take_while, decimal, All-nil, All-cons, All-head, All-tail, nat_tests, digits_decimal, digits_value-decimal, decimal_nonempty, Keyword, Mark, is_space, is_digit, is_letter, is_name_byte, TokenView, Num, Huge, Name, Key, Sign, Stray, decimal_behind, word_as, front_of, Lexes, at_end, separated, next_is, spelling, mark_spelling, text_of, IsWord, IsReadable, spaced, line_of, printed, ScriptView, declarations_of, pieces_of_decl, pieces_of_script}
use Rattle.std.proofs.lemmas.Str.Parse.{IsNumeralModel, numerals_by_fold}
use Rattle.script_tokens.specs.declared.keyword.Keyword.TheVariants as key
use Rattle.script_tokens.specs.declared.mark.Mark.TheVariants as mark
use Rattle.script_tokens.specs.Lexes.{number_of, word_of, mark_at, front_at}

-- white space stands at the front
abbrev Breaks : List ℕ → Type 0
Breaks [] = ⊥
Breaks (b ∷ bs) = (b ≡ 32) ⊎ (b ≡ 10)

pub mark_space : (m : Mark) (bs : List ℕ) → front_of (mark_spelling m ++ 32 ∷ bs) ≡ (Some (Sign m), 32 ∷ bs)
unfolding front_at mark_at
mark_space mark.Open bs = refl
mark_space _ bs = refl

pub mark_feed : (m : Mark) (bs : List ℕ) → front_of (mark_spelling m ++ 10 ∷ bs) ≡ (Some (Sign m), 10 ∷ bs)
unfolding front_at mark_at
mark_feed mark.Open bs = refl
mark_feed _ bs = refl

pub keyword_space : (k : Keyword) (bs : List ℕ) → front_of (spelling k ++ 32 ∷ bs) ≡ (Some (Key k), 32 ∷ bs)
unfolding front_at word_of
keyword_space key.Add bs = refl
keyword_space _ bs = refl

pub keyword_feed : (k : Keyword) (bs : List ℕ) → front_of (spelling k ++ 10 ∷ bs) ≡ (Some (Key k), 10 ∷ bs)
unfolding front_at word_of
keyword_feed key.Add bs = refl
keyword_feed _ bs = refl

pub both_true : (a b : Bool) → (a && b) ≡ true → (a ≡ true) × (b ≡ true)
both_true true b h = (refl, h)
both_true false b h = (h, cc)

pub All-front : {A : Type 0} (P : A → Type 0) (xs ys : List A) → All P (xs ++ ys) → All P xs
All-front P [] ys h = All-nil P
All-front P (x ∷ xs) ys h = All-cons P x xs (All-head P x (xs ++ ys) h) (All-front P xs ys (All-tail P x (xs ++ ys) h))

pub All-back : {A : Type 0} (P : A → Type 0) (xs ys : List A) → All P (xs ++ ys) → All P ys
All-back P [] ys h = h
All-back P (x ∷ xs) ys h = All-back P xs ys (All-tail P x (xs ++ ys) h)

-- what passes stands before what does not
pub passed : (p : ℕ → Bool) (w : List ℕ) (c : ℕ) (rest : List ℕ) → list_all p w ≡ true → p c ≡ false → prefix_len p (w ++ c ∷ rest) ≡ length w
passed p [] c rest h stop = rw stop refl
passed p (x ∷ w) c rest h stop =
    let k : (p x ≡ true) × (list_all p w ≡ true) = both_true (p x) (list_all p w) h in
    rw k.0 (rw (passed p w c rest k.1 stop) (omega arith))

pub take_front : (xs ys : List ℕ) → take (length xs) (xs ++ ys) ≡ xs
take_front [] ys = refl
take_front (x ∷ xs) ys = ap (λ zs. x ∷ zs) (take_front xs ys)

pub drop_front : (xs ys : List ℕ) → drop (length xs) (xs ++ ys) ≡ ys
drop_front [] ys = refl
drop_front (x ∷ xs) ys = drop_front xs ys

space_is_no_name : (b : ℕ) → (b ≡ 32) ⊎ (b ≡ 10) → is_name_byte b ≡ false
space_is_no_name b h = elim h [ inl e ↦ rw e refl | inr e ↦ rw e refl ]

space_is_no_digit : (b : ℕ) → (b ≡ 32) ⊎ (b ≡ 10) → is_digit b ≡ false
space_is_no_digit b h = elim h [ inl e ↦ rw e refl | inr e ↦ rw e refl ]

pub letter_is_no_space : (b : ℕ) → is_letter b ≡ true → is_space b ≡ false
letter_is_no_space b h = grind (arith, nat_tests)

pub letter_is_no_digit : (b : ℕ) → is_letter b ≡ true → is_digit b ≡ false
letter_is_no_digit b h = grind (arith, nat_tests)

pub digit_is_no_space : (b : ℕ) → is_digit b ≡ true → is_space b ≡ false
digit_is_no_space b h = grind (arith, nat_tests)

pub numerals : IsNumeralModel (λ ds. list_all is_digit ds ≡ true) (decimal_behind 0)
numerals = numerals_by_fold _ (search rules) decimal_behind (search rules)

-- a keyword or a mark
keyword_front : (k : Keyword) (bs : List ℕ) → Breaks bs → front_of (spelling k ++ bs) ≡ (Some (Key k), bs)
keyword_front k [] h = absurd h
keyword_front k (b ∷ bs) h = elim h [ inl e ↦ rw e (keyword_space k bs) | inr e ↦ rw e (keyword_feed k bs) ]

mark_front : (m : Mark) (bs : List ℕ) → Breaks bs → front_of (mark_spelling m ++ bs) ≡ (Some (Sign m), bs)
mark_front m [] h = absurd h
mark_front m (b ∷ bs) h = elim h [ inl e ↦ rw e (mark_space m bs) | inr e ↦ rw e (mark_feed m bs) ]

front_of_letter : (b : ℕ) (bs : List ℕ) → is_letter b ≡ true → front_of (b ∷ bs) ≡ (Some (word_of (take_while is_name_byte (b ∷ bs))), drop (prefix_len is_name_byte (b ∷ bs)) (b ∷ bs))
unfolding front_at
front_of_letter b bs h = rw (letter_is_no_space b h, letter_is_no_digit b h, h) refl

front_of_digit : (b : ℕ) (bs : List ℕ) → is_digit b ≡ true → front_of (b ∷ bs) ≡ (Some (number_of (take_while is_digit (b ∷ bs))), drop (prefix_len is_digit (b ∷ bs)) (b ∷ bs))
unfolding front_at
front_of_digit b bs h = rw (digit_is_no_space b h, h) refl

-- a word is taken up to what ends it
word_front : (w : List ℕ) (bs : List ℕ) → IsWord w → Breaks bs → front_of (w ++ bs) ≡ (Some (Name w), bs)
unfolding front_at word_of
word_front w [] h breaks = absurd breaks
word_front [] (b ∷ bs) h breaks = cc (h.begins)
word_front (x ∷ w) (b ∷ bs) h breaks =
    let len : prefix_len is_name_byte (x ∷ (w ++ b ∷ bs)) ≡ length (x ∷ w) = passed is_name_byte (x ∷ w) b bs h.bytes (space_is_no_name b breaks) in
    let front : take_while is_name_byte (x ∷ (w ++ b ∷ bs)) ≡ x ∷ w = ap (λ n. take n (x ∷ (w ++ b ∷ bs))) len ∙ take_front (x ∷ w) (b ∷ bs) in
    let rest : drop (prefix_len is_name_byte (x ∷ (w ++ b ∷ bs))) (x ∷ (w ++ b ∷ bs)) ≡ b ∷ bs = ap (λ n. drop n (x ∷ (w ++ b ∷ bs))) len ∙ drop_front (x ∷ w) (b ∷ bs) in
    front_of_letter x (w ++ b ∷ bs) h.begins ∙ ap (λ v. (Some (word_of v), drop (prefix_len is_name_byte (x ∷ (w ++ b ∷ bs))) (x ∷ (w ++ b ∷ bs)))) front ∙ ap (λ v. (Some (word_of (x ∷ w)), v)) rest ∙ ap (λ k. (Some (word_as k (x ∷ w)), b ∷ bs)) h.no_keyword

number_is : (ds : List ℕ) (n : ℕ) → decimal_behind 0 ds ≡ n → n < 2 ^ 63 → number_of ds ≡ Num (pos n)
unfolding number_of
number_is ds n e h = rw e (let small : nat_lt n (2 ^ 63) ≡ true = grind (arith, nat_tests) in rw small refl)

-- digits are taken up to what ends them
digits_front : (ds : List ℕ) (n : ℕ) (bs : List ℕ) → 0 < length ds → list_all is_digit ds ≡ true → decimal_behind 0 ds ≡ n → n < 2 ^ 63 → Breaks bs → front_of (ds ++ bs) ≡ (Some (Num (pos n)), bs)
digits_front ds n [] some all e h breaks = absurd breaks
digits_front [] n (b ∷ bs) some all e h breaks = absurd (omega arith)
digits_front (x ∷ ds) n (b ∷ bs) some all e h breaks =
    let len : prefix_len is_digit (x ∷ (ds ++ b ∷ bs)) ≡ length (x ∷ ds) = passed is_digit (x ∷ ds) b bs all (space_is_no_digit b breaks) in
    let front : take_while is_digit (x ∷ (ds ++ b ∷ bs)) ≡ x ∷ ds = ap (λ n. take n (x ∷ (ds ++ b ∷ bs))) len ∙ take_front (x ∷ ds) (b ∷ bs) in
    let rest : drop (prefix_len is_digit (x ∷ (ds ++ b ∷ bs))) (x ∷ (ds ++ b ∷ bs)) ≡ b ∷ bs = ap (λ n. drop n (x ∷ (ds ++ b ∷ bs))) len ∙ drop_front (x ∷ ds) (b ∷ bs) in
    front_of_digit x (ds ++ b ∷ bs) (both_true (is_digit x) (list_all is_digit ds) all).0 ∙ ap (λ v. (Some (number_of v), drop (prefix_len is_digit (x ∷ (ds ++ b ∷ bs))) (x ∷ (ds ++ b ∷ bs)))) front ∙ ap (λ v. (Some (number_of (x ∷ ds)), v)) rest ∙ ap (λ p. (Some p, b ∷ bs)) (number_is (x ∷ ds) n e h)

-- a number is taken up to what ends it
number_front : (n : ℕ) (bs : List ℕ) → n < 2 ^ 63 → Breaks bs → front_of (decimal n ++ bs) ≡ (Some (Num (pos n)), bs)
number_front n bs h breaks =
    let long : n < 2 ^ 64 = omega arith in
    digits_front (decimal n) n bs (decimal_nonempty n long) (digits_decimal numerals n long) (digits_value-decimal numerals n long) h breaks

-- a token is taken up to what ends it
piece_front : (p : TokenView) (bs : List ℕ) → IsReadable p → Breaks bs → front_of (text_of p ++ bs) ≡ (Some p, bs)
piece_front (Num (pos n)) bs h breaks = number_front n bs h breaks
piece_front (Num (negsuc n)) bs h breaks = absurd h
piece_front Huge bs h breaks = absurd h
piece_front (Name w) bs h breaks = word_front w bs h breaks
piece_front (Key k) bs h breaks = keyword_front k bs breaks
piece_front (Sign m) bs h breaks = mark_front m bs breaks
piece_front Stray bs h breaks = absurd h

lexed_next : (bytes rest : List ℕ) (p : TokenView) (ps : List TokenView) → front_of bytes ≡ (Some p, rest) → Lexes rest ps → Lexes bytes (p ∷ ps)
lexed_next [] rest p ps e d = absurd (let f : None ≡ Some p = ap (λ x. x.0) e in cc f)
lexed_next (b ∷ bs) rest p ps e d = next_is e d

after_space : (bs : List ℕ) (ps : List TokenView) → Lexes bs ps → Lexes (32 ∷ bs) ps
unfolding front_at
after_space bs ps d = separated refl d

after_feed : (bs : List ℕ) (ps : List TokenView) → Lexes bs ps → Lexes (10 ∷ bs) ps
unfolding front_at
after_feed bs ps d = separated refl d

spaced_breaks : (ps : List TokenView) (bs : List ℕ) → Breaks bs → Breaks (spaced ps ++ bs)
spaced_breaks [] bs h = h
spaced_breaks (p ∷ ps) bs h = inl refl

-- tokens after spaces
spaced_lexes : (ps qs : List TokenView) (bs : List ℕ) → All IsReadable ps → Breaks bs → Lexes bs qs → Lexes (spaced ps ++ bs) (ps ++ qs)
spaced_lexes [] qs bs h breaks d = d
spaced_lexes (p ∷ ps) qs bs h breaks d =
    after_space ((text_of p ++ spaced ps) ++ bs) (p ∷ (ps ++ qs)) (rw (append_assoc (text_of p) (spaced ps) bs) (lexed_next (text_of p ++ (spaced ps ++ bs)) (spaced ps ++ bs) p (ps ++ qs) (piece_front p (spaced ps ++ bs) (All-head IsReadable p ps h) (spaced_breaks ps bs breaks)) (spaced_lexes ps qs bs (All-tail IsReadable p ps h) breaks d)))

-- a line
line_lexes : (ps qs : List TokenView) (bs : List ℕ) → All IsReadable ps → Lexes bs qs → Lexes (line_of ps ++ bs) (ps ++ qs)
line_lexes [] qs bs h d = after_feed bs qs d
line_lexes (p ∷ ps) qs bs h d =
    let breaks : Breaks (10 ∷ bs) = inr refl in
    let e : (text_of p ++ (spaced ps ++ 10 ∷ [])) ++ bs ≡ text_of p ++ (spaced ps ++ 10 ∷ bs) = append_assoc (text_of p) (spaced ps ++ 10 ∷ []) bs ∙ ap (λ v. text_of p ++ v) (append_assoc (spaced ps) (10 ∷ []) bs) in
    subst (λ v. Lexes v (p ∷ (ps ++ qs))) (sym e) (lexed_next (text_of p ++ (spaced ps ++ 10 ∷ bs)) (spaced ps ++ 10 ∷ bs) p (ps ++ qs) (piece_front p (spaced ps ++ 10 ∷ bs) (All-head IsReadable p ps h) (spaced_breaks ps (10 ∷ bs) breaks)) (spaced_lexes ps qs (10 ∷ bs) (All-tail IsReadable p ps h) breaks (after_feed bs qs d)))

-- lines
lines_lex : {A : Type 0} (f : A → List TokenView) (xs : List A) → All IsReadable (flat_map f xs) → Lexes (flat_map (λ x. line_of (f x)) xs) (flat_map f xs)
lines_lex f [] h = at_end
lines_lex f (x ∷ xs) h =
    line_lexes (f x) (flat_map f xs) (flat_map (λ y. line_of (f y)) xs) (All-front IsReadable (f x) (flat_map f xs) h) (lines_lex f xs (All-back IsReadable (f x) (flat_map f xs) h))

pub script_lexes : (s : ScriptView) → All IsReadable (pieces_of_script s) → Lexes (printed s) (pieces_of_script s)
script_lexes s h = lines_lex pieces_of_decl (declarations_of s) h
