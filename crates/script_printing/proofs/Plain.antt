-- What is printed of tokens that can be read has only bytes that a script may contain.
use Rattle.script_printing.proofs.Prelude.{◌≡◌, ℕ, pos, negsuc, zero, suc, ◌<◌, ◌^◌, Bool, true, List, [], ◌∷◌, ◌++◌, refl, ◌∙◌, arith, All, flat_map, list_all, slice_index, nat_tests, digits_decimal, All-head, All-tail, decimal, is_digit, is_name_byte, is_text_byte, is_text, Keyword, Mark, TokenView, Num, Huge, Name, Key, Sign, Stray, ScriptView, declarations_of, pieces_of_decl, pieces_of_script, spaced, line_of, printed, IsReadable, spelling, mark_spelling, text_of}
use Rattle.std.specs.Str.{IsAscii}
use Rattle.std.proofs.lemmas.Bool.{and_from}
use Rattle.std.proofs.lemmas.List.Folds.{list_all-append}
use Rattle.script_tokens.specs.declared.keyword.Keyword.TheVariants as key
use Rattle.script_tokens.specs.declared.mark.Mark.TheVariants as mark
use Rattle.script_printing.proofs.Lexed.{All-front, All-back, both_true, numerals}

-- texts after one another are a text
text_append : (xs ys : List ℕ) → is_text xs ≡ true → is_text ys ≡ true → is_text (xs ++ ys) ≡ true
text_append xs ys h k = list_all-append is_text_byte xs ys ∙ and_from (is_text xs) (is_text ys) h k

-- what passes one test passes another, byte by byte
all_so : (p q : ℕ → Bool) → ((b : ℕ) → p b ≡ true → q b ≡ true) → (w : List ℕ) → list_all p w ≡ true → list_all q w ≡ true
all_so p q so [] h = refl
all_so p q so (b ∷ bs) h =
    let k : (p b ≡ true) × (list_all p bs ≡ true) = both_true (p b) (list_all p bs) h in
    and_from (q b) (list_all q bs) (so b k.0) (all_so p q so bs k.1)

name_byte_is_text : (b : ℕ) → is_name_byte b ≡ true → is_text_byte b ≡ true
name_byte_is_text b h = grind (arith, nat_tests)

digit_is_text : (b : ℕ) → is_digit b ≡ true → is_text_byte b ≡ true
digit_is_text b h = grind (arith, nat_tests)

mark_is_text : (m : Mark) → is_text (mark_spelling m) ≡ true
mark_is_text mark.Open = refl
mark_is_text _ = refl

keyword_is_text : (k : Keyword) → is_text (spelling k) ≡ true
keyword_is_text key.Add = refl
keyword_is_text _ = refl

decimal_is_text : (n : ℕ) → n < 2 ^ 63 → is_text (decimal n) ≡ true
decimal_is_text n h = let long : n < 2 ^ 64 = omega arith in all_so is_digit is_text_byte digit_is_text (decimal n) (digits_decimal numerals n long)

piece_is_text : (p : TokenView) → IsReadable p → is_text (text_of p) ≡ true
piece_is_text (Num (pos n)) h = decimal_is_text n h
piece_is_text (Num (negsuc n)) h = absurd h
piece_is_text Huge h = absurd h
piece_is_text (Name w) h = all_so is_name_byte is_text_byte name_byte_is_text w h.bytes
piece_is_text (Key k) h = keyword_is_text k
piece_is_text (Sign m) h = mark_is_text m
piece_is_text Stray h = absurd h

spaced_is_text : (ps : List TokenView) → All IsReadable ps → is_text (spaced ps) ≡ true
spaced_is_text [] h = refl
spaced_is_text (p ∷ ps) h =
    text_append (text_of p) (spaced ps) (piece_is_text p (All-head IsReadable p ps h)) (spaced_is_text ps (All-tail IsReadable p ps h))

line_is_text : (ps : List TokenView) → All IsReadable ps → is_text (line_of ps) ≡ true
line_is_text [] h = refl
line_is_text (p ∷ ps) h =
    text_append (text_of p) (spaced ps ++ 10 ∷ []) (piece_is_text p (All-head IsReadable p ps h)) (text_append (spaced ps) (10 ∷ []) (spaced_is_text ps (All-tail IsReadable p ps h)) refl)

lines_are_text : {A : Type 0} (f : A → List TokenView) (xs : List A) → All IsReadable (flat_map f xs) → is_text (flat_map (λ x. line_of (f x)) xs) ≡ true
lines_are_text f [] h = refl
lines_are_text f (x ∷ xs) h =
    text_append (line_of (f x)) (flat_map (λ y. line_of (f y)) xs) (line_is_text (f x) (All-front IsReadable (f x) (flat_map f xs) h)) (lines_are_text f xs (All-back IsReadable (f x) (flat_map f xs) h))

pub script_is_text : (s : ScriptView) → All IsReadable (pieces_of_script s) → is_text (printed s) ≡ true
script_is_text s h = lines_are_text pieces_of_decl (declarations_of s) h

low_byte : (b : ℕ) → is_text_byte b ≡ true → b < 128
low_byte b h = grind (arith, nat_tests)

-- what a script may contain is ASCII
pub text_is_ascii : (bs : List ℕ) → is_text bs ≡ true → IsAscii bs
text_is_ascii [] h = λ i. omega arith
text_is_ascii (b ∷ bs) h =
    let k : (is_text_byte b ≡ true) × (is_text bs ≡ true) = both_true (is_text_byte b) (is_text bs) h in
    λ i. elim i as (λ k. slice_index (b ∷ bs) k < 128) [ zero ↦ low_byte b k.0 | suc j ↦ text_is_ascii bs k.1 j ]
