-- A text has no more tokens than bytes.
use Rattle.std.proofs.Common.{◌≡◌, ℕ, suc, ◌+◌, ◌≤◌, Bool, true, false, cond, ◌==◌, ◌&&◌, List, [], ◌∷◌, length, drop, Option, Some, None, ap, refl, arith, length-drop}
use Rattle.std.specs.List.{prefix_len, take_while}
use Rattle.std.proofs.lemmas.Bool.{cond_both}
use Rattle.script_tokens.specs.declared.mark.Mark.{Mark}
use Rattle.script_tokens.specs.Bytes.{is_space, is_digit, is_letter, is_name_byte, is_no_line_feed}
use Rattle.script_tokens.specs.Pieces.{TokenView}
use Rattle.script_tokens.specs.Lexes.{number_of, word_of, pair_of, single_of, lone, paired, mark_at, front_at, Lexes, at_end, separated, next_is}

-- What is after the front of a text has at most this many bytes.
abbrev LeavesAtMost : ℕ → Option TokenView × List ℕ → Type 0
LeavesAtMost n f = length f.1 ≤ n

one_passes : (here : Bool) (n : ℕ) (b : ℕ) (bs : List ℕ) → here ≡ true → length (drop (cond here (1 + n) 0) (b ∷ bs)) ≤ length bs
one_passes true n b bs e = omega (arith, length-drop (1 + n) (b ∷ bs))
one_passes false n b bs e = absurd (cc)

letter_passes : (b : ℕ) → is_letter b ≡ true → is_name_byte b ≡ true
letter_passes b e = rw e refl

pair_leaves : (o : Option Mark) (a b : ℕ) (bs : List ℕ) → LeavesAtMost (suc (length bs)) (paired o a b bs)
pair_leaves (Some m) a b bs = omega arith
pair_leaves None a b bs =
    cond_both (a == 47 && b == 47) (None, drop (prefix_len is_no_line_feed bs) bs) (Some (lone (single_of a)), b ∷ bs) (LeavesAtMost (suc (length bs)))
    (λ e. omega (arith, length-drop (prefix_len is_no_line_feed bs) bs)) (λ e. omega arith)

mark_leaves : (a : ℕ) (bs : List ℕ) → LeavesAtMost (length bs) (mark_at a bs)
unfolding mark_at
mark_leaves a [] = omega arith
mark_leaves a (b ∷ bs) = pair_leaves (pair_of a b) a b bs

pub front_leaves : (b : ℕ) (bs : List ℕ) → length (front_at b bs).1 ≤ length bs
unfolding front_at
front_leaves b bs =
    let digits : Option TokenView × List ℕ = (Some (number_of (take_while is_digit (b ∷ bs))), drop (prefix_len is_digit (b ∷ bs)) (b ∷ bs)) in
    let word : Option TokenView × List ℕ = (Some (word_of (take_while is_name_byte (b ∷ bs))), drop (prefix_len is_name_byte (b ∷ bs)) (b ∷ bs)) in
    cond_both (is_space b) (None, bs) (cond (is_digit b) digits (cond (is_letter b) word (mark_at b bs))) (LeavesAtMost (length bs))
    (λ e. omega arith)
    (λ e. cond_both (is_digit b) digits (cond (is_letter b) word (mark_at b bs)) (LeavesAtMost (length bs))
    (λ d. one_passes (is_digit b) (prefix_len is_digit bs) b bs d)
    (λ d. cond_both (is_letter b) word (mark_at b bs) (LeavesAtMost (length bs))
    (λ l. one_passes (is_name_byte b) (prefix_len is_name_byte bs) b bs (letter_passes b l))
    (λ l. mark_leaves b bs)))

pub few_tokens : {text : List ℕ} {ps : List TokenView} → Lexes text ps → length ps ≤ length text
few_tokens at_end = omega arith
few_tokens (separated {b = b} {bs = bs} {rest = rest} {ps = ps} e d) =
    omega (arith, few_tokens d, front_leaves b bs, ap (λ (f : Option TokenView × List ℕ). length f.1) e)
few_tokens (next_is {b = b} {bs = bs} {rest = rest} {p = p} {ps = ps} e d) =
    omega (arith, few_tokens d, front_leaves b bs, ap (λ (f : Option TokenView × List ℕ). length f.1) e)
