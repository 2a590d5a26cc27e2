-- Each turn is in one cell, in order, and a cell of several has turns that only give way.
use Rattle.run_pictures.proofs.Prelude.{◌≡◌, ℕ, zero, suc, ◌+◌, ◌-◌, ◌≤◌, Bool, true, false, List, [], ◌∷◌, ◌++◌, length, take, drop, refl, sym, ap, ◌∙◌, inl, inr, arith, subst, append_assoc, All, nat_lt, replicate, cond_both, ltb-false, drop-drop, length-replicate, replicate_more, Cell, AreOf, IsQuiet, cell, cells_from, cells_of, run_cells, single_cells}
use Rattle.std.proofs.lemmas.List.{append-nil}
use Rattle.std.proofs.lemmas.List.Elements.{All-append, All-cons, All-nil}
use Rattle.std.proofs.Math.Seq.{drop-append-add}

-- a cell for each of n turns, and then those after them
singles_are : (at n to : ℕ) (cs : List Cell) → AreOf (at + n) cs to → AreOf at (single_cells at n ++ cs) to
singles_are at zero to cs rest = subst (λ (k : ℕ). AreOf k cs to) (omega arith) rest
singles_are at (suc n) to cs rest = (refl, omega arith, singles_are (at + 1) n to cs (subst (λ (k : ℕ). AreOf k cs to) (omega arith) rest))

run_are : (at n to : ℕ) (cs : List Cell) → AreOf (at + n) cs to → AreOf at (run_cells at n ++ cs) to
run_are at n to cs rest =
    cond_both (nat_lt n 4) (single_cells at n) (cell at 1 ∷ cell (at + 1) (n - 1) ∷ []) (λ (xs : List Cell). AreOf at (xs ++ cs) to) (λ few. singles_are at n to cs rest)
    (λ many. (refl, omega arith, (refl, omega (arith, ltb-false n 4 many), subst (λ (k : ℕ). AreOf k cs to) (omega (arith, ltb-false n 4 many)) rest)))

from_are : (at run : ℕ) (qs : List Bool) → AreOf at (cells_from at run qs) (at + run + length qs)
from_are at run [] = subst (λ (xs : List Cell). AreOf at xs (at + run + 0)) (append-nil (run_cells at run)) (run_are at run (at + run + 0) [] (omega arith))
from_are at run (true ∷ qs) =
    let same : at + (run + 1) + length qs ≡ at + run + suc (length qs) = omega arith in
    subst (λ (k : ℕ). AreOf at (cells_from at (run + 1) qs) k) same (from_are at (run + 1) qs)
from_are at run (false ∷ qs) =
    let same : at + run + 1 + 0 + length qs ≡ at + run + suc (length qs) = omega arith in
    let rest = subst (λ (k : ℕ). AreOf (at + run + 1) (cells_from (at + run + 1) 0 qs) k) same (from_are (at + run + 1) 0 qs) in
    run_are at run (at + run + suc (length qs)) (cell (at + run) 1 ∷ cells_from (at + run + 1) 0 qs) (refl, omega arith, rest)

pub all_are : (quiet : List Bool) → AreOf 0 (cells_of quiet) (length quiet)
all_are quiet = subst (λ (k : ℕ). AreOf 0 (cells_of quiet) k) (omega arith) (from_are 0 0 quiet)

-- turns that only give way, at the front of a list
front_true : (r : ℕ) (qs : List Bool) → All (λ q. q ≡ true) (take r (replicate r true ++ qs))
front_true zero qs = All-nil (λ (q : Bool). q ≡ true)
front_true (suc r) qs = All-cons (λ (q : Bool). q ≡ true) true (take r (replicate r true ++ qs)) refl (front_true r qs)

fold_quiet : (whole : List Bool) (at run : ℕ) (qs : List Bool) → 1 ≤ run → drop at whole ≡ replicate run true ++ qs → All (λ q. q ≡ true) (take (run - 1) (drop (at + 1) whole))
fold_quiet whole at zero qs some is = absurd (omega (arith, some))
fold_quiet whole at (suc r) qs some is =
    let rest : drop (at + 1) whole ≡ replicate r true ++ qs = sym (drop-drop 1 at whole) ∙ ap (drop 1) is in
    let one_less : r ≡ suc r - 1 = omega arith in
    subst (λ (k : ℕ). All (λ q. q ≡ true) (take k (drop (at + 1) whole))) one_less (subst (λ (l : List Bool). All (λ q. q ≡ true) (take r l)) (sym rest) (front_true r qs))

singles_quiet : (whole : List Bool) (at n : ℕ) → All (IsQuiet whole) (single_cells at n)
singles_quiet whole at zero = All-nil (IsQuiet whole)
singles_quiet whole at (suc n) = All-cons (IsQuiet whole) (cell at 1) (single_cells (at + 1) n) (inl refl) (singles_quiet whole (at + 1) n)

run_quiet : (whole : List Bool) (at run : ℕ) (qs : List Bool) → drop at whole ≡ replicate run true ++ qs → All (IsQuiet whole) (run_cells at run)
run_quiet whole at run qs is =
    cond_both (nat_lt run 4) (single_cells at run) (cell at 1 ∷ cell (at + 1) (run - 1) ∷ []) (All (IsQuiet whole)) (λ few. singles_quiet whole at run)
    (λ many. All-cons (IsQuiet whole) (cell at 1) (cell (at + 1) (run - 1) ∷ []) (inl refl) (All-cons (IsQuiet whole) (cell (at + 1) (run - 1)) [] (inr (fold_quiet whole at run qs (omega (arith, ltb-false run 4 many)) is)) (All-nil (IsQuiet whole))))

one_more : (run : ℕ) (qs : List Bool) → replicate run true ++ true ∷ qs ≡ replicate (run + 1) true ++ qs
one_more run qs = sym (append_assoc (replicate run true) (true ∷ []) qs) ∙ ap (λ (xs : List Bool). xs ++ qs) (replicate_more run true)

past : (run : ℕ) (q : Bool) (qs : List Bool) → drop (run + 1) (replicate run true ++ q ∷ qs) ≡ qs
past run q qs = ap (λ (k : ℕ). drop (k + 1) (replicate run true ++ q ∷ qs)) (sym (length-replicate run true)) ∙ drop-append-add (replicate run true) (q ∷ qs) 1

quiet_from : (whole : List Bool) (at run : ℕ) (qs : List Bool) → drop at whole ≡ replicate run true ++ qs → All (IsQuiet whole) (cells_from at run qs)
quiet_from whole at run [] is = run_quiet whole at run [] is
quiet_from whole at run (true ∷ qs) is = quiet_from whole at (run + 1) qs (is ∙ one_more run qs)
quiet_from whole at run (false ∷ qs) is =
    let place : at + run + 1 ≡ at + (run + 1) = omega arith in
    let next : drop (at + run + 1) whole ≡ qs = ap (λ (k : ℕ). drop k whole) place ∙ sym (drop-drop (run + 1) at whole) ∙ ap (drop (run + 1)) is ∙ past run false qs in
    let after = cells_from (at + run + 1) 0 qs in
    All-append (IsQuiet whole) (run_cells at run) (cell (at + run) 1 ∷ after) (run_quiet whole at run (false ∷ qs) is) (All-cons (IsQuiet whole) (cell (at + run) 1) after (inl refl) (quiet_from whole (at + run + 1) 0 qs next))

pub all_quiet : (quiet : List Bool) → All (IsQuiet quiet) (cells_of quiet)
all_quiet quiet = quiet_from quiet 0 0 quiet refl
