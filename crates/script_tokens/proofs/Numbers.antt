-- The value of digits.
use Rattle.std.proofs.Common.{◌≡◌, ℕ, pos, ◌+◌, ◌-◌, ◌*◌, ◌^◌, ◌<◌, ◌≤◌, List, [], ◌∷◌, length, suc, get_or, drop, drop-cons, refl, sym, ap, ◌∙◌, arith}
use Rattle.std.proofs.lemmas.Bool.{le-ltb, lt-ltb}
use Rattle.std.proofs.lemmas.List.{drop_all}
use Rattle.script_tokens.specs.Pieces.{Num, Huge}
use Rattle.script_tokens.specs.Lexes.{decimal_behind, decimal, number_of}

pub decimal_grows : (n : ℕ) (ds : List ℕ) → n ≤ decimal_behind n ds
decimal_grows n [] = omega arith
decimal_grows n (d ∷ ds) = omega (arith, decimal_grows (n * 10 + (d - 48)) ds)

pub number_huge : (ds : List ℕ) → 2 ^ 63 ≤ decimal ds → number_of ds ≡ Huge
unfolding number_of
number_huge ds le = rw (le-ltb (decimal ds) (2 ^ 63) le) refl

pub number_fits : (ds : List ℕ) → decimal ds < 2 ^ 63 → number_of ds ≡ Num (pos (decimal ds))
unfolding number_of
number_fits ds lt = rw (lt-ltb (decimal ds) (2 ^ 63) lt) refl

pub number_too_large : (v i : ℕ) (ds : List ℕ) → i < length ds → decimal_behind v (drop i ds) ≡ decimal ds → 922337203685477580 < v → number_of ds ≡ Huge
number_too_large v i ds lt e large =
    let cut : decimal_behind v (drop i ds) ≡ decimal_behind (v * 10 + (get_or ds i 0 - 48)) (drop (suc i) ds) = rw (drop-cons ds i 0) refl in
    number_huge ds (omega (arith, decimal_grows (v * 10 + (get_or ds i 0 - 48)) (drop (suc i) ds)))

pub all_read : (v i : ℕ) (ds : List ℕ) → length ds ≤ i → decimal_behind v (drop i ds) ≡ decimal ds → v ≡ decimal ds
all_read v i ds le e = ap (decimal_behind v) (sym (drop_all i ds le)) ∙ e
