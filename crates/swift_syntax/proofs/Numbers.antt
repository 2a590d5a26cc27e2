-- The value of digits.
use Rattle.std.proofs.Common.{◌≡◌, ℕ, pos, Bool, true, false, cond, eqb, ◌+◌, ◌-◌, ◌*◌, ◌^◌, ◌<◌, ◌≤◌, List, [], ◌∷◌, length, suc, get_or, drop, drop-cons, refl, sym, ap, ◌∙◌, arith}
use Rattle.std.proofs.lemmas.Bool.{le-ltb, lt-ltb}
use Rattle.std.proofs.lemmas.List.{drop_all}
use Rattle.swift_syntax.specs.Fronts.{decimal_behind, decimal, number_of}
use Rattle.swift_syntax.specs.declared.token.TokenKind.TheVariants as kind

grows_by : (b : Bool) (n m : ℕ) → n ≤ m → n ≤ cond b n m
grows_by true n m le = omega arith
grows_by false n m le = le

pub decimal_grows : (n : ℕ) (ds : List ℕ) → n ≤ decimal_behind n ds
decimal_grows n [] = omega arith
decimal_grows n (d ∷ ds) = omega (arith, decimal_grows (cond (eqb d 95) n (n * 10 + (d - 48))) ds, grows_by (eqb d 95) n (n * 10 + (d - 48)) (omega arith))

pub number_huge : (ds : List ℕ) → 2 ^ 63 ≤ decimal ds → number_of ds ≡ kind.Huge
unfolding number_of
number_huge ds le = rw (le-ltb (decimal ds) (2 ^ 63) le) refl

pub number_fits : (ds : List ℕ) → decimal ds < 2 ^ 63 → number_of ds ≡ kind.Number (pos (decimal ds))
unfolding number_of
number_fits ds lt = rw (lt-ltb (decimal ds) (2 ^ 63) lt) refl

-- what the digits from a place on spell, where the one there is no `_`
step : (v i : ℕ) (ds : List ℕ) → i < length ds → eqb (get_or ds i 0) 95 ≡ false → decimal_behind v (drop i ds) ≡ decimal_behind (v * 10 + (get_or ds i 0 - 48)) (drop (suc i) ds)
step v i ds lt digit =
    let cut : decimal_behind v (drop i ds) ≡ decimal_behind (cond (eqb (get_or ds i 0) 95) v (v * 10 + (get_or ds i 0 - 48))) (drop (suc i) ds) = rw (drop-cons ds i 0) refl in
    cut ∙ ap (λ b. decimal_behind (cond b v (v * 10 + (get_or ds i 0 - 48))) (drop (suc i) ds)) digit

pub number_too_large : (v i : ℕ) (ds : List ℕ) → i < length ds → eqb (get_or ds i 0) 95 ≡ false → decimal_behind v (drop i ds) ≡ decimal ds → 922337203685477580 < v → number_of ds ≡ kind.Huge
number_too_large v i ds lt digit e large =
    let cut : decimal_behind v (drop i ds) ≡ decimal_behind (v * 10 + (get_or ds i 0 - 48)) (drop (suc i) ds) = step v i ds lt digit in
    number_huge ds (omega (arith, decimal_grows (v * 10 + (get_or ds i 0 - 48)) (drop (suc i) ds)))

pub all_read : (v i : ℕ) (ds : List ℕ) → length ds ≤ i → decimal_behind v (drop i ds) ≡ decimal ds → v ≡ decimal ds
all_read v i ds le e = ap (decimal_behind v) (sym (drop_all i ds le)) ∙ e
