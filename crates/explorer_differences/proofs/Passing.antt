-- Lines of texts, one after the other.
use Rattle.std.proofs.Common.{◌≡◌, ℕ, zero, suc, ◌+◌, ◌-◌, ◌<◌, ◌≤◌, List, [], ◌++◌, append_assoc, append-nil, sym, ap, ◌∙◌, arith}
use Rattle.explorer_differences.specs.Lines.{after_line, after_lines, first_differences, first_line, line_difference}

-- what is left where one is done, and where all are
pub one_more : (k n : ℕ) → k < n → suc (n - (k + 1)) ≡ n - k
one_more k n lt = omega (arith, lt)

pub none_more : (k n : ℕ) → n ≤ k → zero ≡ n - k
none_more k n le = omega (arith, le)

-- one line more is passed over
pub after_more : (k n : ℕ) (rest next all : List ℕ) → k < n → after_lines (n - k) rest ≡ all → next ≡ after_line rest → after_lines (n - (k + 1)) next ≡ all
after_more k n rest next all lt is then_ = ap (after_lines (n - (k + 1))) then_ ∙ ap (λ m. after_lines m rest) (one_more k n lt) ∙ is

-- all lines were
pub after_all : (k n : ℕ) (rest all : List ℕ) → n ≤ k → after_lines (n - k) rest ≡ all → rest ≡ all
after_all k n rest all le is = ap (λ m. after_lines m rest) (none_more k n le) ∙ is

-- one line more is compared
pub differences_more : (a b k n : ℕ) (old new xs ys xs2 ys2 all : List ℕ) → k < n → old ++ first_differences a b (n - k) xs ys ≡ all → new ≡ old ++ line_difference a b (first_line xs) (first_line ys)
    → xs2 ≡ after_line xs → ys2 ≡ after_line ys → new ++ first_differences a b (n - (k + 1)) xs2 ys2 ≡ all
differences_more a b k n old new xs ys xs2 ys2 all lt is more left right =
    let m = n - (k + 1) in
    let one = line_difference a b (first_line xs) (first_line ys) in
    ap (λ (zs : List ℕ). zs ++ first_differences a b m xs2 ys2) more
    ∙ append_assoc old one (first_differences a b m xs2 ys2)
    ∙ ap (λ (zs : List ℕ). old ++ (one ++ first_differences a b m zs ys2)) left
    ∙ ap (λ (zs : List ℕ). old ++ (one ++ first_differences a b m (after_line xs) zs)) right
    ∙ ap (λ i. old ++ first_differences a b i xs ys) (one_more k n lt)
    ∙ is

-- all lines were
pub differences_all : (a b k n : ℕ) (old xs ys all : List ℕ) → n ≤ k → old ++ first_differences a b (n - k) xs ys ≡ all → old ≡ all
differences_all a b k n old xs ys all le is = sym (append-nil old) ∙ ap (λ i. old ++ first_differences a b i xs ys) (none_more k n le) ∙ is
