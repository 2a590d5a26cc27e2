-- What the length of a text's front of allowed bytes tells.
use Rattle.std.proofs.Common.{◌≡◌, ◌<◌, ◌≤◌, ◌+◌, ℕ, suc, Bool, true, false, cond, ◌&&◌, List, [], ◌∷◌, length, refl, arith}
use Rattle.std.specs.List.{list_all, prefix_len}

passes : (here others : Bool) (n m : ℕ) → suc n ≤ cond here (1 + m) 0 → (n ≤ m → others ≡ true) → (here && others) ≡ true
passes true others n m le f = f (omega arith)
passes false others n m le f = absurd (omega arith)

pub all_pass : (p : ℕ → Bool) (bs : List ℕ) → length bs ≤ prefix_len p bs → list_all p bs ≡ true
all_pass p [] le = refl
all_pass p (b ∷ bs) le = passes (p b) (list_all p bs) (length bs) (prefix_len p bs) le (all_pass p bs)

fails : (here others : Bool) (n m : ℕ) → cond here (1 + m) 0 < suc n → (m < n → others ≡ false) → (here && others) ≡ false
fails true others n m lt f = f (omega arith)
fails false others n m lt f = refl

pub one_fails : (p : ℕ → Bool) (bs : List ℕ) → prefix_len p bs < length bs → list_all p bs ≡ false
one_fails p [] lt = absurd (omega arith)
one_fails p (b ∷ bs) lt = fails (p b) (list_all p bs) (length bs) (prefix_len p bs) lt (one_fails p bs)
