-- Whether a statement of a block is such, as a loop over them finds it.
use Rattle.std.proofs.Common.{ℕ, zero, suc, ◌≡◌, ◌<◌, ◌≤◌, ◌+◌, ◌-◌, ◌||◌, Bool, true, false, Some, None, refl, sym, ap, arith, ◌∙◌}
use Rattle.swift_syntax.specs.declared.tree.Stmt.{Stmt}
use Rattle.swift_expressions.specs.States.{State, stmt_at}
use Rattle.swift_lowering.specs.Returning.{any_of, any_within, block_returns, or_next, returns_by}

any_more : (s : State) (test : Stmt → Bool) (n place : ℕ) → any_within s test (suc n) place ≡ or_next test (any_within s test n) (stmt_at s place)
unfolding any_within
any_more s test n place = refl

any_zero : (s : State) (test : Stmt → Bool) (place : ℕ) → any_within s test 0 place ≡ false
unfolding any_within
any_zero s test place = refl

-- where the first of them is found, by what that is
any_first : (s : State) (test : Stmt → Bool) (n i place : ℕ) (stmt : Stmt) → i < n → stmt_at s place ≡ Some stmt → any_within s test (n - i) place ≡ (test stmt || any_within s test (n - (i + 1)) stmt.next)
any_first s test n i place stmt lt at =
    let e : n - i ≡ suc (n - (i + 1)) = omega arith in
    ap (λ m. any_within s test m place) e ∙ any_more s test (n - (i + 1)) place ∙ ap (or_next test (any_within s test (n - (i + 1)))) at

-- one that is not such is gone by
pub any_on : (s : State) (test : Stmt → Bool) (n i place : ℕ) (stmt : Stmt) → i < n → stmt_at s place ≡ Some stmt → test stmt ≡ false → any_within s test (n - (i + 1)) stmt.next ≡ any_within s test (n - i) place
any_on s test n i place stmt lt at fails = sym (any_first s test n i place stmt lt at ∙ ap (λ b. b || any_within s test (n - (i + 1)) stmt.next) fails)

-- one that is such is found
pub any_found : (s : State) (test : Stmt → Bool) (n i place : ℕ) (stmt : Stmt) → i < n → stmt_at s place ≡ Some stmt → test stmt ≡ true → true ≡ any_within s test (n - i) place
any_found s test n i place stmt lt at holds = sym (any_first s test n i place stmt lt at ∙ ap (λ b. b || any_within s test (n - (i + 1)) stmt.next) holds)

-- there is none behind the last one
pub any_none : (s : State) (test : Stmt → Bool) (n place : ℕ) → stmt_at s place ≡ None → false ≡ any_within s test n place
any_none s test zero place at = sym (any_zero s test place)
any_none s test (suc n) place at = sym (any_more s test n place ∙ ap (or_next test (any_within s test n)) at)

-- no more are looked at
pub any_spent : (s : State) (test : Stmt → Bool) (n i place : ℕ) → n ≤ i → false ≡ any_within s test (n - i) place
any_spent s test n i place le = let e : n - i ≡ 0 = omega arith in sym (ap (λ m. any_within s test m place) e ∙ any_zero s test place)

-- all of them are looked at
pub any_all : (s : State) (test : Stmt → Bool) (n place : ℕ) → any_within s test (n - 0) place ≡ any_within s test n place
any_all s test n place = let e : n - 0 ≡ n = omega arith in ap (λ m. any_within s test m place) e

block_suc : (s : State) (depth first : ℕ) → block_returns s (suc depth) first ≡ any_of s (λ stmt. returns_by (block_returns s depth) stmt.form) first
unfolding block_returns
block_suc s depth first = refl

-- a block returns by its statements, one deeper
pub block_deeper : (s : State) (depth first : ℕ) → 0 < depth → any_of s (λ stmt. returns_by (block_returns s (depth - 1)) stmt.form) first ≡ block_returns s depth first
block_deeper s depth first h = let e : depth ≡ suc (depth - 1) = omega arith in sym (ap (λ n. block_returns s n first) e ∙ block_suc s (depth - 1) first)

block_zero : (s : State) (first : ℕ) → true ≡ block_returns s 0 first
unfolding block_returns
block_zero s first = refl

-- one that nests deeper than was looked is taken to
pub block_unseen : (s : State) (depth first : ℕ) → depth ≡ 0 → true ≡ block_returns s depth first
block_unseen s depth first h = block_zero s first ∙ ap (λ n. block_returns s n first) (sym h)
