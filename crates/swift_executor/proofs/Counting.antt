-- Levels that are counted one by one.
use Rattle.swift_executor.proofs.Prelude.{◌≡◌, ◌≢◌, ℕ, ◌+◌, Bool, true, nat_lt, eqb, if◌then◌else◌, List, length, take, get_or, ap, sym, ◌∙◌, inl, inr, arith, cases_eq, cases_lt, le-ltb, lt-ltb, get_or-take, get_or_past, TaskId, AreAtMost, AreHigher, level_at}
use lib.Pointwise.{pointwise, bytes_decides}

-- the greater of two levels
abbrev pub higher : ℕ → ℕ → ℕ
higher l g = if nat_lt l g then g else l

-- the tasks below a number are counted
abbrev pub AreCountedBelow : ℕ → List ℕ → List ℕ → List ℕ → Type 0
AreCountedBelow place old given new = (t : TaskId) → level_at new t ≡ (if nat_lt t.0 place then higher (level_at old t) (level_at given t) else level_at old t)

pub none_counted : (old given : List ℕ) → AreCountedBelow 0 old given old
none_counted old given t = sym (ap (λ (b : Bool). if b then higher (level_at old t) (level_at given t) else level_at old t) (le-ltb t.0 0 (omega arith)))

pub one_counted : (place : ℕ) (old given mid new : List ℕ) (g : ℕ) → AreCountedBelow place old given mid → ((t : TaskId) → t.0 ≡ place → level_at new t ≡ higher (level_at mid t) g)
    → ((t : TaskId) → t.0 ≢ place → level_at new t ≡ level_at mid t) → g ≡ get_or given place 0 → AreCountedBelow (place + 1) old given new
one_counted place old given mid new g are here others is t = elim (cases_eq t.0 place) [
  | inl e ↦
      here t e
      ∙ ap (λ (l : ℕ). higher l g) (are t ∙ ap (λ (b : Bool). if b then higher (level_at old t) (level_at given t) else level_at old t) (le-ltb t.0 place (omega (arith, e))))
      ∙ ap (λ (x : ℕ). higher (level_at old t) x) (is ∙ ap (λ (n : ℕ). get_or given n 0) (sym e))
      ∙ sym (ap (λ (b : Bool). if b then higher (level_at old t) (level_at given t) else level_at old t) (lt-ltb t.0 (place + 1) (omega (arith, e))))
  | inr ne ↦
      others t ne
      ∙ are t
      ∙ ap (λ (b : Bool). if b then higher (level_at old t) (level_at given t) else level_at old t) (same t.0 place ne)
]
  where
    same : (a b : ℕ) → a ≢ b → nat_lt a b ≡ nat_lt a (b + 1)
    same a b ne = elim (cases_lt a b) [
      | inl lt ↦ lt-ltb a b lt ∙ sym (lt-ltb a (b + 1) (omega (arith, lt)))
      | inr ge ↦ le-ltb a b ge ∙ sym (le-ltb a (b + 1) (omega (arith, ge, ne)))
    ]

pub all_counted : (old given new : List ℕ) → AreCountedBelow (length given) old given new → AreHigher old given new
all_counted old given new are t = elim (cases_lt t.0 (length given)) [
  | inl lt ↦ are t ∙ ap (λ (b : Bool). if b then higher (level_at old t) (level_at given t) else level_at old t) (lt-ltb t.0 (length given) lt)
  | inr ge ↦
      are t
      ∙ ap (λ (b : Bool). if b then higher (level_at old t) (level_at given t) else level_at old t) (le-ltb t.0 (length given) ge)
      ∙ sym (ap (higher (level_at old t)) (get_or_past given t.0 0 ge) ∙ ap (λ (b : Bool). if b then 0 else level_at old t) (le-ltb (level_at old t) 0 (omega arith)))
]

-- where the levels that are given are those that are there, nothing changes
pub none_higher : (old given : List ℕ) → pointwise eqb (take (length given) old) given ≡ true → AreHigher old given old
none_higher old given is t = elim (cases_lt t.0 (length given)) [
  | inl lt ↦
      let e : level_at given t ≡ level_at old t = ap (λ (xs : List ℕ). get_or xs t.0 0) (sym ((bytes_decides (take (length given) old) given).0 is)) ∙ get_or-take (length given) old t.0 0 lt in
      sym (ap (higher (level_at old t)) e ∙ ap (λ (b : Bool). if b then level_at old t else level_at old t) (le-ltb (level_at old t) (level_at old t) (omega arith)))
  | inr ge ↦ sym (ap (higher (level_at old t)) (get_or_past given t.0 0 ge) ∙ ap (λ (b : Bool). if b then 0 else level_at old t) (le-ltb (level_at old t) 0 (omega arith)))
]

-- where none of those that are given is greater, nothing changes
pub at_most_higher : (old given : List ℕ) → AreAtMost given old → AreHigher old given old
at_most_higher old given le t = sym (ap (λ (b : Bool). if b then level_at given t else level_at old t) (le-ltb (level_at old t) (level_at given t) (le t)))
