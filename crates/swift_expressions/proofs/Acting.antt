-- Which expressions do something.
use Rattle.std.proofs.Common.{ℕ, ◌≡◌, ◌<◌, ◌-◌, suc, true, refl, sym, ap, subst, arith, ◌∙◌}
use Rattle.swift_expressions.specs.Lowered.{acts_by, is_acting_within}
use Rattle.swift_expressions.specs.States.{State, form_at}

within_suc : (s : State) (depth place : ℕ) → is_acting_within s (suc depth) place ≡ acts_by (is_acting_within s depth) (form_at s place)
unfolding is_acting_within
within_suc s depth place = refl

suc_of : (n : ℕ) → 0 < n → n ≡ suc (n - 1)
suc_of n h = omega arith

-- an expression does something by what it is, and by its parts one deeper
pub acts_deeper : (s : State) (depth place : ℕ) → 0 < depth → is_acting_within s depth place ≡ acts_by (is_acting_within s (depth - 1)) (form_at s place)
acts_deeper s depth place h = ap (λ n. is_acting_within s n place) (suc_of depth h) ∙ within_suc s (depth - 1) place

within_none : (s : State) (place : ℕ) → true ≡ is_acting_within s 0 place
unfolding is_acting_within
within_none s place = refl

-- one that nests deeper than was looked is taken to
pub acts_unseen : (s : State) (depth place : ℕ) → depth ≡ 0 → true ≡ is_acting_within s depth place
acts_unseen s depth place h = subst (λ n. true ≡ is_acting_within s n place) (sym h) (within_none s place)
