-- Turns whose words and effects are laid one after another in two lists. Only proofs use these.
use Rattle.std.specs.Prelude.{◌≡◌, ℕ, ℤ, ◌+◌, List, [], ◌∷◌, take, drop}
use Rattle.swift_journal.specs.declared.stored.StoredEffect.{StoredEffect}

-- where the words and the effects of a turn stand
pub record TurnSpan : Type 0 where
  pub start : ℕ
  pub size : ℕ
  pub first_effect : ℕ
  pub effects : ℕ

-- a turn, read from its words and its effects
abbrev pub read_at : {H V : Type 0} → (H → TurnSpan) → (H → List ℤ → List StoredEffect → V) → List ℤ → List StoredEffect → H → V
read_at span read words effects h = read h (take (span h).size (drop (span h).start words)) (take (span h).effects (drop (span h).first_effect effects))

-- With the newest turn first: the words and the effects of each end where those of the next begin, those of the newest are the last,
-- and there are no others.
abbrev pub AreLaid : {H : Type 0} → (H → TurnSpan) → List H → ℕ → ℕ → Type 0
AreLaid span [] words effects = (words ≡ 0) × (effects ≡ 0)
AreLaid span (h ∷ older) words effects =
    ((span h).start + (span h).size ≡ words) × ((span h).first_effect + (span h).effects ≡ effects) × AreLaid span older (span h).start (span h).first_effect
