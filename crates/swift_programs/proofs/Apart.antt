-- Names that differ are spelled differently.
use Rattle.std.proofs.Common.{◌≡◌, ◌∙◌, refl, sym, ap, ◌++◌, List, ℕ, drop}
use Rattle.std.specs.Prelude.{Bool, true, false}
use Rattle.std.proofs.lemmas.Bool.{false≢true}
use Rattle.swift_programs.specs.Names.{spelled}

apart_by : (plain : List ℕ → Bool) (prefix : List ℕ) → ((w : List ℕ) → plain (prefix ++ w) ≡ false) → ((w : List ℕ) → drop 2 (prefix ++ w) ≡ w) → (a b : List ℕ) (p q : Bool) → plain a ≡ p → plain b ≡ q → spelled p prefix a ≡ spelled q prefix b → a ≡ b
apart_by plain prefix never cut a b true true x y same = same
apart_by plain prefix never cut a b true false x y same = absurd (false≢true (sym (never b) ∙ ap plain (sym same) ∙ x))
apart_by plain prefix never cut a b false true x y same = absurd (false≢true (sym (never a) ∙ ap plain same ∙ y))
apart_by plain prefix never cut a b false false x y same = sym (cut a) ∙ ap (drop 2) same ∙ cut b

-- A name that keeps itself never begins with the prefix, so no two are spelled in one way.
pub apart : (plain : List ℕ → Bool) (prefix : List ℕ) → ((w : List ℕ) → plain (prefix ++ w) ≡ false) → ((w : List ℕ) → drop 2 (prefix ++ w) ≡ w) → (a b : List ℕ) → spelled (plain a) prefix a ≡ spelled (plain b) prefix b → a ≡ b
apart plain prefix never cut a b same = apart_by plain prefix never cut a b (plain a) (plain b) refl refl same
