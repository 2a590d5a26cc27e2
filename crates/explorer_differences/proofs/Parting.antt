-- Where two lines of words part.
use Rattle.std.proofs.Common.{◌≡◌, ℕ, ◌≤◌, List, [], ◌∷◌, length, drop, refl, sym, ap, ◌∙◌}
use Rattle.std.proofs.lemmas.List.{drop_all}
use Rattle.explorer_differences.specs.Words.{shared_words}

ended : (xs : List ℕ) (at words : ℕ) → words ≡ shared_words xs [] at words
ended [] at words = refl
ended (x ∷ xs) at words = refl

-- the second line has ended
pub second_ends : (xs ys : List ℕ) (at words all : ℕ) → length ys ≤ at → shared_words (drop at xs) (drop at ys) at words ≡ all → words ≡ all
second_ends xs ys at words all past is =
    ended (drop at xs) at words ∙ sym (ap (λ (zs : List ℕ). shared_words (drop at xs) zs at words) (drop_all at ys past)) ∙ is
