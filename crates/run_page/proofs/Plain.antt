-- What is escaped has no byte that could begin or end markup.
use Rattle.run_page.proofs.Prelude.{◌≡◌, ◌∙◌, ℕ, ◌==◌, Bool, true, false, ◌&&◌, ◌||◌, not, List, [], ◌∷◌, ap, ap₂, codes, refl, if◌then◌else◌, IsPlain, escaped, escaped_byte, is_plain}
use Rattle.std.proofs.lemmas.List.Folds.{list_all-append}

-- the spelling of a byte, by whether it is each of the three
by_byte : (b : ℕ) (less more and : Bool) → (b == 60) ≡ less → (b == 62) ≡ more → (b == 38) ≡ and →
    IsPlain (if less then codes "\\u003c" else if more then codes "\\u003e" else if and then codes "\\u0026" else b ∷ [])
by_byte b true more and h1 h2 h3 = refl
by_byte b false true and h1 h2 h3 = refl
by_byte b false false true h1 h2 h3 = refl
by_byte b false false false h1 h2 h3 =
    ap (λ (x : Bool). not (x || b == 62 || b == 38) && true) h1
    ∙ ap (λ (x : Bool). not (x || b == 38) && true) h2
    ∙ ap (λ (x : Bool). not x && true) h3

plain_byte : (b : ℕ) → IsPlain (escaped_byte b)
plain_byte b = by_byte b (b == 60) (b == 62) (b == 38) refl refl refl

pub plain : (text : List ℕ) → IsPlain (escaped text)
plain [] = refl
plain (b ∷ bs) = list_all-append is_plain (escaped_byte b) (escaped bs) ∙ ap₂ (λ (x y : Bool). x && y) (plain_byte b) (plain bs)
