-- The row of an actor, looked for from a place on, and rows that are put back.
use Rattle.swift_executor.proofs.Prelude.{◌≡◌, ◌≢◌, ℕ, zero, suc, ◌<◌, ◌≤◌, Bool, ℤ, if◌then◌else◌, List, [], ◌∷◌, length, drop, get_or, set, refl, ap, sym, ◌∙◌, arith, eq-eqb, ne_eqb, fields_at}
use Rattle.std.proofs.lemmas.List.{length-set}
use Rattle.swift_interpreter.specs.Saved.{restored}

-- it is looked for further on
pub passes : (names : List ℕ) (rows : List (List ℤ)) (place actor : ℕ) → place < length names → place < length rows → get_or names place 0 ≢ actor → fields_at (drop (suc place) names) (drop (suc place) rows) actor ≡ fields_at (drop place names) (drop place rows) actor
passes [] rows place actor lt here ne = absurd (omega (arith, lt))
passes (a ∷ names) [] place actor lt here ne = absurd (omega (arith, here))
passes (a ∷ names) (row ∷ rows) zero actor lt here ne = sym (ap (λ (b : Bool). if b then row else fields_at names rows actor) (ne_eqb a actor ne))
passes (a ∷ names) (row ∷ rows) (suc place) actor lt here ne = passes names rows place actor (omega (arith, lt)) (omega (arith, here)) ne

pub hits : (names : List ℕ) (rows : List (List ℤ)) (place actor : ℕ) (d : List ℤ) → place < length names → place < length rows → get_or names place 0 ≡ actor → fields_at (drop place names) (drop place rows) actor ≡ get_or rows place d
hits [] rows place actor d lt here is = absurd (omega (arith, lt))
hits (a ∷ names) [] place actor d lt here is = absurd (omega (arith, here))
hits (a ∷ names) (row ∷ rows) zero actor d lt here is = ap (λ (b : Bool). if b then row else fields_at names rows actor) (eq-eqb a actor is)
hits (a ∷ names) (row ∷ rows) (suc place) actor d lt here is = hits names rows place actor d (omega (arith, lt)) (omega (arith, here)) is

no_rows : (names : List ℕ) (actor : ℕ) → fields_at names [] actor ≡ []
no_rows [] actor = refl
no_rows (a ∷ names) actor = refl

none_dropped : (n : ℕ) (rows : List (List ℤ)) → length rows ≤ n → drop n rows ≡ []
none_dropped zero [] le = refl
none_dropped zero (row ∷ rows) le = absurd (omega (arith, le))
none_dropped (suc n) [] le = refl
none_dropped (suc n) (row ∷ rows) le = none_dropped n rows (omega (arith, le))

pub no_row : (names : List ℕ) (rows : List (List ℤ)) (place actor : ℕ) → length rows ≤ place → fields_at (drop place names) (drop place rows) actor ≡ []
no_row names rows place actor le = ap (λ (rs : List (List ℤ)). fields_at (drop place names) rs actor) (none_dropped place rows le) ∙ no_rows (drop place names) actor

-- as many rows as before
pub restored_length : (saved : List (ℕ × List ℤ)) (fields : List (List ℤ)) → length (restored saved fields) ≡ length fields
restored_length [] fields = refl
restored_length (p ∷ older) fields = restored_length older (set fields p.0 p.1) ∙ length-set fields p.0 p.1
