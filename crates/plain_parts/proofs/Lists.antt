-- Lists that are seen as others.
use Rattle.std.proofs.Common.{◌≡◌, refl, ap, List, [], ◌∷◌, map, Bool}
use Rattle.std.specs.Prelude.{◌||◌}
use Rattle.std.specs.List.{list_any}

-- whether any of a list has a property, by what it is seen as
pub any_mapped : {X A : Type 0} (f : A → Bool) (view : X → A) (xs : List X) → list_any f (map view xs) ≡ list_any (λ x. f (view x)) xs
any_mapped f view [] = refl
any_mapped f view (x ∷ xs) = ap (λ rest. f (view x) || rest) (any_mapped f view xs)
