-- Where tasks stand, and room for more of them.
use Rattle.swift_escalation.proofs.Prelude.{◌≡◌, ℕ, zero, suc, ◌≤◌, ◌<◌, List, [], ◌∷◌, ◌++◌, Vec, refl, ap, ◌∙◌, arith, Option, None, nat_lt, nat_eq, slice_index_or, if◌then◌else◌, place_in, HasRoom}
use Rattle.std.specs.declared.alloc.Global.{Global}
use Rattle.std.specs.HashMap.{get}
use Rattle.swift_types.specs.declared.limits.TheConstants.{TASKS}
use Rattle.swift_escalation.specs.declared.places.TaskPlaces.{TaskPlaces}

-- room for some tasks is room for fewer
pub room_for_fewer : (p : TaskPlaces) (n m : ℕ) → m ≤ n → HasRoom p n → HasRoom p m
room_for_fewer p n m le room = (let some = room.0 in omega (arith, le, some), λ (more : 0 < m). room.1 (omega (arith, le, more)))

-- one more place for nothing changes no place
pub pushed_none : (xs : List (Option ℕ)) (n : ℕ) → slice_index_or (xs ++ None ∷ []) n None ≡ slice_index_or xs n None
pushed_none [] zero = refl
pushed_none [] (suc n) = refl
pushed_none (x ∷ xs) zero = refl
pushed_none (x ∷ xs) (suc n) = pushed_none xs n

-- so each task stands where it stood
pub place_stays : (p : TaskPlaces) (listed : Vec (Option ℕ) Global) → listed.items ≡ p.listed.items ++ None ∷ [] → (n : ℕ) → place_in (record p { listed = listed }) n ≡ place_in p n
place_stays p listed is n = ap (λ (x : Option ℕ). if nat_lt n TASKS then x else get nat_eq p.mapped n) (ap (λ (xs : List (Option ℕ)). slice_index_or xs n None) is ∙ pushed_none p.listed.items n)
