-- A name that stands has a place below the number of places.
use Rattle.script_compiler.proofs.Prelude.{◌≡◌, ◌<◌, ℕ, ◌+◌, Bool, true, false, List, [], ◌∷◌, take, get_or, length, Option, Some, None, ap, refl, ◌∙◌, arith, cond, count_by, slice_get, if◌then◌else◌, list_any, both_ways, or_from, count_by_more_yes, sum_by-take-le, slice_get_within, get_or_from_slice_get, Let, LetTask, HeadTree, If, While, Bind, Group, Assume, StmtTree, Do, NameKind, is_among, place_of, fields_at, ScopeView, with_standing, meaning_of, number_fault, scope_after, scope_within, with_parameters, Variable, Field, PlaceCounts, PlanView, is_number, is_handle, number_place, handle_place, field_place, counts_of, PlaceBelow, is_field, HoldsNoField}
use Rattle.std.proofs.lemmas.List.Folds.{list_any_at, list_any-append}
use Rattle.script_names.specs.declared.scope.NameKind.TheVariants as kind
use Rattle.script_code.specs.declared.formula.FieldPlace.{FieldPlace}
use Rattle.script_compiler.specs.Lowered.{place_named}
use Rattle.script_compiler.proofs.Counted.{AtMost}

-- fewer of a kind stand before one of that kind than in all
pub before_all : (f : NameKind → Bool) (ks : List NameKind) (i : ℕ) (k : NameKind) → slice_get ks i ≡ Some k → f k ≡ true → count_by f (take i ks) < count_by f ks
before_all f ks i k at is =
    let within : i < length ks = slice_get_within ks i k at in
    let so : f (get_or ks i k) ≡ true = ap f (get_or_from_slice_get ks i k k at) ∙ is in
    omega (arith, count_by_more_yes f ks i k within so, sum_by-take-le (λ x. cond (f x) 1 0) ks (i + 1))

no_field_at : (ks : List NameKind) (i : ℕ) → list_any is_field ks ≡ false → slice_get ks i ≡ Some kind.Field → ⊥
no_field_at ks i none at =
    both_ways (list_any is_field ks) none (list_any_at is_field ks i kind.Field (slice_get_within ks i kind.Field at) (ap is_field (get_or_from_slice_get ks i kind.Field kind.Field at)))

place_below : (c : PlaceCounts) (b : Bool) (f : FieldPlace) (k : ℕ) (o : Option NameKind) → (o ≡ Some kind.Number → k < c.numbers) → (o ≡ Some kind.Field → ⊥) → number_fault (if b then Some kind.Field else o) ≡ None → PlaceBelow c (if b then Field f else Variable k)
place_below c true f k o is none e = tt
place_below c false f k None is none e = absurd (cc)
place_below c false f k (Some kind.Field) is none e = absurd (none refl)
place_below c false f k (Some kind.Number) is none e = is refl
place_below c false f k (Some kind.Task) is none e = absurd (cc)
place_below c false f k (Some kind.Group) is none e = absurd (cc)

-- a name that is read or set
pub named_below : (p : PlanView) (s : ScopeView) (c : PlaceCounts) (name : List ℕ) → HoldsNoField s → AtMost (counts_of s.kinds) c → number_fault (meaning_of s name) ≡ None → PlaceBelow c (place_named p s name)
unfolding place_named
named_below p s c name none few e =
    let i = place_of s.names name in
    let number : slice_get s.kinds i ≡ Some kind.Number → number_place s name < c.numbers = λ at. omega (arith, before_all is_number s.kinds i kind.Number at refl, few.few_numbers) in
    place_below c (is_among (fields_at s.directory s.actor) name) (field_place p s name) (number_place s name) (slice_get s.kinds i) number (no_field_at s.kinds i none) e

-- what is no field stands under a name of the method
pub own_meaning : (b : Bool) (o : Option NameKind) (k : NameKind) → is_handle k ≡ true → (if b then Some kind.Field else o) ≡ Some k → o ≡ Some k
own_meaning true o kind.Field is e = absurd (cc)
own_meaning true o kind.Number is e = absurd (cc)
own_meaning true o kind.Task is e = absurd (cc)
own_meaning true o kind.Group is e = absurd (cc)
own_meaning false o k is e = e

-- a name of a task or a group
pub handle_below : (s : ScopeView) (c : PlaceCounts) (name : List ℕ) (k : NameKind) → AtMost (counts_of s.kinds) c → is_handle k ≡ true → meaning_of s name ≡ Some k → handle_place s name < c.handles
handle_below s c name k few is e =
    let i = place_of s.names name in
    let at : slice_get s.kinds i ≡ Some k = own_meaning (is_among (fields_at s.directory s.actor) name) (slice_get s.kinds i) k is e in
    omega (arith, before_all is_handle s.kinds i k at is, few.few_handles)

with_no_field : (s : ScopeView) (name : List ℕ) (k : NameKind) → is_field k ≡ false → HoldsNoField s → HoldsNoField (with_standing s name k)
with_no_field s name k other none = list_any-append is_field s.kinds (k ∷ []) ∙ or_from _ _ none (or_from _ _ other refl)

pub after_no_field : (s : ScopeView) (x : StmtTree) → HoldsNoField s → HoldsNoField (scope_after s x)
after_no_field s (Do (Let n v)) none = with_no_field s n kind.Number refl none
after_no_field s (Do (LetTask n m)) none = with_no_field s n kind.Task refl none
after_no_field s _ none = none

pub within_no_field : (s : ScopeView) (h : HeadTree) → HoldsNoField s → HoldsNoField (scope_within s h)
within_no_field s (If t) none = none
within_no_field s (While t) none = none
within_no_field s (Bind n t) none = none
within_no_field s (Group n) none = with_no_field s n kind.Group refl none
within_no_field s (Assume n) none = none

pub parameters_no_field : (s : ScopeView) (names : List (List ℕ)) → HoldsNoField s → HoldsNoField (with_parameters s names)
parameters_no_field s [] none = none
parameters_no_field s (n ∷ names) none = parameters_no_field (with_standing s n kind.Number) names (with_no_field s n kind.Number refl none)
