-- What follows where no error was found: none in each part.
use Rattle.script_compiler.proofs.Prelude.{◌≡◌, ℕ, Bool, true, false, List, [], ◌∷◌, ◌++◌, Option, Some, None, refl, ap, if◌then◌else◌, NameErrorKind, Twice, NameKind, is_among, with_name, earlier, at_name, where_so, repeat_error, or_else, group_fault}
use Rattle.script_names.specs.declared.error.NameError.{NameError}
use Rattle.script_names.specs.declared.scope.NameKind.TheVariants as kind

pub earlier_none : (f g : Option NameError) → earlier f g ≡ None → (f ≡ None) × (g ≡ None)
earlier_none None g e = (refl, e)
earlier_none (Some m) g e = absurd (cc)

pub at_name_none : (at : ℕ) (o : Option NameErrorKind) → at_name at o ≡ None → o ≡ None
at_name_none at None e = refl
at_name_none at (Some k) e = absurd (cc)

pub not_so : (b : Bool) (k : NameErrorKind) → where_so b k ≡ None → b ≡ false
not_so true k e = absurd (cc)
not_so false k e = refl

-- a name that is not repeated is one more
pub name_is_new : (seen : List (List ℕ)) (at : ℕ) (name : List ℕ) → repeat_error seen at name ≡ None → with_name seen name ≡ seen ++ name ∷ []
name_is_new seen at name e = ap (λ b. if b then seen else seen ++ name ∷ []) (not_so (is_among seen name) Twice (at_name_none at _ e))

pub or_else_none : (f g : Option NameErrorKind) → or_else f g ≡ None → f ≡ None
or_else_none None g e = refl
or_else_none (Some m) g e = absurd (cc)

pub is_group : (o : Option NameKind) → group_fault o ≡ None → o ≡ Some kind.Group
is_group None e = absurd (cc)
is_group (Some kind.Field) e = absurd (cc)
is_group (Some kind.Number) e = absurd (cc)
is_group (Some kind.Task) e = absurd (cc)
is_group (Some kind.Group) e = refl
