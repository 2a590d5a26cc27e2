-- What is in scope at a place of a script: the names of the whole text, and those of the method there, each with its kind.
use Rattle.std.specs.Prelude.{ℕ, Bool, false, ◌||◌, List, [], ◌∷◌, ◌++◌, slice_get, Option, Some, if◌then◌else◌}
use Rattle.script_names.specs.declared.scope.NameKind.{NameKind}
use Rattle.script_names.specs.declared.scope.NameKind.TheVariants as kind
use Rattle.script_names.specs.Texts.{is_among, place_of}
use Rattle.script_names.specs.Directory.{DirectoryView, fields_at}

-- The parameters, variables, task variables and groups in scope are `names`, the oldest first, and `kinds` says
-- what each is. The fields in scope are those of `actor`. The first `bound` names were in scope where the innermost open
-- `bind` began.
pub record ScopeView : Type 0 where
  pub directory : DirectoryView
  pub actor : ℕ
  pub names : List (List ℕ)
  pub kinds : List NameKind
  pub bound : ℕ

-- nothing is in scope but the fields of an actor
abbrev pub fields_alone : DirectoryView → ℕ → ScopeView
fields_alone d actor = record { directory = d; actor = actor; names = []; kinds = []; bound = 0 }

-- one more name is in scope, the newest
abbrev pub with_standing : ScopeView → List ℕ → NameKind → ScopeView
with_standing s name kind = record s { names = s.names ++ name ∷ []; kinds = s.kinds ++ kind ∷ [] }

-- what a name means, if it is in scope: a field, or what it was made as
abbrev pub meaning_of : ScopeView → List ℕ → Option NameKind
meaning_of s name =
    if is_among (fields_at s.directory s.actor) name then Some kind.Field
    else slice_get s.kinds (place_of s.names name)

-- whether some name of a list is one of these
abbrev pub share_a_name : List (List ℕ) → List (List ℕ) → Bool
share_a_name these [] = false
share_a_name these (n ∷ ns) = is_among these n || share_a_name these ns
