-- What the code of a checked script's methods names. (Our own.)
use Rattle.std.specs.Prelude.{◌≡◌, ℕ, None, List, Contains}
use Rattle.script_grammar.specs.Tree.{DeclTree}
use Rattle.script_names.specs.Rules.{names_error}
use Rattle.script_printing.specs.Script.{script_in}
use Rattle.script_compiler.specs.Handles.{none_held, HandlesMatch}
use Rattle.script_compiler.specs.Places.{PlacesBelow}
use Rattle.script_compiler.specs.Compiled.{MethodView, CompiledView, compiled_of}

-- A method's code names numbers and handles that the method has a place for. It uses each handle as what was kept there last, a task or
-- a group, however far it comes.
pub record IsFitting (m : MethodView) : Type 0 where
  pub places : PlacesBelow (record { numbers = m.numbers; handles = m.handles }) m.code
  pub handles : (n : ℕ) → HandlesMatch n none_held m.code

-- so it is of each method
abbrev pub MethodsFit : CompiledView → Type 0
MethodsFit c = (m : MethodView) → Contains c.methods m → IsFitting m

-- the law of checked scripts
abbrev pub CheckedMethods : Type 0
CheckedMethods = (decls : List DeclTree) → names_error decls ≡ None → MethodsFit (compiled_of (script_in decls))
