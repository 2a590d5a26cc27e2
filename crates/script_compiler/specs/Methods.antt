-- The code of whole methods, and of a whole script.
use Rattle.std.specs.Prelude.{ℕ, suc, List, [], ◌∷◌}
use Rattle.std.specs.List.{AllByRecursion}
use Rattle.script_grammar.specs.Tree.{MethodTree, block_tree, DeclTree, Executes, Binds, Acts, Roots}
use Rattle.script_names.specs.Scope.{ScopeView, fields_alone}
use Rattle.script_names.specs.Rules.{with_parameters}
use Rattle.script_code.specs.Tree.{Code}
use Rattle.script_compiler.specs.declared.lowering.counts.PlaceCounts.{PlaceCounts}
use Rattle.script_compiler.specs.Plan.{PlanView}
use Rattle.script_compiler.specs.Lowered.{block_code}
use Rattle.script_compiler.specs.Counts.{counts_of, most_of}
use Rattle.script_compiler.specs.Places.{PlacesBelow}
use Rattle.script_compiler.specs.Targets.{TargetsFit, RootFits}
use Rattle.script_compiler.specs.Handles.{none_held, HandlesMatch}

-- what stands at the beginning of a method of the actor at a place
abbrev pub method_scope : PlanView → ℕ → MethodTree → ScopeView
method_scope p actor m = with_parameters (fields_alone p.directory actor) m.params

-- how many numbers and handles stand at most in a method
abbrev pub places_in : ScopeView → MethodTree → PlaceCounts
places_in s m = most_of (counts_of s.kinds) (block_tree m.body)

-- the code of a method
abbrev pub method_code : PlanView → ScopeView → MethodTree → Code
method_code p s m = block_code p s (block_tree m.body)

-- A method's code names places that the method has, calls methods that are there, and uses handles as they were made, as
-- far as it ever comes.
pub record CodeFits (p : PlanView) (actor : ℕ) (m : MethodTree) : Type 0 where
  pub places : PlacesBelow (places_in (method_scope p actor m) m) (method_code p (method_scope p actor m) m)
  pub targets : TargetsFit p.directory (method_code p (method_scope p actor m) m)
  pub handles : (n : ℕ) → HandlesMatch n none_held (method_code p (method_scope p actor m) m)

-- So it is of each method of the actors, of which the first has this place, and each root calls a method that is there.
abbrev pub ScriptFits : PlanView → ℕ → List DeclTree → Type 0
ScriptFits p actor [] = Unit {0}
ScriptFits p actor (Executes x ∷ xs) = ScriptFits p actor xs
ScriptFits p actor (Binds l ∷ xs) = ScriptFits p actor xs
ScriptFits p actor (Acts a ∷ xs) = AllByRecursion (CodeFits p actor) a.methods × ScriptFits p (suc actor) xs
ScriptFits p actor (Roots r ∷ xs) = RootFits p.directory r × ScriptFits p actor xs
