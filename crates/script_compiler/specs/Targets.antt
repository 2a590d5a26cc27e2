-- The calls of a method's code are of methods that are there, with as many arguments as these have parameters.
use Rattle.std.specs.Prelude.{◌≡◌, ℕ, ◌<◌, List, length, slice_get, unwrap_or, Some}
use Rattle.script_grammar.specs.Tree.{RootTree}
use Rattle.script_names.specs.Texts.{place_of}
use Rattle.script_names.specs.Methods.{method_key}
use Rattle.script_names.specs.Directory.{DirectoryView, method_place}
use Rattle.script_code.specs.Tree.{CallTarget, Wanted, call, Operation, wait, spawn, detach, add, Code}
use Rattle.script_compiler.specs.Parts.{EachPart}

-- A call of a method of an actor, both by their numbers, with `count` arguments: the actor is there, the method is one of
-- that actor's, and it has as many parameters.
pub record IsDeclaredCall (d : DirectoryView) (actor method count : ℕ) : Type 0 where
  pub actor_there : actor < length d.actors
  pub method_there : method < length d.methods
  pub of_actor : (name : List ℕ) × (slice_get d.methods method ≡ Some (method_key actor name))
  pub arity : count ≡ unwrap_or (slice_get d.params method) 0

-- A call of the code is so.
abbrev pub TargetFits : DirectoryView → CallTarget → Type 0
TargetFits d t = IsDeclaredCall d t.actor t.method (length t.args)

-- So is the call that is waited for, if it is one.
abbrev pub WantedFits : DirectoryView → Wanted → Type 0
WantedFits d (call t) = TargetFits d t
WantedFits d _ = Unit {0}

-- So is the call that a statement makes: it waits for one, or makes a task or a child that runs one. No other makes any.
abbrev pub OperationFits : DirectoryView → Operation → Type 0
OperationFits d (wait w) = WantedFits d w
OperationFits d (spawn t given handle) = TargetFits d t
OperationFits d (detach t given handle) = TargetFits d t
OperationFits d (add group unless t given) = TargetFits d t
OperationFits d _ = Unit {0}

-- Every call of the code is so.
abbrev pub TargetsFit : DirectoryView → Code → Type 0
TargetsFit d body = EachPart (OperationFits d) (λ t. Unit {0}) body

-- So is the call of a root.
abbrev pub RootFits : DirectoryView → RootTree → Type 0
RootFits d r = IsDeclaredCall d (place_of d.actors r.actor) (method_place d r.actor r.method) (length r.args)
