-- What a checked script's calls and roots name. (Own.)
use Rattle.std.specs.Prelude.{◌≡◌, Option, Some, None, List, length, slice_get, Contains}
use Rattle.script_grammar.specs.Tree.{DeclTree}
use Rattle.script_names.specs.Rules.{names_error}
use Rattle.script_code.specs.Tree as code
use Rattle.script_code.specs.Tree.{CallTarget, Wanted, Operation}
use Rattle.script_printing.specs.Script.{script_in}
use Rattle.script_compiler.specs.Compiled.{MethodView, RootView, CompiledView, compiled_of}
use Rattle.script_compiler.specs.Waiting.{operations_in}

-- the call that is waited for
abbrev pub target_wanted : Wanted → Option CallTarget
target_wanted (code.call t) = Some t
target_wanted _ = None

-- what an operation calls, spawns, detaches or adds
abbrev pub target_in : Operation → Option CallTarget
target_in (code.wait w) = target_wanted w
target_in (code.spawn t p h) = Some t
target_in (code.detach t p h) = Some t
target_in (code.add g unless t p) = Some t
target_in _ = None

-- A call names a method that is there, of that actor, which has as many parameters as the call has arguments.
pub record IsCallable (c : CompiledView) (t : CallTarget) : Type 0 where
  pub method : MethodView
  pub there : slice_get c.methods t.method ≡ Some method
  pub of_actor : method.actor ≡ t.actor
  pub as_many : method.params ≡ length t.args

-- A root names a method that is there, which has as many parameters as the root has arguments.
pub record IsStartable (c : CompiledView) (r : RootView) : Type 0 where
  pub method : MethodView
  pub there : slice_get c.methods r.method ≡ Some method
  pub as_many : method.params ≡ length r.args

-- so does what each method calls, spawns, detaches or adds
abbrev pub CallsAreThere : CompiledView → Type 0
CallsAreThere c = (m : MethodView) → Contains c.methods m → (d : Operation) → Contains (operations_in m.code) d → (t : CallTarget) → target_in d ≡ Some t → IsCallable c t

-- and each root
abbrev pub RootsAreThere : CompiledView → Type 0
RootsAreThere c = (r : RootView) → Contains c.roots r → IsStartable c r

-- a law of checked scripts: where no name is wrong, each call, spawn, detach and add names a method that is there
abbrev pub CheckedCalls : Type 0
CheckedCalls = (decls : List DeclTree) → names_error decls ≡ None → CallsAreThere (compiled_of (script_in decls))

-- a law of checked scripts: where no name is wrong, each root names a method that is there
abbrev pub CheckedRoots : Type 0
CheckedRoots = (decls : List DeclTree) → names_error decls ≡ None → RootsAreThere (compiled_of (script_in decls))
