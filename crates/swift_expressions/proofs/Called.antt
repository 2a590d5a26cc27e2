-- What calls put, from what they call.
use Rattle.std.proofs.Common.{◌≡◌, ℕ, Bool, Some, pos, ap, subst, ◌∙◌}
use Rattle.std.specs.List.{slice_get}
use Rattle.swift_syntax.specs.declared.tree.MethodDecl.{MethodDecl}
use Rattle.swift_expressions.specs.declared.call.Called.{Called}
use Rattle.swift_expressions.specs.declared.call.Called.TheVariants as callees
use Rattle.swift_expressions.specs.declared.code.Instruction.TheVariants as instruction
use Rattle.swift_expressions.specs.declared.code.Kind.{Kind}
use Rattle.swift_expressions.specs.declared.code.Kind.TheVariants as kinds
use Rattle.swift_expressions.specs.declared.code.Value.TheVariants as value
use Rattle.swift_expressions.specs.declared.code.Wait.TheVariants as waiting
use Rattle.swift_expressions.specs.declared.operands.Operands.{Operands}
use Rattle.swift_expressions.specs.declared.typed.Typed.{Typed}
use Rattle.swift_expressions.specs.Lowered as lowered
use Rattle.swift_expressions.specs.Lowered.{Calls, CallsOwn, Waits, kind_in, yielding}
use Rattle.swift_expressions.specs.States.{Gives, State, put}
use Rattle.swift_expressions.proofs.Stepped.{given_from}
use Rattle.swift_expressions.proofs.Waited.{waits_from}

-- the same that is called, by another name
pub called_as : {s t : State} {given : Operands} {token : ℕ} {found : Typed} {what other : Called} → what ≡ other → Calls s given token t found what → Calls s given token t found other
called_as {s} {t} {given} {token} {found} e h = subst (λ x. Calls s given token t found x) e h

-- a method of an instance
pub other_called : {s r t : State} {instance i place token : ℕ} {declared : MethodDecl} {given : Operands} {kind : Kind} {found : Typed} → slice_get s.tree.methods.items place ≡ Some declared → Some instance ≡ Some i → r ≡ s → kind ≡ kind_in declared.result → Waits r (waiting.Method instance place given.first) kind t found → Calls s given token t found (callees.Other i place)
other_called {s} {t = t} {instance = instance} {i} {place = place} {token} {given = given} {found = found} at same e k h =
    let is : instance ≡ i = cc in
    subst (λ x. Calls s given token t found (callees.Other x place)) is (lowered.other at (subst (λ x. Waits s (waiting.Method instance place given.first) x t found) k (waits_from (waiting.Method instance place given.first) e h)))

-- a method of the own actor, or a function
pub own_from : {s r t : State} {place token : ℕ} {declared : MethodDecl} {given : Operands} {found : Typed} → r ≡ s → CallsOwn r place declared given token t found → CallsOwn s place declared given token t found
own_from {t = t} {place = place} {token = token} {declared = declared} {given = given} {found = found} e h = subst (λ x. CallsOwn x place declared given token t found) e h

-- a task or a group is cancelled
pub cancel_called : {s r a t : State} {variable token : ℕ} {given : Operands} {found : Typed} → r ≡ s → (yields : Bool) × (a ≡ put (instruction.Cancel variable) (yielding yields r)) → Gives a (value.Number (pos 0)) kinds.Void t found → Calls s given token t found (callees.Cancel variable)
cancel_called {variable = variable} e y g = lowered.cancel y.0 (given_from (y.1 ∙ ap (λ x. put (instruction.Cancel variable) (yielding y.0 x)) e) g)
