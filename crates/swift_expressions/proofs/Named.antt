-- What calls name, from what is found.
use Rattle.std.proofs.Common.{◌≡◌, ◌≢◌, ℕ, sym, subst}
use Rattle.swift_syntax.specs.declared.tree.Receiver.{Receiver}
use Rattle.swift_syntax.specs.declared.tree.Receiver.TheVariants as receiver
use Rattle.swift_expressions.specs.declared.call.Called.{Called}
use Rattle.swift_expressions.specs.declared.call.Called.TheVariants as callees
use Rattle.swift_expressions.specs.declared.code.TheConstants.{NONE}
use Rattle.swift_expressions.specs.Scopes as scopes
use Rattle.swift_expressions.specs.Scopes.{IsCalled, IsFirst, IsGlobal, IsInstanceAt, IsMethodOf, IsOfActor}
use Rattle.swift_expressions.specs.States.{State}

-- the same that is called, by another name
pub called_named : {s : State} {token : ℕ} {from : Receiver} {what other : Called} → what ≡ other → IsCalled s token from other → IsCalled s token from what
called_named {s} {token} {from} e h = subst (λ x. IsCalled s token from x) (sym e) h

-- what is called by the same receiver
pub received : {s : State} {token : ℕ} {from other : Receiver} {what : Called} → from ≡ other → IsCalled s token other what → IsCalled s token from what
received {s} {token} {what = what} e h = subst (λ x. IsCalled s token x what) (sym e) h

-- a method of an instance
pub another_named : {s r : State} {of token instance actor place : ℕ} → IsGlobal s of → IsFirst (IsInstanceAt s of) instance → r ≡ s → (actor ≢ NONE → IsOfActor r instance actor) → IsMethodOf r actor token place → IsCalled s token (receiver.Named of) (callees.Other instance place)
another_named {token = token} {instance = instance} {actor = actor} {place = place} global is e of_actor m =
    scopes.another global is (subst (λ x. IsOfActor x instance actor) e (of_actor m.inside)) (subst (λ x. IsMethodOf x actor token place) e m)
