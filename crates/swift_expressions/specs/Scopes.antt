-- What the spelling of a name stands for: a name that is seen in scope, or a declaration of the file. (Our own.)
use Rattle.std.specs.Prelude.{ℕ, ◌≡◌, ◌≢◌, ◌≤◌, ◌<◌, ◌⊎◌, Some, codes}
use Rattle.std.specs.List.{slice_get}
use Rattle.swift_types.specs.declared.priority.Priority.{Priority}
use Rattle.swift_types.specs.declared.priority.Priority.TheVariants as priorities
use Rattle.swift_syntax.specs.declared.tree.ActorDecl.{ActorDecl}
use Rattle.swift_syntax.specs.declared.tree.ConstantDecl.{ConstantDecl}
use Rattle.swift_syntax.specs.declared.tree.FieldDecl.{FieldDecl}
use Rattle.swift_syntax.specs.declared.tree.InstanceDecl.{InstanceDecl}
use Rattle.swift_syntax.specs.declared.tree.LocalDecl.{LocalDecl}
use Rattle.swift_syntax.specs.declared.tree.MethodDecl.{MethodDecl}
use Rattle.swift_syntax.specs.declared.tree.Receiver.{Receiver}
use Rattle.swift_syntax.specs.declared.tree.Receiver.TheVariants as receiver
use Rattle.swift_expressions.specs.declared.call.Called.{Called}
use Rattle.swift_expressions.specs.declared.call.Called.TheVariants as callees
use Rattle.swift_expressions.specs.declared.code.TheConstants.{NONE}
use Rattle.swift_expressions.specs.declared.scope.Binding.{Binding}
use Rattle.swift_expressions.specs.declared.scope.Standing.TheVariants as standings
use Rattle.swift_expressions.specs.States.{State, bytes_at}

-- A name that is seen in scope stands at a place, and has the bytes of a token.
pub record IsNamedAt (s : State) (token place : ℕ) : Type 0 where
  pub binding : Binding
  pub there : slice_get s.scope place ≡ Some binding
  pub seen : s.boundary ≤ place
  pub spelled : bytes_at s binding.token ≡ bytes_at s token

-- The innermost name with the bytes of a token stands at a place: what comes into scope later stands behind it, and has other bytes.
pub record IsInnermost (s : State) (token place : ℕ) : Type 0 where
  pub named : IsNamedAt s token place
  pub innermost : (later : ℕ) → place < later → IsNamedAt s token later → ⊥

-- No name that is seen in scope has the bytes of a token.
abbrev pub IsFree : State → ℕ → Type 0
IsFree s token = (place : ℕ) → IsNamedAt s token place → ⊥

-- Of the places that are such, one is the first.
pub record IsFirst (P : ℕ → Type 0) (place : ℕ) : Type 0 where
  pub is : P place
  pub first : (before : ℕ) → before < place → P before → ⊥

-- A field of an actor stands at a place of the tree, and has the bytes of a token.
pub record IsFieldAt (s : State) (actor token place : ℕ) : Type 0 where
  pub field : FieldDecl
  pub there : slice_get s.tree.fields.items place ≡ Some field
  pub of : field.actor ≡ actor
  pub spelled : bytes_at s field.name ≡ bytes_at s token

-- A global constant stands at a place of the tree, and has the bytes of a token.
pub record IsConstantAt (s : State) (token place : ℕ) : Type 0 where
  pub constant : ConstantDecl
  pub there : slice_get s.tree.constants.items place ≡ Some constant
  pub spelled : bytes_at s constant.name ≡ bytes_at s token

-- A method of an actor stands at a place of the tree, or, of `NONE`, a function outside of actors; it has the bytes of a token.
pub record IsMethodAt (s : State) (actor token place : ℕ) : Type 0 where
  pub method : MethodDecl
  pub there : slice_get s.tree.methods.items place ≡ Some method
  pub of : method.actor ≡ actor
  pub spelled : bytes_at s method.name ≡ bytes_at s token

-- The first method of an actor with the bytes of a token stands at a place.
pub record IsMethodOf (s : State) (actor token place : ℕ) : Type 0 where
  pub inside : actor ≢ NONE
  pub first : IsFirst (IsMethodAt s actor token) place

-- An actor has no method with the bytes of a token.
abbrev pub HasNoMethod : State → ℕ → ℕ → Type 0
HasNoMethod s actor token = actor ≢ NONE → (place : ℕ) → IsMethodAt s actor token place → ⊥

-- An instance stands at a place of the tree, and has the bytes of a token.
pub record IsInstanceAt (s : State) (token place : ℕ) : Type 0 where
  pub instance : InstanceDecl
  pub there : slice_get s.tree.instances.items place ≡ Some instance
  pub spelled : bytes_at s instance.name ≡ bytes_at s token

-- An actor stands at a place of the tree, and has the bytes of a token.
pub record IsActorAt (s : State) (token place : ℕ) : Type 0 where
  pub actor : ActorDecl
  pub there : slice_get s.tree.actors.items place ≡ Some actor
  pub spelled : bytes_at s actor.name ≡ bytes_at s token

-- The instance at a place is of an actor: of the first one with the name that its declaration gives.
pub record IsOfActor (s : State) (place actor : ℕ) : Type 0 where
  pub instance : InstanceDecl
  pub there : slice_get s.tree.instances.items place ≡ Some instance
  pub first : IsFirst (IsActorAt s instance.of) actor

-- A task local of an enum stands at a place of the tree, each with the bytes of a token.
pub record IsLocalAt (s : State) (of token place : ℕ) : Type 0 where
  pub local : LocalDecl
  pub there : slice_get s.tree.locals.items place ≡ Some local
  pub within : bytes_at s local.of ≡ bytes_at s of
  pub spelled : bytes_at s local.name ≡ bytes_at s token

-- A token names a declaration of the file: no name in scope has its bytes, and it is not `Task`.
pub record IsGlobal (s : State) (token : ℕ) : Type 0 where
  pub free : IsFree s token
  pub other : bytes_at s token ≢ codes "Task"

-- What a call names. `f()`: a method of the own actor; where that has none, a function; no name in scope is spelled so. `self.f()`: a method
-- of the own actor. `x.f()`: what there is of the innermost name in scope that is spelled x; where there is none, what Swift's `Task` has, or
-- a method of the actor of an instance. Of several with one name it is the first.
pub data IsCalled (s : State) (token : ℕ) : Receiver → Called → Type 0 where
  a_method : {place : ℕ} → IsFree s token → IsMethodOf s s.actor token place → IsCalled s token receiver.Nobody (callees.Own place)
  a_function : {place : ℕ} → IsFree s token → HasNoMethod s s.actor token → IsFirst (IsMethodAt s NONE token) place → IsCalled s token receiver.Nobody (callees.Own place)
  an_own : {place : ℕ} → IsMethodOf s s.actor token place → IsCalled s token receiver.Own (callees.Own place)
  a_next : {of place : ℕ} {b : Binding} → IsInnermost s of place → slice_get s.scope place ≡ Some b → b.standing ≡ standings.Group → bytes_at s token ≡ codes "next" → IsCalled s token (receiver.Named of) (callees.Next place)
  a_wait : {of place : ℕ} {b : Binding} → IsInnermost s of place → slice_get s.scope place ≡ Some b → b.standing ≡ standings.Group → bytes_at s token ≡ codes "waitForAll" → IsCalled s token (receiver.Named of) (callees.WaitForAll place)
  cancels_all : {of place : ℕ} {b : Binding} → IsInnermost s of place → slice_get s.scope place ≡ Some b → b.standing ≡ standings.Group → bytes_at s token ≡ codes "cancelAll" → IsCalled s token (receiver.Named of) (callees.Cancel b.variable)
  cancels : {of place : ℕ} {b : Binding} → IsInnermost s of place → slice_get s.scope place ≡ Some b → b.standing ≡ standings.Task → bytes_at s token ≡ codes "cancel" → IsCalled s token (receiver.Named of) (callees.Cancel b.variable)
  a_yield : {of : ℕ} → IsFree s of → bytes_at s of ≡ codes "Task" → bytes_at s token ≡ codes "yield" → IsCalled s token (receiver.Named of) callees.Yield
  a_sleep : {of : ℕ} → IsFree s of → bytes_at s of ≡ codes "Task" → bytes_at s token ≡ codes "sleep" → IsCalled s token (receiver.Named of) callees.Sleep
  a_check : {of : ℕ} → IsFree s of → bytes_at s of ≡ codes "Task" → bytes_at s token ≡ codes "checkCancellation" → IsCalled s token (receiver.Named of) callees.Check
  another : {of instance place actor : ℕ} → IsGlobal s of → IsFirst (IsInstanceAt s of) instance → IsOfActor s instance actor → IsMethodOf s actor token place → IsCalled s token (receiver.Named of) (callees.Other instance place)

-- The first field of the actor of an instance with the bytes of a token stands at a place.
pub record IsFieldOf (s : State) (instance token place : ℕ) : Type 0 where
  pub actor : ℕ
  pub is_of : IsOfActor s instance actor
  pub first : IsFirst (IsFieldAt s actor token) place

-- The token of a `.case` names a priority (SE-0304).
abbrev pub IsPriority : State → ℕ → Priority → Type 0
IsPriority s token priorities.Background = bytes_at s token ≡ codes "background"
IsPriority s token priorities.Low = (bytes_at s token ≡ codes "low") ⊎ (bytes_at s token ≡ codes "utility")
IsPriority s token priorities.Medium = bytes_at s token ≡ codes "medium"
IsPriority s token priorities.High = (bytes_at s token ≡ codes "high") ⊎ (bytes_at s token ≡ codes "userInitiated")
