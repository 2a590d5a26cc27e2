-- Laws of kept turns: invariants stay true, and a turn that is undone has done nothing (our own).
use Rattle.std.specs.Prelude.{◌≡◌, ℕ, ℤ, Option, Some, None, List, [], IsTrue, Contains}
use Rattle.swift_types.specs.declared.outcome.Fault.{Fault}
use Rattle.swift_types.specs.declared.outcome.Fault.TheVariants.{Invariant, Overflow, Steps, Tasks, Isolation}
use Rattle.swift_types.specs.declared.outcome.Resume.{Resume}
use Rattle.script_code.specs.Tree.{Term}
use Rattle.script_code.specs.Value.{holds}
use Rattle.swift_interpreter.specs.Turn.{TurnStateView, TurnInputView, ExitView, closing, failing, Played, whole_turn, tail, exits, kept}

-- the fault with which a turn ends, if it ends with one; where a group is closed first it is pending
abbrev pub fault_of : ExitView → Option Fault
fault_of (failing f) = Some f
fault_of (closing g pending) = pending
fault_of _ = None

-- a fault that says that its turn was undone
abbrev pub SaysUndone : Option Fault → Type 0
SaysUndone (Some Invariant) = Unit {0}
SaysUndone (Some Overflow) = Unit {0}
SaysUndone (Some Steps) = Unit {0}
SaysUndone (Some Tasks) = Unit {0}
SaysUndone (Some Isolation) = Unit {0}
SaysUndone _ = ⊥

-- a turn that ends so was undone
abbrev pub IsUndone : Played → Type 0
IsUndone p = SaysUndone (fault_of p.exit)

-- All is as it was, but for how the frame is left: its bindings go, its innermost group, if one is open, is closed, and
-- a fault may wait for that, of which this says nothing.
pub record IsUntouched (before after : TurnStateView) : Type 0 where
  pub todo : after.todo ≡ before.todo
  pub variables : after.variables ≡ before.variables
  pub handles : after.handles ≡ before.handles
  pub made : after.made ≡ before.made
  pub opened : after.opened ≡ before.opened
  pub fields : after.fields ≡ before.fields
  pub effects : after.effects ≡ before.effects
  pub room : after.room ≡ before.room
  pub own : after.own ≡ []
  pub groups : after.groups ≡ tail before.groups

-- each of these invariants holds of the fields
abbrev pub AllHold : List Term → List (List ℤ) → Type 0
AllHold invariants fields = (t : Term) → Contains invariants t → IsTrue (holds (Some t) fields)

-- Each invariant of the executor's actors that holds before a turn holds after it.
abbrev pub InvariantsAreKept : Type 0
InvariantsAreKept = (g : TurnInputView) (n : ℕ) (invariants : List Term) (s : TurnStateView) (resume : Resume) (t : Term) →
    Contains invariants t → IsTrue (holds (Some t) s.fields) → IsTrue (holds (Some t) (kept g n invariants s resume).state.fields)

-- A turn that ends with a false invariant, overflow, steps, tasks or isolation has changed nothing but how its frame is
-- left.
abbrev pub UndoneChangesNothing : Type 0
UndoneChangesNothing = (g : TurnInputView) (n : ℕ) (invariants : List Term) (s : TurnStateView) (resume : Resume) →
    IsUndone (kept g n invariants s resume) → IsUntouched s (kept g n invariants s resume).state

-- Every other turn, one that throws too, is kept whole, and leaves all invariants true, whatever they were before.
abbrev pub OthersAreKept : Type 0
OthersAreKept = (g : TurnInputView) (n : ℕ) (invariants : List Term) (s : TurnStateView) (resume : Resume) →
    (IsUndone (kept g n invariants s resume) → ⊥)
    → (kept g n invariants s resume ≡ exits (whole_turn g n s resume).state (whole_turn g n s resume).exit)
    × AllHold invariants (kept g n invariants s resume).state.fields
