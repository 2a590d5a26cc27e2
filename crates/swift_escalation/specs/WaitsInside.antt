-- What the fields keep. No public clause names these.
use Rattle.std.specs.Prelude.{◌≡◌, ℕ, ◌+◌, ◌≤◌, ◌<◌, List, Option, Some, length, slice_get, vec_len, vec_capacity}
use Rattle.swift_types.specs.Priority.{rank}
use Rattle.swift_types.specs.declared.id.TaskId.{TaskId}
use Rattle.swift_escalation.specs.PlacesInside.{place_in, HasRoom}
use Rattle.swift_escalation.specs.LevelsInside.{level_of, edge_at, HasEdge}
use Rattle.swift_escalation.specs.Waits.{tasks_of, IsGiven, Leads, Reaches}
use Rattle.swift_types.specs.declared.priority.Priority.{Priority}
use Rattle.swift_escalation.specs.declared.graph.TaskEdge.{TaskEdge}
use Rattle.swift_escalation.specs.declared.waits.PriorityEvent.{PriorityEvent}
use Rattle.swift_escalation.specs.declared.waits.PriorityEvent.TheVariants.{Root, Child, Free, Wait}
use Rattle.swift_escalation.specs.declared.waits.Waits.TheInside.{Inside}

-- the event adds the task, which is no child, and gives it this priority
abbrev pub IsOwn : PriorityEvent → TaskId → Priority → Type 0
IsOwn (Root t p) task priority = (t ≡ task) × (p ≡ priority)
IsOwn (Free t p) task priority = (t ≡ task) × (p ≡ priority)
IsOwn (Child t parent p) task priority = ⊥
IsOwn (Wait u t) task priority = ⊥

-- the task stands at the place
abbrev pub StandsAt : List PriorityEvent → TaskId → ℕ → Type 0
StandsAt events t i = slice_get (tasks_of events) i ≡ Some t

-- the level at a place has a reason: a priority given to a task from which the task there is reached
pub record HasReason (events : List PriorityEvent) (t : TaskId) (level : ℕ) : Type 0 where
  pub from : TaskId
  pub steps : ℕ
  pub priority : Priority
  pub given : IsGiven events from priority
  pub reached : Reaches events steps from t
  pub same : rank priority ≡ level

-- an edge stands for a step between the tasks at its ends
pub record EdgeStands (events : List PriorityEvent) (e : TaskEdge) : Type 0 where
  pub a : TaskId
  pub b : TaskId
  pub from : StandsAt events a e.from
  pub to : StandsAt events b e.to
  pub leads : Leads events a b

-- a step between two tasks has an edge between their places
pub record LeadStands (events : List PriorityEvent) (edges : List TaskEdge) (a b : TaskId) : Type 0 where
  pub i : ℕ
  pub j : ℕ
  pub from : StandsAt events a i
  pub to : StandsAt events b j
  pub edge : HasEdge edges i j

-- places, levels and edges are those of the events
pub record AreOf (events : List PriorityEvent) (place : TaskId → Option ℕ) (levels : List Priority) (edges : List TaskEdge) : Type 0 where
  pub count : length levels ≡ length (tasks_of events)
  pub found : (t : TaskId) (i : ℕ) → place t ≡ Some i → StandsAt events t i
  pub kept : (t : TaskId) (i : ℕ) → StandsAt events t i → place t ≡ Some i
  pub edges_stand : (k : ℕ) → k < length edges → EdgeStands events (edge_at edges k)
  pub leads_stand : (a b : TaskId) → Leads events a b → LeadStands events edges a b
  pub given : (t : TaskId) (p : Priority) → IsGiven events t p → (i : ℕ) × StandsAt events t i × (rank p ≤ level_of levels i)
  pub reasons : (t : TaskId) (i : ℕ) → StandsAt events t i → HasReason events t (level_of levels i)

-- what the fields keep: the graph is that of the events, and there is room for the reserved calls
pub record IsWaits (w : Inside) : Type 0 where
  pub are_of : AreOf w.events.items (λ t. place_in w.places t.0) w.graph.levels w.graph.edges
  pub events_room : vec_len w.events + w.graph.room ≤ vec_capacity w.events
  pub places_room : HasRoom w.places w.graph.room
