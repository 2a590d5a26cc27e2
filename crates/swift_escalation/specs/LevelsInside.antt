-- What the graph keeps: tasks by place, edges by place. No public clause of the crate names these.
use Rattle.std.specs.Prelude.{◌≡◌, ℕ, zero, suc, ◌+◌, ◌≤◌, ◌<◌, ◌⊎◌, List, Option, None, Some, length, slice_index_or, nat_lt, if◌then◌else◌, count_by, Contains, All}
use Rattle.swift_types.specs.Priority.{rank}
use Rattle.swift_types.specs.declared.priority.Priority.{Priority}
use Rattle.swift_types.specs.declared.priority.Priority.TheVariants.{Background}
use Rattle.swift_escalation.specs.declared.graph.TaskEdge.{TaskEdge}

-- the rank of the task at a place
abbrev pub level_of : List Priority → ℕ → ℕ
level_of levels i = rank (slice_index_or levels i Background)

-- the more urgent of two priorities
abbrev pub higher : Priority → Priority → Priority
higher p q = if nat_lt (rank p) (rank q) then q else p

-- how many tasks are below a rank
abbrev pub below : ℕ → List Priority → ℕ
below top levels = count_by (λ p. nat_lt (rank p) top) levels

-- the edge at place k
abbrev pub edge_at : List TaskEdge → ℕ → TaskEdge
edge_at edges k = slice_index_or edges k (record { from = 0; to = 0 })

-- the edges of a chain from here on are below this place
abbrev pub end_of : Option ℕ → ℕ
end_of None = 0
end_of (Some k) = suc k

-- there is an edge
abbrev pub HasEdge : List TaskEdge → ℕ → ℕ → Type 0
HasEdge edges a b = (k : ℕ) × (k < length edges) × ((edge_at edges k).from ≡ a) × ((edge_at edges k).to ≡ b)

-- a walk of n edges
abbrev pub Walk : List TaskEdge → ℕ → ℕ → ℕ → Type 0
Walk edges zero a b = a ≡ b
Walk edges (suc n) a b = (c : ℕ) × Walk edges n a c × HasEdge edges c b

-- one place is reached from the other, by a walk of whatever length; a place is reached from itself
abbrev pub HasWalk : List TaskEdge → ℕ → ℕ → Type 0
HasWalk edges a b = (n : ℕ) × Walk edges n a b

-- the edges from each task are chained, the newest first
pub record AreChained (edges : List TaskEdge) (before newest : List (Option ℕ)) : Type 0 where
  pub same : length before ≡ length edges
  pub from : (k : ℕ) → k < length edges → (edge_at edges k).from < length newest
  pub to : (k : ℕ) → k < length edges → (edge_at edges k).to < length newest
  -- the one before is older
  pub older : (k : ℕ) → k < length edges → end_of (slice_index_or before k None) ≤ k
  -- none is left out between the two
  pub next : (k j : ℕ) → k < length edges → j < k → (edge_at edges j).from ≡ (edge_at edges k).from → j < end_of (slice_index_or before k None)
  pub same_task : (k b : ℕ) → k < length edges → slice_index_or before k None ≡ Some b → (edge_at edges b).from ≡ (edge_at edges k).from
  pub first : (j : ℕ) → j < length edges → j < end_of (slice_index_or newest (edge_at edges j).from None)
  pub within : (a : ℕ) → end_of (slice_index_or newest a None) ≤ length edges
  pub of_task : (a b : ℕ) → slice_index_or newest a None ≡ Some b → (edge_at edges b).from ≡ a

-- some followers of a task were raised to a rank, and each of these was put on the stack
pub record Raising (edges : List TaskEdge) (task top : ℕ) (old new : List Priority) (stack stack' : List ℕ) : Type 0 where
  pub up : (i : ℕ) → level_of old i ≤ level_of new i
  pub raised : (i : ℕ) → level_of old i < level_of new i → (level_of new i ≡ top) × Contains stack' i × HasEdge edges task i
  pub kept : (i : ℕ) → Contains stack i → Contains stack' i
  pub only : (i : ℕ) → Contains stack' i → Contains stack i ⊎ HasEdge edges task i
  pub inside : All (λ i. i < length old) stack'
  pub count : length stack' + below top new ≤ length stack + below top old

-- each edge leads up
abbrev pub IsSettled : List TaskEdge → List Priority → Type 0
IsSettled edges levels = (k : ℕ) → k < length edges → level_of levels (edge_at edges k).from ≤ level_of levels (edge_at edges k).to

-- each edge leads up, but for those to the start from tasks of this rank at most
abbrev pub IsSettledBut : List TaskEdge → List Priority → ℕ → ℕ → Type 0
IsSettledBut edges levels start top = (k : ℕ) → k < length edges → (level_of levels (edge_at edges k).from ≤ level_of levels (edge_at edges k).to) ⊎ (((edge_at edges k).to ≡ start) × (level_of levels (edge_at edges k).from ≤ top))

-- some tasks on walks from one were raised to a rank
pub record Settling (edges : List TaskEdge) (start top : ℕ) (old new : List Priority) : Type 0 where
  pub up : (i : ℕ) → level_of old i ≤ level_of new i
  pub raised : (i : ℕ) → level_of old i < level_of new i → (level_of new i ≡ top) × HasWalk edges start i

-- what is still to do: an edge that does not lead up leaves a task on the stack
pub record IsOpen (edges : List TaskEdge) (start top : ℕ) (levels : List Priority) (stack : List ℕ) : Type 0 where
  pub edges_up : (k : ℕ) → k < length edges → (level_of levels (edge_at edges k).from ≤ level_of levels (edge_at edges k).to) ⊎ ((level_of levels (edge_at edges k).from ≤ top) × Contains stack (edge_at edges k).from)
  pub reached : (i : ℕ) → Contains stack i → HasWalk edges start i
  pub inside : All (λ i. i < length levels) stack

-- what callers see of a graph
pub record GraphView : Type 0 where
  pub levels : List Priority
  pub edges : List TaskEdge
  pub room : ℕ
