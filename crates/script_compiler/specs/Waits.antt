-- Which roots wait for a root that isn't declared before them (our own). Methods and roots are numbers.
use Rattle.std.specs.Prelude.{◌≡◌, ℕ, ◌≤◌, ◌<◌, List, Some, slice_get, Contains}
use Rattle.script_compiler.specs.declared.waits.first.CallEdge.{CallEdge}
use Rattle.script_compiler.specs.declared.waits.first.RootWait.{RootWait}

-- From one method one comes to another, in no steps or more.
pub data Leads (edges : List CallEdge) : ℕ → ℕ → Type 0 where
  here : {m : ℕ} → Leads edges m m
  on : {m k n : ℕ} → Contains edges (record { from = m; to = k }) → Leads edges k n → Leads edges m n

-- The root at a place waits for itself or for a later one: its method leads to a method that waits for it.
pub record WaitsForLater (edges : List CallEdge) (waits : List RootWait) (roots : List ℕ) (place : ℕ) : Type 0 where
  pub method : ℕ
  pub is : slice_get roots place ≡ Some method
  pub at : ℕ
  pub leads : Leads edges method at
  pub later : ℕ
  pub wait : Contains waits (record { method = at; root = later })
  pub not_before : place ≤ later

-- No root before a place waits for itself or for a later one.
abbrev pub NoneBefore : List CallEdge → List RootWait → List ℕ → ℕ → Type 0
NoneBefore edges waits roots place = (earlier : ℕ) → earlier < place → WaitsForLater edges waits roots earlier → ⊥

-- No root waits for itself or for a later one.
abbrev pub NoneWaits : List CallEdge → List RootWait → List ℕ → Type 0
NoneWaits edges waits roots = (place : ℕ) → WaitsForLater edges waits roots place → ⊥
