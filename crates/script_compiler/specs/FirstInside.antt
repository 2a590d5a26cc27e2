-- What the lists and the marks of a search stand for. No public clause names these.
use Rattle.std.specs.Prelude.{◌≡◌, ℕ, ◌≤◌, ◌<◌, List, Option, None, Some, min, vec_len, Contains}
use Rattle.script_compiler.specs.Waits.{Leads, WaitsForLater}
use Rattle.script_compiler.specs.MarksInside.{IsMarked, count_of}
use Rattle.script_compiler.specs.declared.waits.first.CallEdge.{CallEdge}
use Rattle.script_compiler.specs.declared.waits.first.RootWait.{RootWait}
use Rattle.script_compiler.specs.declared.waits.marks.Marks.{Marks}

-- An edge leads to the first method from the second.
abbrev pub Calls : List CallEdge → ℕ → ℕ → Type 0
Calls edges a m = Contains edges (record { from = m; to = a })

-- The second method waits for the root at the first place, or for one past the last place.
pub record WaitsInPlace (waits : List RootWait) (roots place method : ℕ) : Type 0 where
  pub root : ℕ
  pub wait : Contains waits (record { method = method; root = root })
  pub is : place ≡ min roots root

-- A method leads to one that waits for the root at a place or a later one.
pub record LeadsToWait (edges : List CallEdge) (waits : List RootWait) (place method : ℕ) : Type 0 where
  pub at : ℕ
  pub leads : Leads edges method at
  pub later : ℕ
  pub wait : Contains waits (record { method = at; root = later })
  pub not_before : place ≤ later

-- What leads to a wait for the root at a place or a later one is marked, and nothing else.
pub record AreMarks (edges : List CallEdge) (waits : List RootWait) (methods place : ℕ) (s : Marks) : Type 0 where
  pub count : count_of s ≡ methods
  pub sound : (m : ℕ) → IsMarked s m → LeadsToWait edges waits place m
  pub all : (m : ℕ) → LeadsToWait edges waits place m → IsMarked s m
  pub none_pending : vec_len s.pending ≡ 0

-- The first among the roots from a place on that waits for itself or for a later one.
abbrev pub IsFirstFrom : List CallEdge → List RootWait → List ℕ → ℕ → Option ℕ → Type 0
IsFirstFrom edges waits roots place None = (q : ℕ) → place ≤ q → WaitsForLater edges waits roots q → ⊥
IsFirstFrom edges waits roots place (Some p) =
    WaitsForLater edges waits roots p × ((q : ℕ) → place ≤ q → q < p → WaitsForLater edges waits roots q → ⊥)
