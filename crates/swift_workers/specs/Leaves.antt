-- What a run leaves of its executors and of its tasks (SE-0392 for executors that run one job at a time, SE-0304 for tasks; the
-- rest is our own).
use Rattle.std.specs.Prelude.{◌≡◌, ◌↔◌, ℕ, ◌+◌, ◌<◌, ℤ, true, IsTrue, Some, List, [], ◌∷◌, Contains, length}
use Rattle.std.specs.declared.vec.Vec.{Vec}
use Rattle.std.specs.declared.alloc.Global.{Global}
use Rattle.script_code.specs.Seen.{rows_of}
use Rattle.script_code.specs.Tree.{Term}
use Rattle.script_code.specs.Value.{holds}
use Rattle.swift_types.specs.declared.outcome.Ending.{Ending}
use Rattle.swift_script.specs.Scripts.{ScriptView, executor_invariants, executor_start}
use Rattle.swift_journal.specs.Checkpoints.{CheckpointRoomView, CheckpointView}
use Rattle.swift_journal.specs.Records.{RecordView}
use Rattle.swift_history.specs.Replay.{AreLawful, RunOn, replay}
use Rattle.swift_events.specs.declared.event.Event.{Event}
use Rattle.swift_events.specs.declared.life.Origin.{Origin}
use Rattle.swift_events.specs.declared.life.Origin.TheVariants.{Root}
use Rattle.swift_events.specs.Events.{tasks_of}
use Rattle.swift_events.specs.Lives.{life_of}
use Rattle.swift_events.specs.Relations.{is_closed, opened_by}
use Rattle.swift_executor.specs.State.{HasPast}

-- The turns of an executor's checkpoint were lawful from the start values on (`HasPast`), its journal is lawful from the checkpoint
-- on, its turns are of the executor's actors, and replaying them gives these fields.
pub record IsPartReplayed (p : ScriptView) (e : ℕ) (c : CheckpointView) (journal : List RecordView) (fields : List (List ℤ)) : Type 0 where
  pub past : HasPast p e c
  pub lawful : AreLawful p c.fields journal
  pub runs : RunOn p e journal
  pub replayed : fields ≡ replay p c.fields journal

-- The parts of each executor from number `e` on are replayed.
abbrev pub AreReplayed : ScriptView → ℕ → List CheckpointRoomView → List (List RecordView) → List (Vec (Vec ℤ Global) Global) → Type 0
AreReplayed p e [] [] [] = Unit {0}
AreReplayed p e (c ∷ checkpoints) (journal ∷ journals) (fields ∷ others) =
    IsPartReplayed p e c.view journal (rows_of fields.items) × AreReplayed p (e + 1) checkpoints journals others
AreReplayed p e _ _ _ = ⊥

-- Something holds of each thing in a list, with its number, the first of which is given.
abbrev pub EachFrom : {A : Type 0} → (ℕ → A → Type 0) → ℕ → List A → Type 0
EachFrom P n [] = Unit {0}
EachFrom P n (x ∷ xs) = P n x × EachFrom P (n + 1) xs

-- Each invariant of an executor's actors that holds of what their fields start with holds of these.
abbrev pub Keeps : ScriptView → ℕ → List (List ℤ) → Type 0
Keeps p e rows = (t : Term) → Contains (executor_invariants p e) t → IsTrue (holds (Some t) (executor_start p e)) → IsTrue (holds (Some t) rows)

-- the fields of each executor from number `e` on keep its invariants
abbrev pub KeepInvariants : ScriptView → ℕ → List (Vec (Vec ℤ Global) Global) → Type 0
KeepInvariants p e fields = EachFrom (λ k rows. Keeps p k (rows_of rows.items)) e fields

-- A task comes from there and has ended so, as the log says. It is a root's where its number is below that of roots. It has closed
-- each group that it has opened.
pub record IsEnding (roots : ℕ) (log : List Event) (task : ℕ) (e : Origin × Ending) : Type 0 where
  pub origin : (life_of task log).origin ≡ Some e.0
  pub ending : (life_of task log).ending ≡ Some e.1
  pub root : (e.0 ≡ Root) ↔ (task < roots)
  pub groups : (g : ℕ) → g < opened_by task log → is_closed task g log ≡ true

-- There is one ending for each task that the log made, in their order, and the first ones are those of the roots.
pub record AreEndings (roots : ℕ) (log : List Event) (endings : List (Origin × Ending)) : Type 0 where
  pub many : length endings ≡ tasks_of roots log
  pub each : EachFrom (IsEnding roots log) 0 endings
