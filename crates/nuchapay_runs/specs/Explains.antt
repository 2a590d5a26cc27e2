-- Where a turn stands of which something is said.
use Rattle.std.specs.Prelude.{◌≡◌, ℕ, ◌+◌, ◌<◌, Option, Some, None, List, Contains, length, slice_get, slice_index_or, take}
use Rattle.swift_types.specs.declared.outcome.Ending.{Ending}
use Rattle.swift_events.specs.declared.life.Origin.{Origin}
use Rattle.script_code.specs.Instructions.{FollowsCode}
use Rattle.script_code.specs.Layout.{code_at}
use Rattle.swift_script.specs.Scripts.{ScriptView, method_actor, method_code}
use Rattle.swift_journal.specs.Records.{RecordView}
use Rattle.swift_history.specs.Replay.{replay}
use Rattle.swift_journal.specs.Checkpoints.{CheckpointRoomView, FoldedView}
use Rattle.swift_report.specs.declared.report.Report.{Report}
use Rattle.run_pictures.specs.LastTurns.{IsLastTurn, IsOfOther}
use Rattle.run_pictures.specs.Values.{turn_values, values_from}
use Rattle.nuchapay_runs.specs.Why.{KnownTurn, why_text}
use Rattle.nuchapay_runs.specs.declared.explained.Explained.{Explained}
use Rattle.nuchapay_runs.specs.declared.explained.Explained.TheVariants as said
use Rattle.nuchapay_runs.specs.declared.names.Found.{Found}
use Rattle.nuchapay_runs.specs.declared.names.Found.TheVariants as found

-- A journal has a turn of this task with this number.
abbrev pub HasTurn : List RecordView → ℕ → ℕ → Type 0
HasTurn journal task number = (r : RecordView) × Contains journal r × (r.task ≡ task) × (r.number ≡ number)

-- One of these journals has it.
abbrev pub IsInJournals : List (List RecordView) → ℕ → ℕ → Type 0
IsInJournals journals task number = (j : List RecordView) × Contains journals j × HasTurn j task number

-- A checkpoint has such a turn that was folded.
abbrev pub HasFolded : List FoldedView → ℕ → ℕ → Type 0
HasFolded folded task number = (f : FoldedView) × Contains folded f × (f.task ≡ task) × (f.number ≡ number)

-- One of these checkpoints has it.
abbrev pub IsInCheckpoints : List CheckpointRoomView → ℕ → ℕ → Type 0
IsInCheckpoints checkpoints task number = (c : CheckpointRoomView) × Contains checkpoints c × HasFolded c.view.folded task number

-- A journal has this turn at a place.
pub record IsTurnAt (journal : List RecordView) (place task number : ℕ) : Type 0 where
  pub within : place < length journal
  pub task_is : (d : RecordView) → (slice_index_or journal place d).task ≡ task
  pub number_is : (d : RecordView) → (slice_index_or journal place d).number ≡ number

-- The journal of an executor has this turn at a place.
pub record IsInJournalOf (journals : List (List RecordView)) (executor place task number : ℕ) : Type 0 where
  pub journal : List RecordView
  pub is : slice_get journals executor ≡ Some journal
  pub at : IsTurnAt journal place task number

-- A turn stands where it was found.
abbrev pub Stands : Report → ℕ → ℕ → Found → Type 0
Stands report task number (found.Journal e place) = IsInJournalOf report.journals.items e place task number
Stands report task number found.Folded = IsInCheckpoints report.checkpoints.items task number
Stands report task number found.Nowhere = Unit {0}

-- Something is said of a turn only where a journal of the report has it; it is said to be folded only where a checkpoint has it.
abbrev pub Explains : Report → ℕ → ℕ → Explained → Type 0
Explains report task number (said.Found text) = IsInJournals report.journals.items task number
Explains report task number said.Folded = IsInCheckpoints report.checkpoints.items task number
Explains report task number said.Nowhere = Unit {0}

-- it is not said that the turn was folded
abbrev pub IsNotFolded : Explained → Type 0
IsNotFolded said.Folded = ⊥
IsNotFolded _ = Unit {0}

-- The last turn of its task before a turn, if the journal has one.
abbrev pub IsLast : List RecordView → ℕ → Option ℕ → Type 0
IsLast journal place (Some last) = IsLastTurn journal place last
IsLast journal place None = (earlier : ℕ) → earlier < place → IsOfOther journal place earlier

-- This is known of the turn at a place of a journal of executor `e`, which goes on after a checkpoint, where tasks come from there. What
-- its variables are called, and the text of its method, is left open.
pub record IsKnown (p : ScriptView) (es : List (Origin × Ending)) (e : ℕ) (c : CheckpointRoomView) (journal : List RecordView) (place : ℕ) (k : KnownTurn) : Type 0 where
  pub script : k.names.script ≡ p
  pub endings : k.endings ≡ es
  pub executor : k.names.executor ≡ e
  pub actor : k.names.actor ≡ method_actor p k.turn.frame.method
  pub instructions : FollowsCode k.instructions (method_code p k.turn.frame.method) (code_at (method_code p k.turn.frame.method))
  pub position : k.position ≡ length c.view.folded + place
  pub journal_is : k.journal ≡ journal
  pub place_is : k.place ≡ place
  pub turn : (d : RecordView) → k.turn ≡ slice_index_or journal place d
  pub before : k.before ≡ replay p c.view.fields (take place journal)
  pub own : k.own ≡ turn_values p k.before k.turn
  pub values : k.values ≡ values_from p c.view.fields journal
  pub last : IsLast journal place k.last

-- A text explains the turn at a place of a journal: it is that of what is known of the turn.
abbrev pub IsWhyAt : ScriptView → List (Origin × Ending) → ℕ → CheckpointRoomView → List RecordView → ℕ → List ℕ → Type 0
IsWhyAt p es e c journal place text = (k : KnownTurn) × IsKnown p es e c journal place k × (text ≡ why_text k)

-- A text explains the turn at a place of an executor's journal in a report.
pub record IsWhyIn (p : ScriptView) (report : Report) (executor place : ℕ) (text : List ℕ) : Type 0 where
  pub checkpoint : CheckpointRoomView
  pub journal : List RecordView
  pub checkpoint_is : slice_get report.checkpoints.items executor ≡ Some checkpoint
  pub journal_is : slice_get report.journals.items executor ≡ Some journal
  pub explains : IsWhyAt p report.endings.items executor checkpoint journal place text

-- A text explains this turn of a report: it explains the turn at a place where a journal has this one.
pub record IsWhy (p : ScriptView) (report : Report) (task number : ℕ) (text : List ℕ) : Type 0 where
  pub executor : ℕ
  pub place : ℕ
  pub stands : IsInJournalOf report.journals.items executor place task number
  pub explains : IsWhyIn p report executor place text

-- The text that is said of a turn explains it.
abbrev pub Tells : ScriptView → Report → ℕ → ℕ → Explained → Type 0
Tells p report task number (said.Found text) = IsWhy p report task number text.items
Tells p report task number _ = Unit {0}
