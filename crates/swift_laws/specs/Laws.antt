-- Laws of legal reports (SE-0304 for priorities, SE-0311 for bindings; the rest is our own).
use Rattle.std.specs.Prelude.{◌≡◌, ℕ, ◌<◌, ◌==◌, Bool, false, if◌then◌else◌, Option, Some, None, List, ◌∷◌, ◌++◌, length, slice_get}
use Rattle.std.specs.List.{filter_map, list_any, range_with_len}
use Rattle.swift_types.specs.declared.env.Env.{Env}
use Rattle.swift_script.specs.Scripts.{ScriptView, root_count, executor_count, actor_executor}
use Rattle.swift_journal.specs.Records.{RecordView}
use Rattle.swift_journal.specs.Checkpoints.{FoldedView, CheckpointView}
use Rattle.swift_events.specs.declared.event.Event.{Event}
use Rattle.swift_events.specs.declared.event.Event.TheVariants.{Begin, Apply, Give}
use Rattle.swift_events.specs.Room.{IsEnv}
use Rattle.swift_history.specs.TurnEnds.{task}
use Rattle.swift_history.specs.Histories.{IsLegal, ReportView}

-- the journal of this executor has this record at this place
pub record IsRecord (report : ReportView) (executor place : ℕ) (r : RecordView) : Type 0 where
  pub journal : List RecordView
  pub is_journal : slice_get report.journals executor ≡ Some journal
  pub stands : slice_get journal place ≡ Some r

-- the checkpoint of this executor has this folded turn at this place
pub record IsFolded (report : ReportView) (executor place : ℕ) (f : FoldedView) : Type 0 where
  pub checkpoint : CheckpointView
  pub is_checkpoint : slice_get report.checkpoints executor ≡ Some checkpoint
  pub stands : slice_get checkpoint.folded place ≡ Some f

-- where a turn may be in a report: in the journal of an executor, or among the folded turns of its checkpoint
pub data TurnPlace : Type 0 where
  in_journal : ℕ → ℕ → TurnPlace
  in_checkpoint : ℕ → ℕ → TurnPlace

-- turn `n` of task `t` is there
abbrev pub HasTurn : ReportView → TurnPlace → ℕ → ℕ → Type 0
HasTurn report (in_journal e i) t n = (r : RecordView) × IsRecord report e i r × (r.task ≡ t) × (r.number ≡ n)
HasTurn report (in_checkpoint e i) t n = (f : FoldedView) × IsFolded report e i f × (f.task ≡ t) × (f.number ≡ n)

-- in a legal report a turn has one place
abbrev pub EachTurnStandsOnce : Type 0
EachTurnStandsOnce = (script : ScriptView) (report : ReportView) (p q : TurnPlace) (t n : ℕ)
    → IsLegal script report → HasTurn report p t n → HasTurn report q t n → p ≡ q

-- the number of the turn of task `t` that this event applies, if it does
abbrev pub turn_in : ℕ → Event → Option ℕ
turn_in t (Apply task n) = if task.0 == t then Some n else None
turn_in t _ = None

-- the numbers of the turns of task `t`, in the order in which the log applies them
abbrev pub turns_of : ℕ → List Event → List ℕ
turns_of t log = filter_map (turn_in t) log

-- in a legal report they are 0, 1, 2 and so on, and each turn of the task that is in the report is one of them
abbrev pub TurnsAreNumbered : Type 0
TurnsAreNumbered = (script : ScriptView) (report : ReportView) (t : ℕ) → IsLegal script report
    → (turns_of t report.log ≡ range_with_len 0 (length (turns_of t report.log)))
    × ((p : TurnPlace) (n : ℕ) → HasTurn report p t n → n < length (turns_of t report.log))

-- Where the script has a root, each actor runs on an executor of the script. It is asked of every number: one past the actors counts as on
-- executor 0.
abbrev pub ActorsHaveExecutors : ScriptView → Type 0
ActorsHaveExecutors script = 0 < root_count script → (actor : ℕ) → actor_executor script actor < executor_count script

-- where they do, each turn that the log of a legal report applies is in the report
abbrev pub AppliedTurnsStand : Type 0
AppliedTurnsStand = (script : ScriptView) (report : ReportView) (t n : ℕ) → IsLegal script report → ActorsHaveExecutors script
    → n < length (turns_of t report.log) → (p : TurnPlace) × HasTurn report p t n

-- the number of the turn for which this event gives task `t` a job, if it does
abbrev pub given_job : ℕ → Event → Option ℕ
given_job t (Give task n resume) = if task.0 == t then Some n else None
given_job t _ = None

-- the numbers of the turns for which the log gives task `t` a job, in order
abbrev pub jobs_given : ℕ → List Event → List ℕ
jobs_given t log = filter_map (given_job t) log

-- in a legal report they are those of the turns that it applies, in that order
abbrev pub GivenJobsAreApplied : Type 0
GivenJobsAreApplied = (script : ScriptView) (report : ReportView) (t : ℕ) → IsLegal script report → jobs_given t report.log ≡ turns_of t report.log

-- whether a turn of the task begins
abbrev pub begins_turn : ℕ → Event → Bool
begins_turn t (Begin task n env) = task.0 == t
begins_turn t _ = false

-- The log has this turn begin in this environment, and then has it applied; in between no turn of the task begins. The
-- environment is that of the log before the begin: its priority is the greatest of those given to tasks from which it is
-- reached along children and waits, it says whether the task was cancelled, and how many tasks the turn may make.
pub record BeginsIn (script : ScriptView) (log : List Event) (t n : ℕ) (env : Env) : Type 0 where
  pub before : List Event
  pub between : List Event
  pub after : List Event
  pub parts : log ≡ before ++ Begin (task t) n env ∷ (between ++ Apply (task t) n ∷ after)
  pub once : list_any (begins_turn t) between ≡ false
  pub is_env : IsEnv (root_count script) (task t) before env

-- each turn of a legal report does, in the environment that its record has
abbrev pub TurnsHaveTheirPriority : Type 0
TurnsHaveTheirPriority = (script : ScriptView) (report : ReportView) (e i : ℕ) (r : RecordView)
    → IsLegal script report → IsRecord report e i r → BeginsIn script report.log r.task r.number r.env
