-- What is known of a hint on the way to it. No contract that others see cites these.
use Rattle.std.specs.Prelude.{◌≡◌, ℕ, ◌+◌, ◌-◌, ◌<◌, ◌≤◌, ◌==◌, Some, List, [], ◌∷◌, ◌++◌, count_by, get_or, length, map, slice_get, take}
use Rattle.swift_script.specs.Scripts.{ScriptView}
use Rattle.swift_journal.specs.Records.{RecordView}
use Rattle.swift_report.specs.declared.report.Report.{Report}
use Rattle.swift_explorer.specs.declared.moves.Move.{Move}
use Rattle.run_pictures.specs.declared.values.change.TurnValues.{TurnValues}
use Rattle.run_pictures.specs.Values.{values_views}
use Rattle.std.specs.Global.{Vec}
use Rattle.explorer_progress.specs.declared.again.PlayedReport.{PlayedReport}
use Rattle.explorer_progress.specs.declared.hint.NoProgress.{NoProgress}
use Rattle.explorer_progress.specs.declared.repeated.Repeated.{Repeated}
use Rattle.explorer_progress.specs.declared.turns.TurnAt.{TurnAt}
use Rattle.explorer_progress.specs.Hints.{IsReportOf}
use Rattle.explorer_progress.specs.Rounds.{IsAtLimit, IsRound, changes_at, journal_at, played_at, runs_of}

-- other steps begin with these
abbrev pub Begins : List Move → List Move → Type 0
Begins steps whole = (rest : List Move) × (whole ≡ steps ++ rest)

-- what was played of each journal is what its turns did
abbrev pub ArePlayed : ScriptView → Report → List (Vec TurnValues) → Type 0
ArePlayed script report values = (e : ℕ) (done : Vec TurnValues) → slice_get values e ≡ Some done → values_views done.items ≡ played_at script report e

-- a report was played
abbrev pub IsPlayed : ScriptView → PlayedReport → Type 0
IsPlayed script run = ArePlayed script run.report run.values.items

-- the record of a turn, at its place
abbrev pub IsRecordAt : Report → TurnAt → RecordView → Type 0
IsRecordAt report turn r = slice_get (journal_at report turn.executor) turn.place ≡ Some r

-- this turn of a task stands at a place of a journal
pub record IsThere (journal : List RecordView) (place t n : ℕ) : Type 0 where
  pub r : RecordView
  pub written : slice_get journal place ≡ Some r
  pub task : r.task ≡ t
  pub number : r.number ≡ n

-- the turn at place `k` of those that steps run stands where it is said to, and its step is the one that runs it
pub record Stands (report : Report) (steps : List Move) (k : ℕ) (turn : TurnAt) : Type 0 where
  pub there : IsThere (journal_at report turn.executor) turn.place turn.task.0 (count_by (λ t. t == turn.task.0) (take k (runs_of steps)))
  pub within : turn.step < length steps
  pub upto : length (runs_of (take (turn.step + 1) steps)) ≡ k + 1

-- the turns of the steps before this one, and how many each task has
pub record AreTurnsTo (report : Report) (steps : List Move) (step : ℕ) (turns : List TurnAt) (run : List ℕ) : Type 0 where
  pub tasks : map (λ turn. turn.task.0) turns ≡ runs_of (take step steps)
  pub stand : (k : ℕ) (turn : TurnAt) → slice_get turns k ≡ Some turn → Stands report steps k turn
  pub counts : (t : ℕ) → t < length run → get_or run t 0 ≡ count_by (λ u. u == t) (runs_of (take step steps))

-- the turns of steps
pub record AreTurns (report : Report) (steps : List Move) (turns : List TurnAt) : Type 0 where
  pub tasks : map (λ turn. turn.task.0) turns ≡ runs_of steps
  pub stand : (k : ℕ) (turn : TurnAt) → slice_get turns k ≡ Some turn → Stands report steps k turn

-- the later of two records of a journal says the same as the earlier but for its number, and nothing was made or cancelled
pub record IsSameTurn (journal : List RecordView) (before place : ℕ) : Type 0 where
  pub earlier : RecordView
  pub later : RecordView
  pub first : slice_get journal before ≡ Some earlier
  pub again : slice_get journal place ≡ Some later
  pub same : later ≡ record earlier { number = later.number }
  pub alone : earlier.effects ≡ []

-- a turn does what an earlier one did
pub record IsAgain (run : PlayedReport) (earlier later : TurnAt) : Type 0 where
  pub executor : earlier.executor ≡ later.executor
  pub turn : IsSameTurn (journal_at run.report earlier.executor) earlier.place later.place
  pub changes : (script : ScriptView) → IsPlayed script run → changes_at script run.report later.executor later.place ≡ changes_at script run.report earlier.executor earlier.place

-- the turn at place `k` does what the one `period` places before it did
pub record RepeatsAt (run : PlayedReport) (turns : List TurnAt) (period k : ℕ) : Type 0 where
  pub earlier : TurnAt
  pub later : TurnAt
  pub first : slice_get turns (k - period) ≡ Some earlier
  pub again : slice_get turns k ≡ Some later
  pub is : IsAgain run earlier later

-- each turn from one place to another repeats
abbrev pub AllRepeat : PlayedReport → List TurnAt → ℕ → ℕ → ℕ → Type 0
AllRepeat run turns period from to = (k : ℕ) → from ≤ k → k < to → RepeatsAt run turns period k

-- turns repeat up to a place
pub record AreRepeated (run : PlayedReport) (turns : List TurnAt) (to : ℕ) (repeated : Repeated) : Type 0 where
  pub some : 1 ≤ repeated.period
  pub all : AllRepeat run turns repeated.period (repeated.from + repeated.period) to

-- the turn at a place begins with the fault of a task that has had all its turns
pub record IsLimit (report : Report) (turns : List TurnAt) (place : ℕ) : Type 0 where
  pub turn : TurnAt
  pub there : slice_get turns place ≡ Some turn
  pub r : RecordView
  pub written : IsRecordAt report turn r
  pub is : IsAtLimit r

-- these records are those of turns
abbrev pub AreRecords : Report → List TurnAt → List RecordView → Type 0
AreRecords report [] [] = Unit {0}
AreRecords report [] (r ∷ rs) = ⊥
AreRecords report (turn ∷ turns) [] = ⊥
AreRecords report (turn ∷ turns) (r ∷ rs) = IsRecordAt report turn r × AreRecords report turns rs

-- it is of these steps and of this report
pub record IsOf (run : PlayedReport) (whole : List Move) (hint : NoProgress) : Type 0 where
  pub begins : Begins hint.schedule.items whole
  pub endings : hint.endings.items ≡ run.report.endings.items
  pub round : (script : ScriptView) → IsPlayed script run → IsRound script run.report whole hint

-- it is of the report that these steps make
pub record IsIn (script : ScriptView) (whole : List Move) (hint : NoProgress) : Type 0 where
  pub report : Report
  pub is : IsReportOf script whole report
  pub begins : Begins hint.schedule.items whole
  pub endings : hint.endings.items ≡ report.endings.items
  pub round : IsRound script report whole hint
