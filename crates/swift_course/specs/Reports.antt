-- What a seat learns of the book that it takes, and when the report of a run is legal (our own).
use Rattle.std.specs.Prelude.{◌≡◌, ℕ, ℤ, ◌<◌, ◌≤◌, true, Some, IfSome, List, [], ◌++◌, All, Contains, length, map, slice_get}
use Rattle.std.specs.List.{range_with_len}
use mathlib.Core.Option.{some}
use lib.ListN.{get_elem?}
use Rattle.swift_types.specs.declared.outcome.Ending.{Ending}
use Rattle.swift_script.specs.Scripts.{ScriptView, executor_count, executor_start, root_count}
use Rattle.swift_events.specs.declared.event.Event.{Event}
use Rattle.swift_events.specs.declared.life.Origin.{Origin}
use Rattle.swift_events.specs.Events.{tasks_of}
use Rattle.swift_events.specs.Lives.{life_of}
use Rattle.swift_events.specs.Relations.{is_closed, opened_by}
use Rattle.swift_journal.specs.Checkpoints.{CheckpointView, folded_of}
use Rattle.swift_journal.specs.Records.{RecordView}
use Rattle.swift_history.specs.Replay.{replay}
use Rattle.swift_history.specs.Histories.{AllStand, Block, IsLegal, ReportView, records_of, roots_of}
use Rattle.swift_history.specs.Orderly.{AllAllowed, IsOrderly, IsOrderlyLegal}
use Rattle.swift_history.specs.Histories as history
use Rattle.swift_course.specs.Course.{IsCourse, IsGiven, IsIn, IsOrdered, SaysOrder, standing, starts}
use Rattle.swift_course.specs.Views.{Account, BookFacts, BookKnown, TurnOrder, at_rest}

-- Some history, which folded no turn, led to the book. It has the records of the seat's accounts and gives the jobs of its tickets.
-- Where the seat opens accounts and adds roots, no executor past those has a record, and the roots were added in order; and where the
-- turns of each of those executors have begun in order, so have all.
pub record HasHistory (v : BookKnown) (facts : BookFacts) : Type 0 where
  pub blocks : List Block
  pub stand : AllStand facts.script (starts facts.script) [] blocks
  pub none_folded : (e : ℕ) → history.folded_of e blocks ≡ []
  pub log_is : facts.log ≡ (standing facts.script blocks).log
  pub accounts : All (IsIn blocks) v.accounts
  pub tickets : All (IsGiven (standing facts.script blocks)) v.tickets
  pub none_else : IfSome v.maker (λ m. (e : ℕ) → m.executors ≤ e → records_of e blocks ≡ [])
  pub roots : IfSome v.maker (λ m. roots_of blocks ≡ range_with_len 0 m.roots)
  pub order : ℕ → TurnOrder
  pub orders : All (SaysOrder facts.log order) v.accounts
  pub orderly : IfSome v.maker (λ m. ((e : ℕ) → e < m.executors → IsOrdered (order e)) → AllAllowed (IsOrderly facts.script) [] blocks)

-- what a seat learns of what it takes
abbrev pub Knows : BookKnown → BookFacts → Type 0
Knows v facts = IfSome v.script (λ known. facts.script ≡ known) × HasHistory v facts

-- Whatever else is known, a seat learns this.
abbrev pub SeatsLearn : Type 0
SeatsLearn = (v : BookKnown) (facts : BookFacts) (views : List BookKnown) (seat : ℕ) → IsCourse facts views → get_elem? views seat ≡ some v → Knows v facts

-- What is left of an executor: the first turns of its account are those of its checkpoint, whose fields they give; the others are
-- its journal, which gives its fields from there.
pub record IsAccountedFor (script : ScriptView) (v : BookKnown) (e : ℕ) (journal : List RecordView) (checkpoint : CheckpointView) (fields : List (List ℤ)) : Type 0 where
  pub past : List RecordView
  pub order : TurnOrder
  pub seen : List Event
  pub account : Contains v.accounts (record { executor = e; records = past ++ journal; order = order; seen = seen })
  pub folded : checkpoint.folded ≡ map folded_of past
  pub replayed : checkpoint.fields ≡ replay script (executor_start script e) past
  pub fields_are : fields ≡ replay script checkpoint.fields journal

-- The report has the log of a book, and of each executor of the script what is left of it. Each task has ended as the report says,
-- and has closed each group that it has opened.
pub record IsReportOf (facts : BookFacts) (v : BookKnown) (report : ReportView) : Type 0 where
  pub log_is : report.log ≡ facts.log
  pub executors : (length report.journals ≡ executor_count facts.script) × (length report.checkpoints ≡ executor_count facts.script) × (length report.fields ≡ executor_count facts.script)
  pub each : (e : ℕ) (journal : List RecordView) (checkpoint : CheckpointView) (fields : List (List ℤ)) → slice_get report.journals e ≡ Some journal → slice_get report.checkpoints e ≡ Some checkpoint → slice_get report.fields e ≡ Some fields → IsAccountedFor facts.script v e journal checkpoint fields
  pub tasks : length report.endings ≡ tasks_of (root_count facts.script) report.log
  pub endings : (t : ℕ) (x : Origin × Ending) → slice_get report.endings t ≡ Some x → ((life_of t report.log).origin ≡ Some x.0) × ((life_of t report.log).ending ≡ Some x.1)
  pub groups : (t g : ℕ) → t < length report.endings → g < opened_by t report.log → is_closed t g report.log ≡ true

-- Each of the first `n` executors has an account by which its turns have begun in order, and none is under way.
abbrev pub AreAtRest : ℕ → BookKnown → Type 0
AreAtRest n v = (e : ℕ) → e < n → (a : Account) × Contains v.accounts a × (a.executor ≡ e) × (a.order ≡ at_rest)

-- Where a seat has all accounts, and has added all roots, such a report is legal.
abbrev pub RunsAreLegal : Type 0
RunsAreLegal = (facts : BookFacts) (v : BookKnown) (report : ReportView) → HasHistory v facts
    → v.maker ≡ Some (record { executors = executor_count facts.script; roots = root_count facts.script }) → IsReportOf facts v report → IsLegal facts.script report

-- Where they also say that the turns of each executor have begun in order, it is legal with its blocks in order.
abbrev pub RunsAreOrderly : Type 0
RunsAreOrderly = (facts : BookFacts) (v : BookKnown) (report : ReportView) → HasHistory v facts
    → v.maker ≡ Some (record { executors = executor_count facts.script; roots = root_count facts.script }) → IsReportOf facts v report
    → AreAtRest (executor_count facts.script) v → IsOrderlyLegal facts.script report
