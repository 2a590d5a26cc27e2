-- Laws of legal reports (SE-0392 for executors that run one job at a time, SE-0306 for actors; the rest is our own).
use Rattle.std.specs.Prelude.{◌≡◌, ℕ, ℤ, IsTrue, Some, List, Contains, slice_get}
use Rattle.script_code.specs.Tree.{Term}
use Rattle.script_code.specs.Value.{holds}
use Rattle.swift_script.specs.Scripts.{ScriptView, executor_invariants}
use Rattle.swift_journal.specs.Records.{RecordView}
use Rattle.swift_journal.specs.Checkpoints.{CheckpointView}
use Rattle.swift_history.specs.Replay.{AreLawful, RunOn, replay}
use Rattle.swift_history.specs.Histories.{IsLegal, ReportView}

-- what a report has of an executor
pub record HasExecutor (report : ReportView) (e : ℕ) (journal : List RecordView) (checkpoint : CheckpointView) (fields : List (List ℤ)) : Type 0 where
  pub journal_is : slice_get report.journals e ≡ Some journal
  pub checkpoint_is : slice_get report.checkpoints e ≡ Some checkpoint
  pub fields_are : slice_get report.fields e ≡ Some fields

-- From its checkpoint on, an executor's journal is lawful, its turns are of its actors, and replaying it on one thread gives
-- the executor's fields.
pub record IsReplayed (script : ScriptView) (e : ℕ) (journal : List RecordView) (checkpoint : CheckpointView) (fields : List (List ℤ)) : Type 0 where
  pub lawful : AreLawful script checkpoint.fields journal
  pub runs : RunOn script e journal
  pub replayed : fields ≡ replay script checkpoint.fields journal

-- each executor of a legal report is
abbrev pub LegalIsReplayed : Type 0
LegalIsReplayed = (script : ScriptView) (report : ReportView) (e : ℕ) (journal : List RecordView) (checkpoint : CheckpointView) (fields : List (List ℤ))
    → IsLegal script report → HasExecutor report e journal checkpoint fields → IsReplayed script e journal checkpoint fields

-- In a legal report each invariant of an executor's actors that holds of its checkpoint's fields holds of its fields. Where
-- no turn was folded, the checkpoint's fields are those that the script starts with.
abbrev pub LegalKeepsInvariants : Type 0
LegalKeepsInvariants = (script : ScriptView) (report : ReportView) (e : ℕ) (journal : List RecordView) (checkpoint : CheckpointView) (fields : List (List ℤ)) (t : Term)
    → IsLegal script report → HasExecutor report e journal checkpoint fields → Contains (executor_invariants script e) t → IsTrue (holds (Some t) checkpoint.fields) → IsTrue (holds (Some t) fields)
