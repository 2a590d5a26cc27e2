-- What holds of each accepted script.
use Rattle.std.specs.Prelude.{◌≡◌, ℕ, ◌<◌, zero, suc, length, Contains}
use Rattle.swift_types.specs.declared.id.TaskId.{TaskId}
use Rattle.swift_types.specs.declared.outcome.Resume.{Resume}
use Rattle.script_code.specs.Tree.{Operation, return, open_group, close_group, Code, end, act, choice, loop}
use Rattle.swift_script.specs.Scripts.{ScriptView, method_code, root_count}
use Rattle.swift_script.specs.Accepted.{WasAccepted}
use Rattle.swift_events.specs.declared.event.Event.TheVariants.{Give}
use Rattle.swift_history.specs.Histories.{IsLegal, ReportView}
use Rattle.swift_laws.specs.Laws.{TurnPlace, HasTurn, turns_of, ActorsHaveExecutors}

-- What a statement asks for, with `n` groups open: a `return` is where none is open, and the end of a group's block where one
-- is. `rest` says what is asked of what follows, by how many are open there.
abbrev pub after_operation : Operation → (ℕ → Type 0) → ℕ → Type 0
after_operation (return t) rest n = n ≡ 0
after_operation (open_group h) rest n = rest (suc n)
after_operation close_group rest zero = ⊥
after_operation close_group rest (suc n) = rest n
after_operation d rest n = rest n

-- Statements lead from `n` open groups to `m`, whichever way they are gone through.
abbrev pub LeadsTo : Code → ℕ → ℕ → Type 0
LeadsTo end n m = n ≡ m
LeadsTo (act d rest) n m = after_operation d (λ k. LeadsTo rest k m) n
LeadsTo (choice t a b rest) n m = LeadsTo a n n × LeadsTo b n n × LeadsTo rest n m
LeadsTo (loop t a rest) n m = LeadsTo a n n × LeadsTo rest n m

-- Each method closes each group that it opens, and returns in none.
abbrev pub ClosesGroups : ScriptView → Type 0
ClosesGroups script = (m : ℕ) → LeadsTo (method_code script m) 0 0

-- An accepted script is such.
abbrev pub AcceptedCloseGroups : Type 0
AcceptedCloseGroups = (script : ScriptView) → WasAccepted script → ClosesGroups script

-- Where there is a root, each actor of an accepted script runs on an executor of the script.
abbrev pub AcceptedHaveExecutors : Type 0
AcceptedHaveExecutors = (script : ScriptView) → WasAccepted script → ActorsHaveExecutors script

-- So each turn that the log of its legal report applies is in the report.
abbrev pub AcceptedTurnsStand : Type 0
AcceptedTurnsStand = (script : ScriptView) (report : ReportView) (t n : ℕ) → WasAccepted script → IsLegal script report
    → n < length (turns_of t report.log) → (p : TurnPlace) × HasTurn report p t n

-- And so does the turn of each job that the log gives.
abbrev pub AcceptedJobsStand : Type 0
AcceptedJobsStand = (script : ScriptView) (report : ReportView) (t : TaskId) (n : ℕ) (resume : Resume) → WasAccepted script → IsLegal script report
    → Contains report.log (Give t n resume) → (p : TurnPlace) × HasTurn report p t.0 n
