-- What a search that came to its end says of each run of the script (our own).
use Rattle.std.specs.Prelude.{◌≡◌, ◌<◌, ℕ, Bool, true, Some, List, ◌++◌, All, Contains, slice_get}
use Rattle.script_code.specs.Tree.{Term}
use Rattle.swift_journal.specs.Records.{RecordView}
use Rattle.swift_certificate.specs.Reports.{report_view}
use Rattle.swift_history.specs.Histories.{ReportView}
use Rattle.swift_script.specs.Scripts.{ScriptView, root_count}
use Rattle.swift_tool.specs.Run.{IsRunOf}
use Rattle.expectations.specs.declared.answer.Answer.{Answer}
use Rattle.expectations.specs.declared.expectation.Verdict.TheVariants as verdict
use Rattle.expectations.specs.Answers.{status_of}
use Rattle.expectations.specs.Comments.{expected}
use Rattle.expectations.specs.Meaning.{end_scene, has_value, judged}
use Rattle.expectations.specs.Texts.{IsTest}
use Rattle.explorer_answers.specs.Answered.{IsAnswer}
use Rattle.swift_explorer.specs.declared.outcome.RunOutcome.{RunOutcome}
use Rattle.swift_explorer.specs.Outcomes.{HasEachOutcome, NeverBreaks, Tells}
use Rattle.swift_explorer.specs.Steps.{BreaksInvariant}

-- Of the outcomes `outcomes` of a search that came to its end, one tells how the tasks of a run of the script have ended and which fields
-- it has left.
abbrev pub EachRunIsListed : Type 0
EachRunIsListed = (bytes text : List ℕ) (quiet well : Bool) (run : IsRunOf bytes quiet text well) (outcomes : List RunOutcome)
    → HasEachOutcome run.script outcomes → (o : RunOutcome) × Contains outcomes o × Tells o (report_view run.report)

-- No turn of a run ends since it breaks an invariant: none of those in the journals of the whole report, of which what was printed is the
-- fold.
abbrev pub BreaksNone : {bytes text : List ℕ} {quiet well : Bool} → IsRunOf bytes quiet text well → Type 0
BreaksNone run = (e : ℕ) (turns : List RecordView) (r : RecordView) → slice_get run.whole.whole.journals e ≡ Some turns → Contains turns r → BreaksInvariant r.exit → ⊥

-- Where such a search met no turn that breaks an invariant, no turn of such a run does.
abbrev pub NoRunBreaks : Type 0
NoRunBreaks = (bytes text : List ℕ) (quiet well : Bool) (run : IsRunOf bytes quiet text well) → NeverBreaks run.script → BreaksNone run

-- A text is an expectation that holds at the end of a report: it spells an expression, whose names stand for fields and roots of the
-- script, and this holds of how the tasks have ended and of the fields.
pub record HoldsAtEnd (p : ScriptView) (report : ReportView) (text : List ℕ) : Type 0 where
  pub test : Term
  pub is : IsTest p text test
  pub holds : judged test report.endings (end_scene p report.endings report.fields) ≡ verdict.Holds

-- Each root has ended with a value.
abbrev pub HasEachValue : ScriptView → ReportView → Type 0
HasEachValue p report = (root : ℕ) → root < root_count p → has_value report.endings root ≡ true

-- All that is asked holds at the end of a report: the expectations of these words and those of the comments of the script's text, and,
-- where this is asked, that each root has ended with a value.
pub record MeetsAll (p : ScriptView) (bytes : List ℕ) (words : List (List ℕ)) (without_fault : Bool) (report : ReportView) : Type 0 where
  pub tests : All (HoldsAtEnd p report) (words ++ expected bytes)
  pub roots : without_fault ≡ true → HasEachValue p report

-- Where a search of the script that these bytes spell answers with status 0 to what is asked, all of that holds at the end of each run of
-- these bytes, and no turn of the run breaks an invariant.
abbrev pub EachRunMeets : Type 0
EachRunMeets = (bytes text : List ℕ) (quiet well : Bool) (run : IsRunOf bytes quiet text well)
    (limit : ℕ) (words : List (List ℕ)) (without_fault : Bool) (answer : Answer) → IsAnswer bytes limit words without_fault answer
    → status_of answer ≡ 0 → MeetsAll run.script bytes words without_fault (report_view run.report) × BreaksNone run
