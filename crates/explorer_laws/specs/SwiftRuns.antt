-- What a search of a Swift file's script that came to its end says of each run of that script (our own).
use Rattle.std.specs.Prelude.{◌≡◌, ℕ, Bool, false, List}
use Rattle.swift_certificate.specs.Reports.{report_view}
use Rattle.swift_tool.specs.Run.{IsRunOf}
use Rattle.expectations.specs.declared.answer.Answer.{Answer}
use Rattle.expectations.specs.Answers.{status_of}
use Rattle.explorer_answers.specs.SwiftAnswers.{IsSwiftAnswer}
use Rattle.explorer_answers.specs.SwiftMeanings.{at_limit, ends_process}
use Rattle.explorer_laws.specs.Runs.{BreaksNone, MeetsAll}

-- Where a search of the script of a Swift file that these bytes spell answers with status 0 to what is asked, no task of a run of these
-- bytes is ended by what ends the process in Swift, and no turn of it breaks an invariant; and where no task of the run is ended by a limit
-- that Swift does not have, all that is asked holds at its end.
abbrev pub EachSwiftRunMeets : Type 0
EachSwiftRunMeets = (bytes text : List ℕ) (quiet well : Bool) (run : IsRunOf bytes quiet text well)
    (limit : ℕ) (words : List (List ℕ)) (without_fault : Bool) (answer : Answer) → IsSwiftAnswer bytes limit words without_fault answer
    → status_of answer ≡ 0
    → (ends_process (report_view run.report).endings ≡ false) × BreaksNone run × (at_limit (report_view run.report).endings ≡ false → MeetsAll run.script bytes words without_fault (report_view run.report))
