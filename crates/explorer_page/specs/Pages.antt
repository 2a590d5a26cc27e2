-- What the page of a search is (our own).
use Rattle.std.specs.Prelude.{◌≡◌, ℕ, ◌+◌, List, [], ◌∷◌, ◌++◌, codes, take}
use Rattle.swift_script.specs.Scripts.{ScriptView}
use Rattle.swift_report.specs.declared.report.Report.{Report}
use Rattle.swift_report.specs.ReportJson.{comma}
use Rattle.swift_explorer.specs.declared.exploration.FoundOutcomes.{FoundOutcomes}
use Rattle.expectations.specs.declared.expectation.Expectation.{Expectation}
use Rattle.explorer_json.specs.AnswerJson.{answer_json}
use Rattle.explorer_json.specs.Strings.{string_json}
use Rattle.explorer_json.specs.SwiftJson.{swift_answer_json}
use Rattle.nuchapay_runs.specs.Noted.{noted_text}
use Rattle.run_page.specs.Escapes.{IsPlain, escaped}
use Rattle.explorer_page.specs.Runs.{AreRuns}
use Rattle.explorer_page.specs.declared.more.SearchHeading.{SearchHeading}
use Rattle.explorer_page.specs.declared.more.SearchedFile.{SearchedFile}
use Rattle.explorer_page.specs.declared.more.SearchedFile.TheVariants as file
use Rattle.explorer_page.specs.declared.runs.TheConstants.{SHOWN}
use Rattle.explorer_page.specs.declared.texts.found.TheConstants.{FOUND}
use Rattle.explorer_page.specs.declared.texts.frame.TheConstants.{BELOW, BODY, END, HEAD, MIDDLE}
use Rattle.explorer_page.specs.declared.texts.orders.TheConstants.{ORDERS}
use Rattle.explorer_page.specs.declared.texts.reader.TheConstants.{READER}
use Rattle.explorer_page.specs.declared.texts.style.TheConstants.{STYLE}
use Rattle.explorer_page.specs.declared.texts.table.TheConstants.{TABLE}
use Rattle.explorer_page.specs.declared.texts.turns.TheConstants.{TURNS}

-- what stands before the answer: the frame of a page, with its style in it
abbrev pub front_text : List ℕ
front_text = HEAD.now ++ STYLE.now ++ BODY.now

-- the script of a page: its files, in order
abbrev pub script_text : List ℕ
script_text = FOUND.now ++ TABLE.now ++ ORDERS.now ++ TURNS.now ++ READER.now

-- what stands after the data: the frame of a page, with its script in it
abbrev pub back_text : List ℕ
back_text = BELOW.now ++ script_text ++ END.now

-- what a page is headed with, up to where the runs begin
abbrev pub heading_json : SearchHeading → List ℕ
heading_json h = codes "{\"name\":" ++ string_json h.name.now ++ codes ",\n\"source\":" ++ string_json h.text.now ++ codes ",\n\"runs\":["

-- the run at a place: the text of its report, with what each turn did to the fields
abbrev pub run_json : ScriptView → ℕ → Report → List ℕ
run_json p place r = comma 0 place ++ codes "\n" ++ string_json (noted_text p r)

-- the runs from this place on
abbrev pub runs_json : ScriptView → ℕ → List Report → List ℕ
runs_json p place [] = []
runs_json p place (r ∷ rs) = run_json p place r ++ runs_json p (place + 1) rs

-- what stands beside the answer: what the page is headed with, and runs
abbrev pub more_json : ScriptView → SearchHeading → List Report → List ℕ
more_json p h runs = heading_json h ++ runs_json p 0 runs ++ codes "]}\n"

-- the answer, which says of a Swift file what each outcome is in Swift, too
abbrev pub said_json : SearchedFile → List ℕ → ScriptView → List Expectation → FoundOutcomes → List ℕ
said_json file.Script text p asked found = answer_json text p asked found
said_json file.Swift text p asked found = swift_answer_json text p asked found

-- the bytes of a page: the front, the answer as JSON, what stands between, the other JSON of the search, and the end
abbrev pub page_bytes : SearchHeading → SearchedFile → ScriptView → List Expectation → FoundOutcomes → List Report → List ℕ
page_bytes h of p asked found runs = front_text ++ escaped (said_json of h.text.now p asked found) ++ MIDDLE.now ++ escaped (more_json p h runs) ++ back_text

-- A text is the page of a search of such a file, with the runs of its first outcomes, where in what is of the search no byte can begin or
-- end markup.
pub record IsPage (h : SearchHeading) (of : SearchedFile) (p : ScriptView) (asked : List Expectation) (found : FoundOutcomes) (text : List ℕ) : Type 0 where
  pub runs : List Report
  pub are : AreRuns p (take SHOWN found.outcomes.items) runs
  pub is : text ≡ page_bytes h of p asked found runs
  pub plain_answer : IsPlain (escaped (said_json of h.text.now p asked found))
  pub plain_more : IsPlain (escaped (more_json p h runs))
