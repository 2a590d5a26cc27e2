-- What a page is.
use Rattle.std.specs.Prelude.{◌≡◌, ℕ, false, List, ◌++◌}
use Rattle.swift_script.specs.Scripts.{ScriptView}
use Rattle.swift_report.specs.declared.report.Report.{Report}
use Rattle.swift_report.specs.ReportJson.{report_json}
use Rattle.run_page.specs.Escapes.{IsPlain, escaped}
use Rattle.run_page.specs.RunJson.{ExplainedTurn, IsToldOfRun, more_json}
use Rattle.run_page.specs.declared.more.Heading.{Heading}
use Rattle.run_page.specs.declared.texts.chosen.TheConstants.{CHOSEN}
use Rattle.run_page.specs.declared.texts.frame.TheConstants.{BELOW, BODY, END, HEAD, MIDDLE}
use Rattle.run_page.specs.declared.texts.lanes.TheConstants.{LANES}
use Rattle.run_page.specs.declared.texts.method.TheConstants.{METHOD}
use Rattle.run_page.specs.declared.texts.reader.TheConstants.{READER}
use Rattle.run_page.specs.declared.texts.run.TheConstants.{RUN}
use Rattle.run_page.specs.declared.texts.style.TheConstants.{STYLE}
use Rattle.run_page.specs.declared.texts.words.TheConstants.{WORDS}

-- what stands before the report: the frame of a page, with its style in it
abbrev pub front_text : List ℕ
front_text = HEAD.now ++ STYLE.now ++ BODY.now

-- the script of a page: its files, in order
abbrev pub script_text : List ℕ
script_text = RUN.now ++ WORDS.now ++ METHOD.now ++ LANES.now ++ CHOSEN.now ++ READER.now

-- what stands after the data: the frame of a page, with its script in it
abbrev pub back_text : List ℕ
back_text = BELOW.now ++ script_text ++ END.now

-- the bytes of a page: the front, the report as JSON, what stands between, the other JSON of the run, and the end
abbrev pub page_bytes : ScriptView → Report → Heading → List ExplainedTurn → List ℕ
page_bytes p r h told = front_text ++ escaped (report_json p r false) ++ MIDDLE.now ++ escaped (more_json p r h told) ++ back_text

-- A text is the page of a run, where in what is of the run no byte can begin or end markup.
pub record IsPage (p : ScriptView) (r : Report) (h : Heading) (text : List ℕ) : Type 0 where
  pub told : List ExplainedTurn
  pub explained : IsToldOfRun p r told
  pub is : text ≡ page_bytes p r h told
  pub plain_report : IsPlain (escaped (report_json p r false))
  pub plain_more : IsPlain (escaped (more_json p r h told))
