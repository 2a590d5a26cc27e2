-- What commands say of a search.
use Rattle.std.specs.Prelude.{◌≡◌, ℕ, Bool, Option, Some, None, false, true, List}
use Rattle.std.specs.declared.vec.Vec.{Vec}
use Rattle.std.specs.declared.alloc.Global.{Global}
use Rattle.expectations.specs.declared.answer.Answer.{Answer}
use Rattle.expectations.specs.declared.expectation.Expectation.{Expectation}
use Rattle.explorer_answers.specs.Answered.{IsAnswer}
use Rattle.explorer_answers.specs.AnswerText.{answer_text}
use Rattle.explorer_json.specs.AnswerJson.{answer_json}
use Rattle.explorer_page.specs.Pages.{IsPage}
use Rattle.explorer_page.specs.declared.more.SearchHeading.{SearchHeading}
use Rattle.explorer_page.specs.declared.more.SearchedFile.TheVariants as file
use Rattle.nuchapay_tool.specs.declared.requests.SearchFormat.{SearchFormat}
use Rattle.nuchapay_tool.specs.declared.requests.SearchFormat.TheVariants.{Text, Json, Html}
use Rattle.swift_script.specs.Scripts.{ScriptView}
use Rattle.swift_explorer.specs.declared.exploration.FoundOutcomes.{FoundOutcomes}

-- what is printed of an answer to what is asked, and of all that was found: text, JSON, or a page
abbrev pub IsSaidOf : SearchFormat → SearchHeading → ScriptView → List Expectation → FoundOutcomes → List ℕ → Type 0
IsSaidOf Text h script asked found text = text ≡ answer_text script asked found
IsSaidOf Json h script asked found text = text ≡ answer_json h.text.now script asked found
IsSaidOf Html h script asked found text = IsPage h file.Script script asked found text

-- this is kept in a file, where something is
abbrev pub IsKept : Bool → List ℕ → Option (Vec ℕ Global) → Type 0
IsKept true json (Some kept) = kept.items ≡ json
IsKept true json None = ⊥
IsKept false json kept = Unit {0}

-- What a search says of the script that the text of a heading spells, of whose histories at most `limit` are kept, to the expectations of
-- these words and of its comments, and perhaps that no root ends with a fault: the answer, what is printed of it and of all that was found
-- in this format, and what is kept of the same in a file.
pub record IsExplored (h : SearchHeading) (limit : ℕ) (words : List (List ℕ)) (without_fault : Bool) (format : SearchFormat) (save : Bool) (answer : Answer) (text : List ℕ) (kept : Option (Vec ℕ Global)) : Type 0 where
  pub is : IsAnswer h.text.now limit words without_fault answer
  pub printed : IsSaidOf format h is.script is.asked is.found text
  pub saved : IsKept save (answer_json h.text.now is.script is.asked is.found) kept
