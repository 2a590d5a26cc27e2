-- What is said of a text that is a script, and of one that is none (our own).
use Rattle.std.specs.Prelude.{◌≡◌, ℕ, ◌==◌, Bool, Option, Some, None, IfSome, List, [], ◌∷◌, codes, decimal, if◌then◌else◌}
use Rattle.std.specs.List.{concat}
use Rattle.std.specs.String.{string_bytes}
use Rattle.nuchapay_tool.specs.Advised.{IsHelp, IsOnToken, help_text}
use Rattle.swift_script.specs.Accepted.{IsAccepted}
use Rattle.swift_script.specs.FaultPlaces.{IsAtItsPlace}
use Rattle.swift_script.specs.Refuses.{Refuses}
use Rattle.swift_script.specs.Scripts.{ScriptView, actor_count, method_count, root_count}
use Rattle.swift_script.specs.declared.fault.ScriptFault.{ScriptFault}
use Rattle.nuchapay_tool.specs.declared.advice.Second.{Second}
use Rattle.nuchapay_tool.specs.declared.page.Page.{Page}
use Rattle.nuchapay_tool.specs.declared.checks.Checked.{Checked}
use Rattle.nuchapay_tool.specs.declared.checks.Checked.TheVariants.{Accepted, Refused}
use Rattle.nuchapay_tool.specs.Marks.{mark_of}
use Rattle.nuchapay_tool.specs.Refusals.{refusal_text, second_text}
use Rattle.nuchapay_tool.specs.Topics.{refusal_name}

-- a number of things: `n`, and the word for one, with an `s` where it is not 1
abbrev pub counted : ℕ → List ℕ → List ℕ
counted n one = concat (decimal n ∷ codes " " ∷ one ∷ (if n == 1 then [] else codes "s") ∷ [])

-- what is said beside the counts, by the number of roots
abbrev pub rootless : ℕ → List ℕ
rootless n = if n == 0 then codes "note: it has no root, and nothing of it will run; `root a = A.f();` begins a task\n" else []

-- how many actors, methods and roots a script has
abbrev pub counts_text : List ℕ → ScriptView → List ℕ
counts_text file s = concat (
    file ∷ codes ": " ∷ counted (actor_count s) (codes "actor") ∷ codes ", " ∷ counted (method_count s) (codes "method") ∷ codes ", " ∷ counted (root_count s) (codes "root") ∷ codes "\n" ∷ []
    )

-- what is said of a script
abbrev pub accepted_text : List ℕ → ScriptView → List ℕ
accepted_text file s = concat (counts_text file s ∷ rootless (root_count s) ∷ [])

-- what is said of a second token that is concerned: a label, and its line with a mark under its bytes where these lie on that line
abbrev pub second_part : Bool → List ℕ → List ℕ → Option Second → List ℕ
second_part colour file text None = []
second_part colour file text (Some s) = second_text colour file text s.line (mark_of text s.line (Some s.span)) s.label.now

-- A text is refused, for the stated cause and on its line, and the page of that refusal says so, with a mark under the bytes that it
-- blames. These are the token at which the text is refused by the rule of that refusal, a byte outside text, or the end of the text. What
-- to do is what helps at that token, or else what the page says. What was expected, and which second token is shown, this does not say.
pub record IsRefusedAs (colour : Bool) (file text said : List ℕ) : Type 0 where
  pub fault : ScriptFault
  pub page : Page
  pub cause : Refuses fault.kind text
  pub at : IsAtItsPlace fault text
  pub named : page.name.now ≡ refusal_name fault.kind
  pub expected : List ℕ
  pub help : List ℕ
  pub helps : IsHelp fault.kind text fault.span help
  pub second : Option Second
  pub on_token : IfSome second (λ s. IsOnToken text s.span)
  pub is : said ≡ concat (refusal_text colour file text fault.line (mark_of text fault.line fault.span) page expected (help_text help page) ∷ second_part colour file text second ∷ [])

-- A text is accepted, and what is said of it is so.
pub record IsAcceptedAs (file text said : List ℕ) : Type 0 where
  pub script : ScriptView
  pub accepted : IsAccepted text script
  pub is : said ≡ accepted_text file script

-- what a check says of a text
abbrev pub Says : Bool → List ℕ → List ℕ → Checked → Type 0
Says colour file text (Accepted said) = IsAcceptedAs file text (string_bytes said)
Says colour file text (Refused said) = IsRefusedAs colour file text (string_bytes said)
