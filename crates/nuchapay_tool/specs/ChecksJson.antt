-- What is said as JSON of a text that is a script, and of one that is none (our own).
use Rattle.std.specs.Prelude.{◌≡◌, ℕ, ◌==◌, ◌++◌, Option, Some, None, IfSome, List, [], ◌∷◌, codes, decimal, length, map, min, if◌then◌else◌}
use Rattle.std.specs.List.{concat}
use Rattle.std.specs.String.{string_bytes}
use Rattle.script_tokens.specs.Lines.{line_of}
use Rattle.script_tokens.specs.declared.span.Span.{Span}
use Rattle.nuchapay_tool.specs.Advised.{IsHelp, IsOnToken, help_text}
use Rattle.swift_script.specs.Accepted.{IsAccepted}
use Rattle.swift_script.specs.FaultPlaces.{IsAtItsPlace}
use Rattle.swift_script.specs.Refuses.{Refuses}
use Rattle.swift_script.specs.Scripts.{ScriptView, actor_count, method_count, root_count}
use Rattle.swift_script.specs.declared.fault.ScriptFault.{ScriptFault}
use Rattle.nuchapay_tool.specs.declared.advice.Second.{Second}
use Rattle.nuchapay_tool.specs.declared.files.FileRefusal.{FileRefusal}
use Rattle.nuchapay_tool.specs.declared.mark.LineMark.{LineMark}
use Rattle.nuchapay_tool.specs.declared.page.Page.{Page}
use Rattle.nuchapay_tool.specs.declared.checks.Checked.{Checked}
use Rattle.nuchapay_tool.specs.declared.checks.Checked.TheVariants.{Accepted, Refused}
use Rattle.nuchapay_tool.specs.Marks.{mark_of}
use Rattle.nuchapay_tool.specs.Sources.{shown_byte}
use Rattle.nuchapay_tool.specs.Topics.{refusal_name}

-- a byte of a text of printable ASCII, as JSON has it in a text: a quote and a backslash behind a backslash
abbrev pub escaped_byte : ℕ → List ℕ
escaped_byte b = if b == 34 then 92 ∷ 34 ∷ [] else (if b == 92 then 92 ∷ 92 ∷ [] else b ∷ [])

-- a text of printable ASCII, as JSON has it in a text
abbrev pub escaped : List ℕ → List ℕ
escaped [] = []
escaped (b ∷ bs) = escaped_byte b ++ escaped bs

-- the same, as it is shown
abbrev pub escaped_text : List ℕ → List ℕ
escaped_text text = map shown_byte (escaped text)

-- the first of some bytes; 0 where they are not known
abbrev pub from_of : List ℕ → Option Span → ℕ
from_of text None = 0
from_of text (Some s) = min s.from (length text)

-- the first after some bytes; 0 where they are not known
abbrev pub to_of : List ℕ → Option Span → ℕ
to_of text None = 0
to_of text (Some s) = min s.to (length text)

-- the column of a mark on a line, from 1; where there is none the first, and none on line 0
abbrev pub column_of : ℕ → Option LineMark → ℕ
column_of line None = if line == 0 then 0 else 1
column_of line (Some m) = m.column

-- the place of some bytes, with the mark on their line
unfoldable pub place_json : List ℕ → ℕ → Option Span → Option LineMark → List ℕ
place_json text line s mark = concat (
    codes "\"from\":" ∷ decimal (from_of text s) ∷ codes ",\"to\":" ∷ decimal (to_of text s) ∷ codes ",\"line\":" ∷ decimal line ∷ codes ",\"column\":" ∷ decimal (column_of line mark) ∷ codes "," ∷ []
    )

-- the place of some bytes, on the line of the first
unfoldable pub bytes_json : List ℕ → Span → List ℕ
bytes_json text s = place_json text (line_of text s.from) (Some s) (mark_of text (line_of text s.from) (Some (record { from = s.from; to = s.from })))

-- the number and the title of a refusal
unfoldable pub code_json : List ℕ → List ℕ → List ℕ
code_json name title = concat (codes "{\"severity\":\"error\",\"code\":\"" ∷ name ∷ codes "\",\"title\":\"" ∷ title ∷ codes "\"," ∷ [])

-- what was expected, and what to do
unfoldable pub advice_json : List ℕ → List ℕ → List ℕ
advice_json expected help = concat (codes "\"expected\":\"" ∷ escaped_text expected ∷ codes "\",\"help\":\"" ∷ escaped_text help ∷ codes "\"," ∷ [])

-- a second token that is concerned
unfoldable pub second_json : List ℕ → Option Second → List ℕ
second_json text None = codes "\"second\":null,"
second_json text (Some s) = concat (codes "\"second\":{" ∷ place_json text s.line (Some s.span) (mark_of text s.line (Some s.span)) ∷ codes "\"label\":\"" ∷ s.label.now ∷ codes "\"}," ∷ [])

-- A text is refused, for the stated cause and on its line, and the page of that refusal, the bytes that it blames, the line, the column of
-- the mark, and what helps there are said. How the name of the file and a fix are written, what was expected, and which second token is
-- shown, this does not say.
pub record IsRefusedJson (text said : List ℕ) : Type 0 where
  pub fault : ScriptFault
  pub page : Page
  pub cause : Refuses fault.kind text
  pub at : IsAtItsPlace fault text
  pub named : page.name.now ≡ refusal_name fault.kind
  pub file : List ℕ
  pub expected : List ℕ
  pub help : List ℕ
  pub helps : IsHelp fault.kind text fault.span help
  pub second : Option Second
  pub on_token : IfSome second (λ s. IsOnToken text s.span)
  pub fix : List ℕ
  pub is : said ≡ concat (codes "{\"file\":\"" ∷ file ∷ codes "\",\"accepted\":false,\"diagnostics\":[" ∷ code_json page.name.now page.title.now ∷ place_json text fault.line fault.span (mark_of text fault.line fault.span) ∷ advice_json expected (help_text help page) ∷ second_json text second ∷ fix ∷ codes "}]}\n" ∷ [])

-- what is said of a file that is refused for this cause, with the name of the file as JSON has it
abbrev pub refused_file_json : List ℕ → List ℕ → FileRefusal → List ℕ
refused_file_json file text r = concat (codes "{\"file\":\"" ∷ file ∷ codes "\",\"accepted\":false,\"diagnostics\":[" ∷ code_json r.code.now r.title.now ∷ bytes_json text (record { from = r.from; to = r.to }) ∷ advice_json (codes "") r.help.now ∷ codes "\"second\":null,\"fix\":null}]}\n" ∷ [])

-- A file is refused, for this cause. How the name of the file is written, this does not say.
pub record IsRefusedFileJson (text : List ℕ) (r : FileRefusal) (said : List ℕ) : Type 0 where
  pub file : List ℕ
  pub is : said ≡ refused_file_json file text r

-- what is said of a script without a root
abbrev pub rootless_json : ℕ → List ℕ
rootless_json n = if n == 0 then codes "{\"severity\":\"note\",\"code\":\"\",\"title\":\"no root\",\"from\":0,\"to\":0,\"line\":1,\"column\":1,\"expected\":\"\",\"help\":\"nothing of it will run: `root a = A.f();` begins a task\",\"second\":null,\"fix\":null}" else []

-- how many actors, methods and roots a script has
abbrev pub counts_json : ScriptView → List ℕ
counts_json s = concat (codes "\"actors\":" ∷ decimal (actor_count s) ∷ codes ",\"methods\":" ∷ decimal (method_count s) ∷ codes ",\"roots\":" ∷ decimal (root_count s) ∷ codes "," ∷ [])

-- the counts of a script, and a note where it has no root
abbrev pub body_json : ScriptView → List ℕ
body_json s = concat (counts_json s ∷ codes "\"diagnostics\":[" ∷ rootless_json (root_count s) ∷ codes "]}\n" ∷ [])

-- what is said of a script, with the name of the file as JSON has it
abbrev pub accepted_json : List ℕ → ScriptView → List ℕ
accepted_json file s = concat (codes "{\"file\":\"" ∷ file ∷ codes "\",\"accepted\":true," ∷ body_json s ∷ [])

-- A text is accepted, and its counts are said. How the name of the file is written, this does not say.
pub record IsAcceptedJson (text said : List ℕ) : Type 0 where
  pub script : ScriptView
  pub accepted : IsAccepted text script
  pub file : List ℕ
  pub is : said ≡ accepted_json file script

-- what an answer as JSON says of a text
abbrev pub Tells : List ℕ → Checked → Type 0
Tells text (Accepted said) = IsAcceptedJson text (string_bytes said)
Tells text (Refused said) = IsRefusedJson text (string_bytes said)
