-- The text of a refusal (our own).
use Rattle.std.specs.Prelude.{ℕ, ◌==◌, Bool, Option, List, [], ◌∷◌, length, codes, decimal, if◌then◌else◌}
use Rattle.std.specs.List.{concat, repeat}
use Rattle.nuchapay_tool.specs.declared.mark.LineMark.{LineMark}
use Rattle.nuchapay_tool.specs.declared.page.Page.{Page}
use Rattle.nuchapay_tool.specs.Colours.{red, blue, bold, plain}
use Rattle.nuchapay_tool.specs.Marks.{column_text, mark_text}
use Rattle.nuchapay_tool.specs.Sources.{shown_line}

-- as many spaces as a number has digits
abbrev pub gutter : ℕ → List ℕ
gutter n = repeat (length (decimal n)) (codes " ")

-- the number and the text of a refusal
abbrev pub head_text : Bool → List ℕ → List ℕ → List ℕ
head_text colour name title = concat (red colour ∷ codes "error[" ∷ name ∷ codes "]" ∷ plain colour ∷ bold colour ∷ codes ": " ∷ title ∷ plain colour ∷ codes "\n" ∷ [])

-- what to do about a refusal that stands on no line
abbrev pub lost_text : Bool → List ℕ → List ℕ
lost_text colour help = concat (bold colour ∷ codes "help" ∷ plain colour ∷ codes ": " ∷ help ∷ codes "\n" ∷ [])

-- the file, the line and the column
abbrev pub arrow_text : Bool → List ℕ → List ℕ → List ℕ → List ℕ → List ℕ
arrow_text colour gutter file number column = concat (gutter ∷ blue colour ∷ codes "--> " ∷ plain colour ∷ file ∷ codes ":" ∷ number ∷ column ∷ codes "\n" ∷ [])

-- a line with nothing on it
abbrev pub bar_text : Bool → List ℕ → List ℕ
bar_text colour gutter = concat (gutter ∷ blue colour ∷ codes " |" ∷ plain colour ∷ codes "\n" ∷ [])

-- the line of the text
abbrev pub source_text : Bool → List ℕ → List ℕ → ℕ → List ℕ
source_text colour number text line = concat (blue colour ∷ number ∷ codes " |" ∷ plain colour ∷ codes " " ∷ shown_line text line ∷ codes "\n" ∷ [])

-- what was expected, or what to do, after the word for it
abbrev pub advice_text : Bool → List ℕ → List ℕ → List ℕ → List ℕ
advice_text colour gutter word said = concat (gutter ∷ blue colour ∷ codes " =" ∷ plain colour ∷ codes " " ∷ bold colour ∷ word ∷ plain colour ∷ codes ": " ∷ said ∷ codes "\n" ∷ [])

-- where something is, with that line of the text and the mark under it; with this number beside the line, and the gutter beside all else
abbrev pub lines_beside : Bool → List ℕ → List ℕ → List ℕ → List ℕ → ℕ → Option LineMark → List ℕ
lines_beside colour gutter number file text line mark = concat (
    arrow_text colour gutter file number (column_text mark)
    ∷ bar_text colour gutter
    ∷ source_text colour number text line
    ∷ mark_text colour gutter mark ∷ []
    )

-- what was expected, unless nothing is said of that
abbrev pub expected_text : Bool → List ℕ → List ℕ → List ℕ
expected_text colour gutter expected = if length expected == 0 then [] else advice_text colour gutter (codes "note") expected

-- what was expected, and what to do
abbrev pub said_beside : Bool → List ℕ → List ℕ → List ℕ → List ℕ
said_beside colour gutter expected help = concat (bar_text colour gutter ∷ expected_text colour gutter expected ∷ advice_text colour gutter (codes "help") help ∷ [])

-- where a refusal is, what was expected there, and what to do; with this number beside the line, and the gutter beside all else
abbrev pub text_beside : Bool → List ℕ → List ℕ → List ℕ → List ℕ → ℕ → Option LineMark → List ℕ → List ℕ → List ℕ
text_beside colour gutter number file text line mark expected help = concat (lines_beside colour gutter number file text line mark ∷ said_beside colour gutter expected help ∷ [])

-- what follows the first line of a refusal on line `line` of the text, with the number of that line beside it
abbrev pub located_text : Bool → List ℕ → List ℕ → ℕ → Option LineMark → List ℕ → List ℕ → List ℕ
located_text colour file text line mark expected help = text_beside colour (gutter line) (decimal line) file text line mark expected help

-- what follows the first line of a refusal; out of memory stands on line 0
abbrev pub place_text : Bool → List ℕ → List ℕ → ℕ → Option LineMark → List ℕ → List ℕ → List ℕ
place_text colour file text line mark expected help = if line == 0 then lost_text colour help else located_text colour file text line mark expected help

-- what is said of a refusal
abbrev pub refusal_text : Bool → List ℕ → List ℕ → ℕ → Option LineMark → Page → List ℕ → List ℕ → List ℕ
refusal_text colour file text line mark p expected help = concat (head_text colour p.name.now p.title.now ∷ place_text colour file text line mark expected help ∷ [])

-- what is said of a second place, without that place
abbrev pub label_text : Bool → List ℕ → List ℕ
label_text colour label = concat (bold colour ∷ codes "note" ∷ plain colour ∷ codes ": " ∷ label ∷ codes "\n" ∷ [])

-- what is said of a second place
abbrev pub second_text : Bool → List ℕ → List ℕ → ℕ → Option LineMark → List ℕ → List ℕ
second_text colour file text line mark label = concat (label_text colour label ∷ lines_beside colour (gutter line) (decimal line) file text line mark ∷ [])
