-- The mark under a line of a text (our own).
use Rattle.std.specs.Prelude.{ℕ, ◌+◌, ◌-◌, ◌&&◌, Bool, Option, Some, None, List, [], ◌∷◌, length, min, nat_le, codes, decimal, if◌then◌else◌}
use Rattle.std.specs.List.{concat, repeat}
use Rattle.script_tokens.specs.declared.span.Span.{Span}
use Rattle.nuchapay_tool.specs.declared.mark.LineMark.{LineMark}
use Rattle.nuchapay_tool.specs.Colours.{red, blue, plain}
use Rattle.nuchapay_tool.specs.Sources.{line_start, source_line}

-- Some bytes lie on a line; the place behind the last byte of a text, on its last line.
abbrev pub lies_on : List ℕ → ℕ → Span → Bool
lies_on text line s = nat_le (line_start text line) s.from && nat_le s.from s.to && nat_le s.from (length text) && nat_le (min s.to (length text)) (line_start text line + length (source_line text line))

-- where on a line some bytes stand, if they lie on it
abbrev pub mark_of : List ℕ → ℕ → Option Span → Option LineMark
mark_of text line None = None
mark_of text line (Some s) = if lies_on text line s then Some (record { column = s.from - line_start text line + 1; width = s.to - s.from }) else None

-- the column, which counts bytes from 1
abbrev pub column_text : Option LineMark → List ℕ
column_text None = []
column_text (Some m) = concat (codes ":" ∷ decimal m.column ∷ [])

-- a mark under each byte
abbrev pub drawn_text : Bool → List ℕ → LineMark → List ℕ
drawn_text colour gutter m = concat (
    gutter ∷ blue colour ∷ codes " |" ∷ plain colour ∷ codes " " ∷ repeat (m.column - 1) (codes " ") ∷ red colour ∷ repeat m.width (codes "^") ∷ plain colour ∷ codes "\n" ∷ []
    )

-- the line with the mark, where all of it is under what is shown of the line: its first 1,000 bytes
abbrev pub mark_text : Bool → List ℕ → Option LineMark → List ℕ
mark_text colour gutter None = []
mark_text colour gutter (Some m) = if nat_le (m.column - 1 + m.width) 1000 then drawn_text colour gutter m else []
