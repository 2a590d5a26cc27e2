-- The text of what is said of a file that is refused before there is a script (our own).
use Rattle.std.specs.Prelude.{ℕ, ◌+◌, ◌-◌, Bool, Some, List, [], ◌∷◌, length, codes, drop, max, min}
use Rattle.std.specs.List.{concat}
use Rattle.script_tokens.specs.Lines.{line_of}
use Rattle.script_tokens.specs.declared.span.Span.{Span}
use Rattle.nuchapay_tool.specs.declared.files.FileRefusal.{FileRefusal}
use Rattle.nuchapay_tool.specs.Marks.{mark_of}
use Rattle.nuchapay_tool.specs.Refusals.{head_text, located_text}
use Rattle.nuchapay_tool.specs.Sources.{before_feed, feed_in}

-- what stands from a place on on its line
abbrev pub right_of : List ℕ → ℕ → List ℕ
right_of text place = before_feed (feed_in (drop place text)) (drop place text)

-- from a place up to another one, as far as that stands on the same line; at least the first place
abbrev pub on_line : List ℕ → ℕ → ℕ → Span
on_line text from to = record { from = from; to = from + max (min (to - from) (length (right_of text from))) 1 }

-- those of the bytes to blame that stand on the line of the first
abbrev pub blamed_on_line : List ℕ → FileRefusal → Span
blamed_on_line text r = on_line text (min r.from (length text)) r.to

-- what is said of a file that is refused for this cause
abbrev pub refused_file_text : Bool → List ℕ → List ℕ → FileRefusal → List ℕ
refused_file_text colour file text r = concat (
    head_text colour r.code.now r.title.now
    ∷ located_text colour file text (line_of text r.from) (mark_of text (line_of text r.from) (Some (blamed_on_line text r))) (codes "") r.help.now ∷ []
    )
