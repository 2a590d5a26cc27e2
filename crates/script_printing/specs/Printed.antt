-- The printed form of a script.
use Rattle.std.specs.Prelude.{ℕ, List, [], ◌∷◌, ◌++◌, codes}
use Rattle.std.specs.List.{flat_map}
use Rattle.script_tokens.specs.Pieces.{TokenView}
use Rattle.script_printing.specs.Words.{text_of}
use Rattle.script_printing.specs.Script.{ScriptView, declarations_of}
use Rattle.script_printing.specs.Pieces.{pieces_of_decl}

-- tokens, each after a space
abbrev pub spaced : List TokenView → List ℕ
spaced [] = []
spaced (p ∷ ps) = codes " " ++ (text_of p ++ spaced ps)

-- tokens on one line, with one space between them, and the LF that ends it
abbrev pub line_of : List TokenView → List ℕ
line_of [] = codes "\n"
line_of (p ∷ ps) = text_of p ++ (spaced ps ++ codes "\n")

-- the declarations of a script, each on one line
abbrev pub printed : ScriptView → List ℕ
printed s = flat_map (λ d. line_of (pieces_of_decl d)) (declarations_of s)

-- what is written, with tokens put after it
unfoldable pub after : List ℕ → List TokenView → List ℕ
after bytes ps = bytes ++ spaced ps
