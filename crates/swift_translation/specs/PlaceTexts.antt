-- The text of a table of methods and their lines (our own).
use Rattle.std.specs.Prelude.{List, [], ◌∷◌, ◌++◌, ℕ, bytes_eq, codes, decimal, if◌then◌else◌}
use Rattle.swift_translation.specs.declared.places.MethodPlace.{MethodPlace}

-- the numbers of the first and the last of some lines
abbrev pub lines_text : ℕ → ℕ → List ℕ
lines_text first last = decimal first ++ codes " to " ++ decimal last

-- a file and some of its lines
abbrev pub span_text : List ℕ → ℕ → ℕ → List ℕ
span_text file first last = codes " " ++ file ++ codes ":" ++ lines_text first last

-- a name, and some lines of a file
abbrev pub row_text : List ℕ → List ℕ → ℕ → ℕ → List ℕ
row_text file name first last = codes "    " ++ name ++ span_text file first last ++ codes "\n"

-- a line of the table: the method, and its lines in the file of a name
abbrev pub place_line : List ℕ → MethodPlace → List ℕ
place_line file p = row_text file p.name.items p.first p.last

-- the lines of all methods
abbrev pub place_lines : List ℕ → List MethodPlace → List ℕ
place_lines file [] = []
place_lines file (p ∷ ps) = place_line file p ++ place_lines file ps

-- the line of the first method of a name; nothing where there is none
abbrev pub line_of_method : List ℕ → List ℕ → List MethodPlace → List ℕ
line_of_method file name [] = []
line_of_method file name (p ∷ ps) = if bytes_eq p.name.items name then place_line file p else line_of_method file name ps
