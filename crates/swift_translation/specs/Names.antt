-- The names of the script that a Swift file becomes. (Own.)
use Rattle.std.specs.Prelude.{◌==◌, ◌&&◌, ◌||◌, ◌<◌, ◌^◌, ℕ, Bool, true, false, not, List, [], ◌∷◌, ◌++◌, codes, decimal, bytes_eq, if◌then◌else◌}
use Rattle.std.specs.List.{list_any}
use Rattle.swift_translation.specs.declared.word.TheConstants.{WORDS}

-- whether a name is a keyword of scripts
abbrev pub is_kept : List ℕ → Bool
is_kept w = list_any (λ word. bytes_eq word.now w) WORDS

-- whether a name ends in `_`
abbrev pub ends_low : List ℕ → Bool
ends_low [] = false
ends_low (b ∷ []) = b == 95
ends_low (b ∷ c ∷ bs) = ends_low (c ∷ bs)

-- whether the second text begins with the first one
abbrev pub begins : List ℕ → List ℕ → Bool
begins [] w = true
begins (p ∷ ps) [] = false
begins (p ∷ ps) (b ∷ bs) = (p == b) && begins ps bs

-- A name of the file as the script has it: the same; a keyword of scripts, and a name that ends in `_`, with one `_` more.
abbrev pub file_name : List ℕ → List ℕ
file_name w = w ++ (if is_kept w || ends_low w then 95 ∷ [] else [])

-- a number, and behind a mark another one where that is not 0
abbrev pub pair : ℕ → List ℕ → ℕ → List ℕ
pair first mark second = decimal first ++ (if second == 0 then [] else mark ++ decimal second)

-- A field or a variable: its name. Where others have it, or its method is put in, or it begins as printed values, also which method was put
-- in, and how many have the name before it.
abbrev pub variable_name : List ℕ → ℕ → ℕ → List ℕ
variable_name w duplicate serial = if (duplicate == 0) && ((serial == 0) && not (begins (codes "print_line") w)) then file_name w else w ++ (95 ∷ pair serial (codes "d") duplicate) ++ 95 ∷ []

-- a variable without a name, of a method that is put in
abbrev pub temporary_name : ℕ → ℕ → List ℕ
temporary_name place serial = (109 ∷ pair place (codes "s") serial) ++ 95 ∷ []

-- the task for a call whose error is caught
abbrev pub caught_name : ℕ → ℕ → List ℕ
caught_name place serial = (codes "caught" ++ pair place (codes "s") serial) ++ 95 ∷ []

-- the method that a closure became which stands in a method of an instance, on a line; 0, or which one it is there
abbrev pub closure_in : List ℕ → List ℕ → ℕ → ℕ → List ℕ
closure_in instance method line which = instance ++ codes "_" ++ method ++ codes "_line" ++ pair line (codes "_") which

-- the method that a closure became which stands in a function outside of actors
abbrev pub closure_in_function : List ℕ → ℕ → ℕ → List ℕ
closure_in_function function line which = function ++ codes "_line" ++ pair line (codes "_") which

-- the method that a closure of `main` became
abbrev pub closure_in_main : ℕ → ℕ → List ℕ
closure_in_main line which = codes "main" ++ codes "_line" ++ pair line (codes "_") which

-- What a name of an actor or of its methods' variables stands for.
pub data NameView : Type 0 where
  -- a field or a variable: its name, how many have it before, and which method was put in
  Named : List ℕ → ℕ → ℕ → NameView
  -- a variable without a name: its place, and which method was put in
  Temporary : ℕ → ℕ → NameView
  -- a task for a call whose error is caught: the place of its instruction, and which method was put in
  Caught : ℕ → ℕ → NameView
  -- what a method that was put in gives
  Result : ℕ → NameView
  -- whether a method that was put in has returned
  Done : ℕ → NameView
  -- a value that `main` prints: its line, and which one it is there, if it is not the first
  Printed : ℕ → ℕ → NameView
  -- the line of a precondition that fails
  Precondition : NameView

-- how a name is spelled
abbrev pub spelled : NameView → List ℕ
spelled (Named w duplicate serial) = variable_name w duplicate serial
spelled (Temporary place serial) = temporary_name place serial
spelled (Caught place serial) = caught_name place serial
spelled (Result serial) = codes "result" ++ decimal serial ++ 95 ∷ []
spelled (Done serial) = codes "done" ++ decimal serial ++ 95 ∷ []
spelled (Printed line which) = codes "print_line" ++ pair line (codes "_") which
spelled Precondition = codes "precondition_line_"

-- the numbers of a name are those of places
abbrev pub IsNumbered : NameView → Type 0
IsNumbered (Named w duplicate serial) = (duplicate < 2 ^ 64) × (serial < 2 ^ 64)
IsNumbered (Temporary place serial) = (place < 2 ^ 64) × (serial < 2 ^ 64)
IsNumbered (Caught place serial) = (place < 2 ^ 64) × (serial < 2 ^ 64)
IsNumbered (Result serial) = serial < 2 ^ 64
IsNumbered (Done serial) = serial < 2 ^ 64
IsNumbered (Printed line which) = (line < 2 ^ 64) × (which < 2 ^ 64)
IsNumbered Precondition = Unit {0}
