-- The colours of a text for a terminal, as ANSI escapes; without colours there are none.
use Rattle.std.specs.Prelude.{ℕ, Bool, true, false, List, [], ◌∷◌, codes}

-- what begins bold red text
abbrev pub red : Bool → List ℕ
red false = []
red true = 27 ∷ codes "[1;31m"

-- what begins bold blue text
abbrev pub blue : Bool → List ℕ
blue false = []
blue true = 27 ∷ codes "[1;34m"

-- what begins bold text
abbrev pub bold : Bool → List ℕ
bold false = []
bold true = 27 ∷ codes "[1m"

-- what ends colours and bold text
abbrev pub plain : Bool → List ℕ
plain false = []
plain true = 27 ∷ codes "[0m"
