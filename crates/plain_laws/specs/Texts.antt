-- Which expressions can be written in Swift, and where a text goes on behind one. (Own.)
use Rattle.std.specs.Prelude.{ℕ, ℤ, pos, negsuc, ◌≡◌, ◌<◌, ◌^◌, List, [], ◌∷◌, Bool, true, false, None}
use Rattle.std.specs.List.{list_all}
use Rattle.script_grammar.specs.Tree.{ExprTree, Number, Named, Local, OwnPriority, IsCancelled, Negated, Inverted, Both}
use Rattle.swift_syntax.specs.Bytes.{is_letter, is_name_byte}
use Rattle.swift_syntax.specs.Words.{word_of}

-- whether a text begins with a letter of a name
abbrev pub begins_name : List ℕ → Bool
begins_name [] = false
begins_name (b ∷ bs) = is_letter b

-- Bytes are a name of Swift, and no keyword.
pub record IsName (w : List ℕ) : Type 0 where
  pub begins : begins_name w ≡ true
  pub bytes : list_all is_name_byte w ≡ true
  pub no_keyword : word_of w ≡ None

-- A number is one that `Int` holds, without a sign.
abbrev pub IsPlainNumber : ℤ → Type 0
IsPlainNumber (pos n) = n < 2 ^ 63
IsPlainNumber (negsuc n) = ⊥

-- The names of an expression, as they are written, are names of Swift, and its numbers are such.
abbrev pub IsWritable : (List ℕ → List ℕ) → ExprTree → Type 0
IsWritable f (Number n) = IsPlainNumber n
IsWritable f (Named w) = IsName (f w)
IsWritable f (Local w) = ⊥
IsWritable f OwnPriority = ⊥
IsWritable f IsCancelled = Unit {0}
IsWritable f (Negated a) = IsWritable f a
IsWritable f (Inverted a) = IsWritable f a
IsWritable f (Both o a b) = IsWritable f a × IsWritable f b

-- whether a text goes on with a byte of a name or of a number
abbrev pub goes_on : List ℕ → Bool
goes_on [] = false
goes_on (b ∷ bs) = is_name_byte b
