-- Words, the last of which may be cut off again. No public clause names these.
use Rattle.std.specs.Prelude.{ℤ, List, ◌++◌, drop, length}

-- the words that stood before, and those that were written since
pub record TailView : Type 0 where
  pub before : List ℤ
  pub written : List ℤ

abbrev pub whole : TailView → List ℤ
whole t = t.before ++ t.written

-- what a list has gained
abbrev pub since : {X : Type 0} → List X → List X → List X
since old new = drop (length old) new
