-- How many numbers and how many handles stand at a place of a method, and how many at most in its statements.
use Rattle.std.specs.Prelude.{◌≡◌, ℕ, ◌+◌, max, List, length, take, get_or, count_by}
use Rattle.script_grammar.specs.Tree.{Let, LetTask, HeadTree, Group, StmtTree, Do, Headed, IfElse, BlockTree, nothing, first_then}
use Rattle.script_names.specs.declared.scope.NameKind.{NameKind}
use Rattle.script_names.specs.declared.scope.NameKind.TheVariants as kind
use Rattle.script_compiler.specs.Lowered.{is_number, is_handle}
use Rattle.script_compiler.specs.declared.lowering.counts.PlaceCounts.{PlaceCounts}

-- how many of each stand under names of these kinds
abbrev pub counts_of : List NameKind → PlaceCounts
counts_of kinds = record { numbers = count_by is_number kinds; handles = count_by is_handle kinds }

-- one name more
abbrev pub counted : PlaceCounts → NameKind → PlaceCounts
counted c kind.Field = c
counted c kind.Number = record { numbers = c.numbers + 1; handles = c.handles }
counted c kind.Task = record { numbers = c.numbers; handles = c.handles + 1 }
counted c kind.Group = record { numbers = c.numbers; handles = c.handles + 1 }

-- the greater of two counts, of numbers and of handles
abbrev pub greater : PlaceCounts → PlaceCounts → PlaceCounts
greater a b = record { numbers = max a.numbers b.numbers; handles = max a.handles b.handles }

-- how many stand after a statement
abbrev pub counts_after : PlaceCounts → StmtTree → PlaceCounts
counts_after c (Do (Let n v)) = counted c kind.Number
counts_after c (Do (LetTask n m)) = counted c kind.Task
counts_after c _ = c

-- how many stand in a block, by its head
abbrev pub counts_within : PlaceCounts → HeadTree → PlaceCounts
counts_within c (Group n) = counted c kind.Group
counts_within c _ = c

abbrev mutual
  -- how many there are at most in a statement, where there are `c` before it
  pub most_in : PlaceCounts → StmtTree → PlaceCounts
  most_in c (Do a) = counts_after c (Do a)
  most_in c (Headed h b) = most_of (counts_within c h) b
  most_in c (IfElse t a b) = greater (most_of c a) (most_of c b)

  -- and in a block
  pub most_of : PlaceCounts → BlockTree → PlaceCounts
  most_of c nothing = c
  most_of c (first_then x xs) = greater (most_in c x) (most_of (counts_after c x) xs)

-- These are the counts before each name, and `here` those after the last. By them a name's place is found at once.
pub record AreCounts (kinds : List NameKind) (counts : List PlaceCounts) (here : PlaceCounts) : Type 0 where
  pub as_many : length counts ≡ length kinds
  pub each : (n : ℕ) → get_or counts n here ≡ counts_of (take n kinds)
