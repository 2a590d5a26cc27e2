-- Reading statements and blocks: the parser's own way.
use Rattle.std.specs.Prelude.{ℕ, zero, suc, List, [], ◌∷◌, length, Ok, Err}
use Rattle.script_parser.specs.declared.fault.Kind.TheVariants.{Unexpected, EndsEarly, TooDeep}
use Rattle.script_tokens.specs.declared.keyword.Keyword.TheVariants as key
use Rattle.script_tokens.specs.declared.mark.Mark.TheVariants as mark
use Rattle.script_tokens.specs.Pieces.{Key}
use Rattle.script_grammar.specs.declared.region.Atoms.TheVariants.{Every}
use Rattle.script_grammar.specs.declared.region.Region.{Region}
use Rattle.script_grammar.specs.declared.region.Region.TheVariants as region
use Rattle.script_grammar.specs.Tree.{ExprTree, HeadTree, If, While, Bind, Group, Assume, StmtTree, Do, Headed, IfElse, block_tree}
use Rattle.script_parser.specs.Model.Steps.{at, ◌>>=◌, Reads}
use Rattle.script_parser.specs.Model.Parts.{name_at, sign_at, brace_at, items_at}
use Rattle.script_parser.specs.Model.Expressions.{expr_in}
use Rattle.script_parser.specs.Model.Actions.{begun_at, action_at}

-- reading a block
abbrev pub ReadBlock : Type 0
ReadBlock = Reads (List StmtTree)

-- the region that a head's block is, in a region
abbrev pub region_in : HeadTree → Region → Region
region_in (Group n) r = region.Group
region_in (Assume n) r = region.Assume
region_in _ r = r

-- what stands in front of a block, but for an `if`
unfoldable pub head_part_at : ℕ → Reads HeadTree
head_part_at limit [] = Err (at EndsEarly [])
head_part_at limit (Key key.While ∷ ts) = do
  e ← expr_in Every limit limit ts
  Ok (While e.0, e.1)
head_part_at limit (Key key.Bind ∷ ts) = do
  n ← name_at ts
  a ← sign_at mark.Assign n.1
  e ← expr_in Every limit limit a
  Ok (Bind n.0 e.0, e.1)
head_part_at limit (Key key.Group ∷ ts) = do
  n ← name_at ts
  Ok (Group n.0, n.1)
head_part_at limit (Key key.Assume ∷ ts) = do
  n ← name_at ts
  Ok (Assume n.0, n.1)
head_part_at limit (found ∷ ts) = Err (at Unexpected (found ∷ ts))

-- what stands in front of a block, in a region in which it may stand
unfoldable pub head_at : ℕ → Region → Reads HeadTree
head_at limit r ts = do
  b ← begun_at r ts
  head_part_at limit b

-- an `if` whose test and first block are read: with an `else` where one stands there
unfoldable pub choice_at : ReadBlock → ExprTree → List StmtTree → Reads StmtTree
choice_at block t held (Key key.Else ∷ ts) = do
  b ← block ts
  Ok (IfElse t (block_tree held) (block_tree b.0), b.1)
choice_at block t held ts = Ok (Headed (If t) (block_tree held), ts)

-- a head and its block, where block reads the blocks of each region
unfoldable pub headed_at : ℕ → Region → (Region → ReadBlock) → Reads StmtTree
headed_at limit r block ts = do
  h ← head_at limit r ts
  b ← block (region_in h.0 r) h.1
  Ok (Headed h.0 (block_tree b.0), b.1)

-- one statement
unfoldable pub stmt_at : ℕ → Region → (Region → ReadBlock) → Reads StmtTree
stmt_at limit r block (Key key.If ∷ ts) = do
  e ← expr_in Every limit limit ts
  b ← block r e.1
  choice_at (block r) e.0 b.0 b.1
stmt_at limit r block (Key key.While ∷ ts) = headed_at limit r block (Key key.While ∷ ts)
stmt_at limit r block (Key key.Bind ∷ ts) = headed_at limit r block (Key key.Bind ∷ ts)
stmt_at limit r block (Key key.Group ∷ ts) = headed_at limit r block (Key key.Group ∷ ts)
stmt_at limit r block (Key key.Assume ∷ ts) = headed_at limit r block (Key key.Assume ∷ ts)
stmt_at limit r block ts = do
  a ← action_at limit r ts
  Ok (Do a.0, a.1)

-- the statements up to the brace that closes them
abbrev pub many_at : ℕ → Region → (Region → ReadBlock) → ℕ → ReadBlock
many_at limit r block n ts = items_at brace_at (stmt_at limit r block) n ts

-- a block, where n may be opened
unfoldable pub block_at : ℕ → ℕ → Region → ReadBlock
block_at limit zero r ts = sign_at mark.OpenBrace ts >>= λ inside. Err (at TooDeep ts)
block_at limit (suc n) r ts = sign_at mark.OpenBrace ts >>= λ inside. many_at limit r (block_at limit n) (length inside) inside
