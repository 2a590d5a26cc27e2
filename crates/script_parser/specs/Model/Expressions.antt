-- Reading expressions: the parser's own way.
use Rattle.std.specs.Prelude.{◌-◌, ℕ, zero, suc, List, [], ◌∷◌, Option, Some, None, Result, Ok, Err, nat_lt, ◌==◌, if◌then◌else◌}
use Rattle.script_parser.specs.declared.fault.Kind.TheVariants.{Unexpected, OutOfRange, EndsEarly, TooDeep}
use Rattle.script_parser.specs.declared.fault.ParseFault.{ParseFault}
use Rattle.swift_types.specs.declared.operator.Operator.{Operator}
use Rattle.swift_types.specs.declared.operator.Operator.TheVariants as op
use Rattle.script_tokens.specs.declared.keyword.Keyword.TheVariants as key
use Rattle.script_tokens.specs.declared.mark.Mark.{Mark}
use Rattle.script_tokens.specs.declared.mark.Mark.TheVariants as mark
use Rattle.script_tokens.specs.Pieces.{TokenView, Num, Huge, Name, Key, Sign}
use Rattle.script_grammar.specs.declared.region.Atoms.{Atoms}
use Rattle.script_grammar.specs.Tree.{ExprTree, Number, Named, Local, OwnPriority, IsCancelled, Negated, Inverted, Both, height_of}
use Rattle.script_grammar.specs.Grammar.{precedence_of, has_every_atom}
use Rattle.script_parser.specs.Model.Steps.{at, ◌>>=◌, Reads, allowed_at}
use Rattle.script_parser.specs.Model.Parts.{name_at}

-- reading an expression
abbrev pub Read : Type 0
Read = Reads ExprTree

-- reading what stands in a parenthesis, from the tokens with it and those after it
abbrev pub ReadInside : Type 0
ReadInside = List TokenView → Read

-- the operator that a mark stands for between two operands
abbrev pub operator_in : Mark → Option Operator
operator_in mark.Or = Some op.Or
operator_in mark.And = Some op.And
operator_in mark.Equal = Some op.Equal
operator_in mark.Unequal = Some op.Unequal
operator_in mark.Less = Some op.Less
operator_in mark.AtMost = Some op.AtMost
operator_in mark.Greater = Some op.Greater
operator_in mark.AtLeast = Some op.AtLeast
operator_in mark.Plus = Some op.Plus
operator_in mark.Minus = Some op.Minus
operator_in mark.Times = Some op.Times
operator_in _ = None

-- the operator, if it is of this precedence
abbrev pub of_precedence : ℕ → Option Operator → Option Operator
of_precedence k None = None
of_precedence k (Some o) = if precedence_of o == k then Some o else None

-- the operator of just this precedence that a token is
abbrev pub operator_of : ℕ → TokenView → Option Operator
operator_of k (Sign m) = of_precedence k (operator_in m)
operator_of k _ = None

-- the operator, if there is one, and what is after it
abbrev pub with_rest : Option Operator → List TokenView → Option (Operator × List TokenView)
with_rest None ts = None
with_rest (Some o) ts = Some (o, ts)

-- an operator of just this precedence, and what is after it
unfoldable pub operator_at : ℕ → List TokenView → Option (Operator × List TokenView)
operator_at k [] = None
operator_at k (t ∷ ts) = with_rest (operator_of k t) ts

-- how many operators of one precedence may follow one another: a comparison has one, and the height bounds the others
abbrev pub most_operators : ℕ → ℕ → ℕ
most_operators limit k = if k == 3 then 1 else limit

-- the tree of the operator at the front of the tokens, if it is no higher than the limit
unfoldable pub checked : ℕ → List TokenView → ExprTree → Result ExprTree ParseFault
checked limit ts t = if nat_lt limit (height_of t) then Err (at TooDeep ts) else Ok t

-- the tree, and what is after the parenthesis that closes it
unfoldable pub closed_at : ExprTree → Read
closed_at t [] = Err (at EndsEarly [])
closed_at t (Sign mark.Close ∷ rest) = Ok (t, rest)
closed_at t (found ∷ rest) = Err (at Unexpected (found ∷ rest))

-- an atom without a parenthesis
unfoldable pub atom_at : Atoms → Read
atom_at atoms [] = Err (at EndsEarly [])
atom_at atoms (Num v ∷ rest) = Ok (Number v, rest)
atom_at atoms (Name v ∷ rest) = Ok (Named v, rest)
atom_at atoms (Huge ∷ rest) = Err (at OutOfRange (Huge ∷ rest))
atom_at atoms (Sign mark.At ∷ rest) = do
  begun ← allowed_at (has_every_atom atoms) (Sign mark.At ∷ rest)
  n ← name_at rest
  Ok (Local n.0, n.1)
atom_at atoms (Key key.Priority ∷ rest) = do
  begun ← allowed_at (has_every_atom atoms) (Key key.Priority ∷ rest)
  Ok (OwnPriority, rest)
atom_at atoms (Key key.Cancelled ∷ rest) = do
  begun ← allowed_at (has_every_atom atoms) (Key key.Cancelled ∷ rest)
  Ok (IsCancelled, rest)
atom_at atoms (found ∷ rest) = Err (at Unexpected (found ∷ rest))

-- an atom after at most n prefixes, the first of which is in front of first, where inside reads what stands in a
-- parenthesis
unfoldable pub unary_at : Atoms → ℕ → ReadInside → List TokenView → ℕ → Read
unary_at atoms limit inside first n (Sign mark.Open ∷ rest) = do
  a ← inside (Sign mark.Open ∷ rest) rest
  closed_at a.0 a.1
unary_at atoms limit inside first zero (Sign mark.Minus ∷ rest) = Err (at TooDeep first)
unary_at atoms limit inside first (suc n) (Sign mark.Minus ∷ rest) = do
  a ← unary_at atoms limit inside first n rest
  t ← checked limit (Sign mark.Minus ∷ rest) (Negated a.0)
  Ok (t, a.1)
unary_at atoms limit inside first zero (Sign mark.Bang ∷ rest) = Err (at TooDeep first)
unary_at atoms limit inside first (suc n) (Sign mark.Bang ∷ rest) = do
  a ← unary_at atoms limit inside first n rest
  t ← checked limit (Sign mark.Bang ∷ rest) (Inverted a.0)
  Ok (t, a.1)
unary_at atoms limit inside first n ts = atom_at atoms ts

-- what to do at an operator, and where there is none
abbrev pub on_operator : {A : Type 0} → Option (Operator × List TokenView) → A → (Operator → List TokenView → A) → A
on_operator None stop go = stop
on_operator (Some x) stop go = go x.0 x.1

-- at most n further operands, each after an operator of precedence k
unfoldable pub operands_at : ℕ → Read → ℕ → ℕ → ExprTree → Read
operands_at limit operand k zero left ts = Ok (left, ts)
operands_at limit operand k (suc n) left ts = on_operator (operator_at k ts) (Ok (left, ts)) (λ o rest. operand rest >>= λ right. checked limit ts (Both o left right.0) >>= λ t. operands_at limit operand k n t right.1)

-- an expression of this level
unfoldable pub level_at : Atoms → ℕ → ReadInside → ℕ → Read
level_at atoms limit inside zero ts = unary_at atoms limit inside ts (limit - 1) ts
level_at atoms limit inside (suc k) ts = do
  first ← level_at atoms limit inside k ts
  operands_at limit (level_at atoms limit inside k) (suc k) (most_operators limit (suc k)) first.0 first.1

-- what stands in a parenthesis, where n may be opened
unfoldable pub inside_at : Atoms → ℕ → ℕ → ReadInside
inside_at atoms limit zero paren ts = Err (at TooDeep paren)
inside_at atoms limit (suc n) paren ts = level_at atoms limit (inside_at atoms limit n) 5 ts

-- an expression, in which at most `opens` parentheses are open at once
abbrev pub expr_in : Atoms → ℕ → ℕ → Read
expr_in atoms limit opens ts = level_at atoms limit (inside_at atoms limit opens) 5 ts
