-- What is written of an expression: its tokens, and what each of them is in Swift. Swift's operators hold as those of a script do. (Own.)
use Rattle.std.specs.Prelude.{◌&&◌, ◌-◌, ℕ, pos, Bool, true, false, List, [], ◌∷◌, ◌++◌, codes, nat_lt}
use Rattle.std.specs.Fmt.{signed_decimal}
use Rattle.std.specs.List.{flat_map}
use Rattle.swift_types.specs.declared.operator.Operator.{Operator}
use Rattle.swift_types.specs.declared.operator.Operator.TheVariants as op
use Rattle.script_tokens.specs.declared.keyword.Keyword.TheVariants as key
use Rattle.script_tokens.specs.declared.mark.Mark.TheVariants as mark
use Rattle.script_tokens.specs.Pieces.{TokenView, Num, Huge, Name, Key, Sign, Stray}
use Rattle.script_tokens.specs.Spelling.{mark_spelling}
use Rattle.script_grammar.specs.Grammar.{mark_of, precedence_of}
use Rattle.script_grammar.specs.Tree.{ExprTree, Number, Named, Local, OwnPriority, IsCancelled, Negated, Inverted, Both}

-- A token stands with a space on both sides, or with none.
pub data PlainToken : Type 0 where
  Spaced : TokenView → PlainToken
  Bare : TokenView → PlainToken

-- the token itself
abbrev pub token_in : PlainToken → TokenView
token_in (Spaced t) = t
token_in (Bare t) = t

-- what a token of an expression is in Swift: the one keyword is `cancelled`
abbrev pub swift_of : TokenView → List ℕ
swift_of (Num n) = signed_decimal n
swift_of Huge = []
swift_of (Name w) = w
swift_of (Key k) = codes "Task.isCancelled"
swift_of (Sign m) = mark_spelling m
swift_of Stray = []

-- the bytes of a token, with its spaces
abbrev pub said : PlainToken → List ℕ
said (Spaced t) = 32 ∷ (swift_of t ++ 32 ∷ [])
said (Bare t) = swift_of t

-- how far the left side of an operator may go: comparisons are not chained, and other operators group to the left
abbrev pub left_of : Operator → ℕ
left_of op.Or = 5
left_of op.And = 4
left_of op.Equal = 2
left_of op.Unequal = 2
left_of op.Less = 2
left_of op.AtMost = 2
left_of op.Greater = 2
left_of op.AtLeast = 2
left_of op.Plus = 2
left_of op.Minus = 2
left_of op.Times = 1

-- in parentheses, where the flag says so
abbrev pub enclosed : Bool → List PlainToken → List PlainToken
enclosed true ts = Bare (Sign mark.Open) ∷ (ts ++ Bare (Sign mark.Close) ∷ [])
enclosed false ts = ts

-- whether an expression begins with a prefix, or is an operator between two
abbrev pub is_made_of_parts : ExprTree → Bool
is_made_of_parts (Number n) = false
is_made_of_parts (Named w) = false
is_made_of_parts (Local w) = false
is_made_of_parts OwnPriority = false
is_made_of_parts IsCancelled = false
is_made_of_parts (Negated a) = true
is_made_of_parts (Inverted a) = true
is_made_of_parts (Both o a b) = true

-- The tokens of an expression, of which operators up to a precedence stand without parentheses. A prefix has an atom behind it.
abbrev pub expr_tokens : (List ℕ → List ℕ) → ExprTree → ℕ → List PlainToken
expr_tokens f (Number n) k = Bare (Num n) ∷ []
expr_tokens f (Named w) k = Bare (Name (f w)) ∷ []
expr_tokens f (Local w) k = []
expr_tokens f OwnPriority k = []
expr_tokens f IsCancelled k = Bare (Key key.Cancelled) ∷ []
expr_tokens f (Negated a) k = Bare (Sign mark.Minus) ∷ enclosed (is_made_of_parts a) (expr_tokens f a 5)
expr_tokens f (Inverted a) k = Bare (Sign mark.Bang) ∷ enclosed (is_made_of_parts a) (expr_tokens f a 5)
expr_tokens f (Both o a b) k = enclosed (nat_lt k (precedence_of o)) (expr_tokens f a (left_of o) ++ Spaced (Sign (mark_of o)) ∷ expr_tokens f b (precedence_of o - 1))

-- the bytes of an expression
abbrev pub expr_bytes : (List ℕ → List ℕ) → ExprTree → ℕ → List ℕ
expr_bytes f e k = flat_map said (expr_tokens f e k)

-- what an operator makes of tests, or of a number that is compared: the same; of a number alone: whether it is not 0
abbrev pub as_test : ExprTree → ExprTree
as_test (Number n) = Both op.Unequal (Number n) (Number (pos 0))
as_test (Named w) = Both op.Unequal (Named w) (Number (pos 0))
as_test (Local w) = Both op.Unequal (Local w) (Number (pos 0))
as_test OwnPriority = Both op.Unequal OwnPriority (Number (pos 0))
as_test IsCancelled = IsCancelled
as_test (Negated a) = Both op.Unequal (Negated a) (Number (pos 0))
as_test (Inverted a) = Inverted (as_test a)
as_test (Both op.Or a b) = Both op.Or (as_test a) (as_test b)
as_test (Both op.And a b) = Both op.And (as_test a) (as_test b)
as_test (Both op.Plus a b) = Both op.Unequal (Both op.Plus a b) (Number (pos 0))
as_test (Both op.Minus a b) = Both op.Unequal (Both op.Minus a b) (Number (pos 0))
as_test (Both op.Times a b) = Both op.Unequal (Both op.Times a b) (Number (pos 0))
as_test (Both op.Equal a b) = Both op.Equal a b
as_test (Both op.Unequal a b) = Both op.Unequal a b
as_test (Both op.Less a b) = Both op.Less a b
as_test (Both op.AtMost a b) = Both op.AtMost a b
as_test (Both op.Greater a b) = Both op.Greater a b
as_test (Both op.AtLeast a b) = Both op.AtLeast a b

-- an expression with other names
abbrev pub renamed : (List ℕ → List ℕ) → ExprTree → ExprTree
renamed f (Number n) = Number n
renamed f (Named w) = Named (f w)
renamed f (Local w) = Local w
renamed f OwnPriority = OwnPriority
renamed f IsCancelled = IsCancelled
renamed f (Negated a) = Negated (renamed f a)
renamed f (Inverted a) = Inverted (renamed f a)
renamed f (Both o a b) = Both o (renamed f a) (renamed f b)

-- whether an expression reads no task local, and no priority
abbrev pub reads_plain : ExprTree → Bool
reads_plain (Number n) = true
reads_plain (Named w) = true
reads_plain (Local w) = false
reads_plain OwnPriority = false
reads_plain IsCancelled = true
reads_plain (Negated a) = reads_plain a
reads_plain (Inverted a) = reads_plain a
reads_plain (Both o a b) = reads_plain a && reads_plain b
