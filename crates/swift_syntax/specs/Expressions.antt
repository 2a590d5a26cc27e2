-- Which tokens spell which expression. How tightly operators bind is Swift's. (Own.)
use Rattle.std.specs.Prelude.{ℕ, suc, ◌≡◌, ◌≢◌, ◌+◌, ◌-◌, ◌^◌, Bool, true, false, not, ◌&&◌, nat_lt, if◌then◌else◌, List, length, Option, Some, None}
use Rattle.std.specs.List.{slice_get}
use Rattle.swift_types.specs.declared.operator.Operator.{Operator}
use Rattle.swift_types.specs.declared.operator.Operator.TheVariants as op
use Rattle.swift_syntax.specs.declared.expression.BinaryOperator.{BinaryOperator}
use Rattle.swift_syntax.specs.declared.sign.Sign.{Sign}
use Rattle.swift_syntax.specs.declared.sign.Sign.TheVariants as sign
use Rattle.swift_syntax.specs.declared.token.Token.{Token}
use Rattle.swift_syntax.specs.declared.token.TokenKind.{TokenKind}
use Rattle.swift_syntax.specs.declared.token.TokenKind.TheVariants as kind
use Rattle.swift_syntax.specs.declared.tree.Argument.{Argument}
use Rattle.swift_syntax.specs.declared.tree.Expr.{Expr}
use Rattle.swift_syntax.specs.declared.tree.ExprForm.{ExprForm}
use Rattle.swift_syntax.specs.declared.tree.ExprForm.TheVariants as form
use Rattle.swift_syntax.specs.declared.tree.Receiver.{Receiver}
use Rattle.swift_syntax.specs.declared.tree.Receiver.TheVariants as receiver
use Rattle.swift_syntax.specs.declared.tree.Tree.{Tree}
use Rattle.swift_syntax.specs.declared.word.Word.TheVariants as word

-- a token that was looked for; the end of the text where there is none
abbrev pub or_end : List ℕ → Option Token → Token
or_end text (Some t) = t
or_end text None = record { kind = kind.End; from = length text; to = length text; begins_line = true; after_space = true }

-- the token at a place; the end of the text where there is none
abbrev pub token_at : List ℕ → List Token → ℕ → Token
token_at text tokens place = or_end text (slice_get tokens place)

-- the kind of a token that was looked for
abbrev pub kind_in : Option Token → TokenKind
kind_in (Some t) = t.kind
kind_in None = kind.End

-- the kind of the token at a place
abbrev pub kind_at : List Token → ℕ → TokenKind
kind_at tokens place = kind_in (slice_get tokens place)

-- the place behind another one, up to the greatest place
abbrev pub after : ℕ → ℕ
after place = if nat_lt place (2 ^ 64 - 1) then place + 1 else 2 ^ 64 - 1

-- an operator between two operands, where it is not `??`, and how tightly it binds
abbrev pub Binary : Type 0
Binary = BinaryOperator

-- the operator between two operands that a sign is
abbrev pub binary_of : Sign → Option Binary
binary_of sign.Or = Some (record { operator = Some op.Or; level = 0 })
binary_of sign.And = Some (record { operator = Some op.And; level = 1 })
binary_of sign.Equal = Some (record { operator = Some op.Equal; level = 2 })
binary_of sign.Unequal = Some (record { operator = Some op.Unequal; level = 2 })
binary_of sign.Less = Some (record { operator = Some op.Less; level = 2 })
binary_of sign.AtMost = Some (record { operator = Some op.AtMost; level = 2 })
binary_of sign.Greater = Some (record { operator = Some op.Greater; level = 2 })
binary_of sign.AtLeast = Some (record { operator = Some op.AtLeast; level = 2 })
binary_of sign.Coalesce = Some (record { operator = None; level = 3 })
binary_of sign.Plus = Some (record { operator = Some op.Plus; level = 4 })
binary_of sign.Minus = Some (record { operator = Some op.Minus; level = 4 })
binary_of sign.Times = Some (record { operator = Some op.Times; level = 5 })
binary_of _ = None

-- an operator, if it binds at least so tightly
abbrev pub if_tight : ℕ → Option BinaryOperator → Option BinaryOperator
if_tight loosest None = None
if_tight loosest (Some b) = if nat_lt b.level loosest then None else Some b

-- the operator that a token is, if it binds at least so tightly
abbrev pub operator_in : ℕ → TokenKind → Option BinaryOperator
operator_in loosest (kind.Sign s) = if_tight loosest (binary_of s)
operator_in loosest _ = None

-- what an operator makes of two operands; the one without a name is `??`
abbrev pub both_form : Option Operator → ℕ → ℕ → ExprForm
both_form (Some o) left right = form.Binary o left right
both_form None left right = form.Otherwise left right

-- whether a token is a parenthesis that opens
abbrev pub is_open : TokenKind → Bool
is_open (kind.Sign sign.Open) = true
is_open _ = false

-- whether a token opens the arguments of what stands before it
abbrev pub opens_in : Option Token → Bool
opens_in None = false
opens_in (Some t) = is_open t.kind && not t.begins_line

-- whether the token at a place opens the arguments of what stands before it
abbrev pub opens_at : List Token → ℕ → Bool
opens_at tokens place = opens_in (slice_get tokens place)

mutual
  -- An expression. `Leaf` is one without parts, with the token that it is told by; a call has the token of its name, and the others have that
  -- of their sign or word.
  pub data SwiftTree : Type 0 where
    Leaf : ExprForm → ℕ → SwiftTree
    Called : Receiver → ℕ → SwiftArguments → SwiftTree
    Negated : ℕ → SwiftTree → SwiftTree
    Inverted : ℕ → SwiftTree → SwiftTree
    Joined : Option Operator → ℕ → SwiftTree → SwiftTree → SwiftTree
    Chosen : ℕ → SwiftTree → SwiftTree → SwiftTree → SwiftTree
    Awaited : ℕ → SwiftTree → SwiftTree
    Tried : ℕ → SwiftTree → SwiftTree
    TriedOptional : ℕ → SwiftTree → SwiftTree

  -- Arguments: the token of each label, 0 where there is none, and the value.
  pub data SwiftArguments : Type 0 where
    NoArgument : SwiftArguments
    OneArgument : ℕ → SwiftTree → SwiftArguments → SwiftArguments

-- arguments, and one more
unfoldable pub with_argument : SwiftArguments → ℕ → SwiftTree → SwiftArguments
with_argument NoArgument label value = OneArgument label value NoArgument
with_argument (OneArgument l v more) label value = OneArgument l v (with_argument more label value)

-- The tables of a tree in which expressions stand.
pub record Table : Type 0 where
  pub exprs : List Expr
  pub arguments : List Argument

-- those of a tree
abbrev pub table_of : Tree → Table
table_of t = record { exprs = t.exprs.items; arguments = t.arguments.items }

mutual
  -- An expression stands at a place of the table, and its parts at the places that it names.
  pub data StandsAt (x : Table) : ℕ → SwiftTree → Type 0 where
    leaf : {p t : ℕ} {f : ExprForm} → slice_get x.exprs p ≡ Some (record { form = f; token = t }) → StandsAt x p (Leaf f t)
    called : {p t first : ℕ} {r : Receiver} {gs : SwiftArguments} → slice_get x.exprs p ≡ Some (record { form = form.Call r first; token = t }) → StandFrom x first gs → StandsAt x p (Called r t gs)
    negated : {p t q : ℕ} {a : SwiftTree} → slice_get x.exprs p ≡ Some (record { form = form.Negate q; token = t }) → StandsAt x q a → StandsAt x p (Negated t a)
    inverted : {p t q : ℕ} {a : SwiftTree} → slice_get x.exprs p ≡ Some (record { form = form.Not q; token = t }) → StandsAt x q a → StandsAt x p (Inverted t a)
    joined : {p t q r : ℕ} {o : Option Operator} {a b : SwiftTree} → slice_get x.exprs p ≡ Some (record { form = both_form o q r; token = t }) → StandsAt x q a → StandsAt x r b → StandsAt x p (Joined o t a b)
    chosen : {p t q r s : ℕ} {a b c : SwiftTree} → slice_get x.exprs p ≡ Some (record { form = form.Choice q r s; token = t }) → StandsAt x q a → StandsAt x r b → StandsAt x s c → StandsAt x p (Chosen t a b c)
    awaited : {p t q : ℕ} {a : SwiftTree} → slice_get x.exprs p ≡ Some (record { form = form.Await q; token = t }) → StandsAt x q a → StandsAt x p (Awaited t a)
    tried : {p t q : ℕ} {a : SwiftTree} → slice_get x.exprs p ≡ Some (record { form = form.Try q; token = t }) → StandsAt x q a → StandsAt x p (Tried t a)
    tried_optional : {p t q : ℕ} {a : SwiftTree} → slice_get x.exprs p ≡ Some (record { form = form.TryOptional q; token = t }) → StandsAt x q a → StandsAt x p (TriedOptional t a)

  -- Arguments stand in their table from a place on, each with the place of the next one; the place 0 stands for none.
  pub data StandFrom (x : Table) : ℕ → SwiftArguments → Type 0 where
    no_argument : StandFrom x 0 NoArgument
    one_argument : {p label value next : ℕ} {a : SwiftTree} {gs : SwiftArguments} → p ≢ 0 → slice_get x.arguments p ≡ Some (record { label = label; value = value; next = next }) → StandsAt x value a → StandFrom x next gs → StandFrom x p (OneArgument label a gs)

-- the form of a literal
abbrev pub literal_of : TokenKind → Option ExprForm
literal_of (kind.Number n) = Some (form.Number n)
literal_of kind.Text = Some form.Text
literal_of (kind.Key word.True) = Some (form.Truth true)
literal_of (kind.Key word.False) = Some (form.Truth false)
literal_of _ = None

-- whether a token may be a label
abbrev pub may_label : TokenKind → Bool
may_label kind.Name = true
may_label (kind.Key w) = true
may_label _ = false

-- whether a token is a colon
abbrev pub is_colon : TokenKind → Bool
is_colon (kind.Sign sign.Colon) = true
is_colon _ = false

-- whether an argument has a label: a name or a keyword with a colon behind it
abbrev pub has_label : List Token → ℕ → Bool
has_label tokens i = may_label (kind_at tokens i) && is_colon (kind_at tokens (after i))

-- Spells .. from to tree: the tokens from a place up to another one spell the tree.
mutual
  -- An argument, with its label.
  pub data SpellsArgument (tokens : List Token) : ℕ → ℕ → ℕ → SwiftTree → Type 0 where
    labelled : {i j : ℕ} {t : SwiftTree} → has_label tokens i ≡ true → SpellsExpr tokens (after (after i)) j t → SpellsArgument tokens i j i t
    unlabelled : {i j : ℕ} {t : SwiftTree} → has_label tokens i ≡ false → SpellsExpr tokens i j t → SpellsArgument tokens i j 0 t

  -- Arguments with commas between them.
  pub data SpellsSomeArguments (tokens : List Token) : ℕ → ℕ → SwiftArguments → Type 0 where
    first_argument : {i j label : ℕ} {t : SwiftTree} → SpellsArgument tokens i j label t → SpellsSomeArguments tokens i j (OneArgument label t NoArgument)
    next_argument : {i j k label : ℕ} {gs : SwiftArguments} {t : SwiftTree} → SpellsSomeArguments tokens i j gs → kind_at tokens j ≡ kind.Sign sign.Comma → SpellsArgument tokens (after j) k label t → SpellsSomeArguments tokens i k (with_argument gs label t)

  -- Arguments behind their parenthesis, with the one that closes them.
  pub data SpellsArguments (tokens : List Token) : ℕ → ℕ → SwiftArguments → Type 0 where
    no_arguments : {i : ℕ} → kind_at tokens i ≡ kind.Sign sign.Close → SpellsArguments tokens i (after i) NoArgument
    some_arguments : {i j : ℕ} {gs : SwiftArguments} → SpellsSomeArguments tokens i j gs → kind_at tokens j ≡ kind.Sign sign.Close → SpellsArguments tokens i (after j) gs

  -- What stands behind a name, of a receiver: nothing that belongs to it, or the arguments of a call of it.
  pub data SpellsCalled (tokens : List Token) : Receiver → ExprForm → ℕ → ℕ → ℕ → SwiftTree → Type 0 where
    uncalled : {receiver : Receiver} {alone : ExprForm} {name i : ℕ} → opens_at tokens i ≡ false → SpellsCalled tokens receiver alone name i i (Leaf alone name)
    call : {receiver : Receiver} {alone : ExprForm} {name i j : ℕ} {gs : SwiftArguments} → opens_at tokens i ≡ true → SpellsArguments tokens (after i) j gs → SpellsCalled tokens receiver alone name i j (Called receiver name gs)

  -- A name with what belongs to it.
  pub data SpellsNamed (tokens : List Token) : ℕ → ℕ → SwiftTree → Type 0 where
    alone : {i j : ℕ} {t : SwiftTree} → kind_at tokens (after i) ≢ kind.Sign sign.Dot → SpellsCalled tokens receiver.Nobody form.Name i (after i) j t → SpellsNamed tokens i j t
    member : {i j : ℕ} {t : SwiftTree} → kind_at tokens (after i) ≡ kind.Sign sign.Dot → kind_at tokens (after (after i)) ≡ kind.Name → SpellsCalled tokens (receiver.Named i) (form.Member i) (after (after i)) (after (after (after i))) j t → SpellsNamed tokens i j t

  -- An operand without a prefix.
  pub data SpellsAtom (tokens : List Token) : ℕ → ℕ → SwiftTree → Type 0 where
    literal : {i : ℕ} {f : ExprForm} → literal_of (kind_at tokens i) ≡ Some f → SpellsAtom tokens i (after i) (Leaf f i)
    name : {i j : ℕ} {t : SwiftTree} → kind_at tokens i ≡ kind.Name → SpellsNamed tokens i j t → SpellsAtom tokens i j t
    own_member : {i j : ℕ} {t : SwiftTree} → kind_at tokens i ≡ kind.Key word.Own → kind_at tokens (after i) ≡ kind.Sign sign.Dot → kind_at tokens (after (after i)) ≡ kind.Name → SpellsCalled tokens receiver.Own form.OwnMember (after (after i)) (after (after (after i))) j t → SpellsAtom tokens i j t
    case : {i j : ℕ} {t : SwiftTree} → kind_at tokens i ≡ kind.Sign sign.Dot → kind_at tokens (after i) ≡ kind.Name → SpellsCalled tokens receiver.Nobody form.Case (after i) (after (after i)) j t → SpellsAtom tokens i j t
    parenthesis : {i j : ℕ} {t : SwiftTree} → kind_at tokens i ≡ kind.Sign sign.Open → SpellsExpr tokens (after i) j t → kind_at tokens j ≡ kind.Sign sign.Close → SpellsAtom tokens i (after j) t

  -- An operand with at most one prefix.
  pub data SpellsPrefixed (tokens : List Token) : ℕ → ℕ → SwiftTree → Type 0 where
    negated : {i j : ℕ} {t : SwiftTree} → kind_at tokens i ≡ kind.Sign sign.Minus → SpellsAtom tokens (after i) j t → SpellsPrefixed tokens i j (Negated i t)
    inverted : {i j : ℕ} {t : SwiftTree} → kind_at tokens i ≡ kind.Sign sign.Bang → SpellsAtom tokens (after i) j t → SpellsPrefixed tokens i j (Inverted i t)
    unprefixed : {i j : ℕ} {t : SwiftTree} → SpellsAtom tokens i j t → SpellsPrefixed tokens i j t

  -- Operands with operators between them that bind at least so tightly, up to one of them. What is right of an operator has only those that
  -- bind more tightly, so operators of a level group to the left.
  pub data SpellsSome (tokens : List Token) : ℕ → ℕ → ℕ → SwiftTree → Type 0 where
    first : {loosest i j : ℕ} {t : SwiftTree} → SpellsPrefixed tokens i j t → SpellsSome tokens loosest i j t
    next : {loosest i j k : ℕ} {a b : SwiftTree} (found : BinaryOperator) → SpellsSome tokens loosest i j a → operator_in loosest (kind_at tokens j) ≡ Some found → SpellsOperands tokens (suc found.level) (after j) k b → SpellsSome tokens loosest i k (Joined found.operator j a b)

  -- All operands with such operators between them.
  pub data SpellsOperands (tokens : List Token) : ℕ → ℕ → ℕ → SwiftTree → Type 0 where
    all : {loosest i j : ℕ} {t : SwiftTree} → SpellsSome tokens loosest i j t → operator_in loosest (kind_at tokens j) ≡ None → SpellsOperands tokens loosest i j t

  -- Operands, perhaps with a choice.
  pub data SpellsChoice (tokens : List Token) : ℕ → ℕ → SwiftTree → Type 0 where
    operands : {i j : ℕ} {t : SwiftTree} → SpellsOperands tokens 0 i j t → kind_at tokens j ≢ kind.Sign sign.Question → SpellsChoice tokens i j t
    choice : {i j k l : ℕ} {a b c : SwiftTree} → SpellsOperands tokens 0 i j a → kind_at tokens j ≡ kind.Sign sign.Question → SpellsChoice tokens (after j) k b → kind_at tokens k ≡ kind.Sign sign.Colon → SpellsChoice tokens (after k) l c → SpellsChoice tokens i l (Chosen j a b c)

  -- An expression, which `await` and `try` may cover.
  pub data SpellsExpr (tokens : List Token) : ℕ → ℕ → SwiftTree → Type 0 where
    tried : {i j : ℕ} {t : SwiftTree} → kind_at tokens i ≡ kind.Key word.Try → SpellsExpr tokens (after i) j t → SpellsExpr tokens i j (Tried i t)
    tried_optional : {i j : ℕ} {t : SwiftTree} → kind_at tokens i ≡ kind.Key word.Try → kind_at tokens (after i) ≡ kind.Sign sign.Question → SpellsExpr tokens (after (after i)) j t → SpellsExpr tokens i j (TriedOptional i t)
    awaited : {i j : ℕ} {t : SwiftTree} → kind_at tokens i ≡ kind.Key word.Await → SpellsExpr tokens (after i) j t → SpellsExpr tokens i j (Awaited i t)
    uncovered : {i j : ℕ} {t : SwiftTree} → SpellsChoice tokens i j t → SpellsExpr tokens i j t

-- The tokens from a place up to another one spell, by one of these relations, the expression at a place of the table.
pub record Reads (Spells : ℕ → ℕ → SwiftTree → Type 0) (x : Table) (from to place : ℕ) : Type 0 where
  pub tree : SwiftTree
  pub spelled : Spells from to tree
  pub stands : StandsAt x place tree

-- The tokens from a place up to another one spell the arguments that stand from a place of their table on.
pub record ReadsArguments (tokens : List Token) (x : Table) (from to first : ℕ) : Type 0 where
  pub arguments : SwiftArguments
  pub spelled : SpellsArguments tokens from to arguments
  pub stand : StandFrom x first arguments
