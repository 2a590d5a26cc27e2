-- What is written of a Swift file. (Own.)
use Rattle.std.specs.Prelude.{◌≡◌, ◌++◌, ◌+◌, ℕ, zero, suc, Bool, true, false, List, [], codes, IsFalse, nat_lt}
use Rattle.std.specs.List.{flat_map}
use Rattle.swift_types.specs.declared.operator.Operator.{Operator}
use Rattle.script_tokens.specs.Pieces.{Sign}
use Rattle.script_grammar.specs.Grammar.{mark_of}
use Rattle.script_grammar.specs.Tree.{ExprTree}
use Rattle.plain_parts.specs.declared.page.Page.{Page}
use Rattle.plain_parts.specs.Expressions.{Spaced, enclosed, expr_tokens, is_made_of_parts, said}
use Rattle.plain_parts.specs.Names.{pick}

-- These bytes are put after what a page has, unless memory runs out; then the page says so from there on.
abbrev pub GoesOn : Page → Page → List ℕ → Type 0
GoesOn p q w = IsFalse q.is_cut → IsFalse p.is_cut × (q.text.items ≡ p.text.items ++ w)

-- the level of lines inside of a block
abbrev pub deeper : ℕ → ℕ
deeper d = pick (nat_lt d 1000) (d + 1) d

-- a count that is one more
abbrev pub one_more : ℕ → ℕ
one_more n = pick (nat_lt n 1000000) (n + 1) n

-- four spaces for each level
abbrev pub indent : ℕ → List ℕ
indent zero = []
indent (suc d) = codes "    " ++ indent d

-- the end of a line
abbrev pub ended : List ℕ → List ℕ
ended w = w ++ codes "\n"

-- a whole line
abbrev pub line_text : ℕ → List ℕ → List ℕ
line_text d w = indent d ++ ended w

-- a parenthesis, where the flag says so
abbrev pub opened : Bool → List ℕ
opened true = codes "("
opened false = []

-- a parenthesis, where the flag says so
abbrev pub closed : Bool → List ℕ
closed true = codes ")"
closed false = []

-- the bytes of an operator
abbrev pub said_sign : Operator → List ℕ
said_sign o = said (Spaced (Sign (mark_of o)))

-- the bytes of what stands behind a prefix
abbrev pub operand_bytes : (List ℕ → List ℕ) → ExprTree → List ℕ
operand_bytes f e = flat_map said (enclosed (is_made_of_parts e) (expr_tokens f e 5))
