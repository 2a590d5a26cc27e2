-- What the reader's tokens are of a line of a script's statement, as `--plain` writes it. (Own.)
use Rattle.std.specs.Prelude.{ℕ, ◌≡◌, ◌++◌, Bool, true, false, List, codes, if◌then◌else◌}
use Rattle.script_grammar.specs.Tree.{ExprTree}
use Rattle.plain_parts.specs.Expressions.{expr_bytes, renamed}
use Rattle.plain_parts.specs.Pages.{indent}
use Rattle.swift_syntax.specs.Expressions.{SpellsExpr, SwiftTree, after, kind_at}
use Rattle.swift_syntax.specs.declared.sign.Sign.TheVariants as sign
use Rattle.swift_syntax.specs.declared.token.Token.{Token}
use Rattle.swift_syntax.specs.declared.token.TokenKind.TheVariants as kind
use Rattle.swift_syntax.specs.declared.word.Word.TheVariants as word
use Rattle.plain_laws.specs.Readings.{Called, EndsExpr, IsTold, Means, Rest}

-- what stands behind a word or a sign of a line: an expression up to the end of the line
abbrev pub value_end : (List ℕ → List ℕ) → ExprTree → List ℕ
value_end f e = expr_bytes f e 5 ++ codes "\n"

-- a number that is returned
abbrev pub return_line : (List ℕ → List ℕ) → ℕ → ExprTree → List ℕ
return_line f d e = indent d ++ (codes "return " ++ value_end f e)

-- a variable or a field that is set to a number
abbrev pub assign_line : (List ℕ → List ℕ) → ℕ → List ℕ → ExprTree → List ℕ
assign_line f d w e = indent d ++ (f w ++ (codes " = " ++ value_end f e))

-- a variable that is made, with its number: one that is set later, or not
abbrev pub let_line : (List ℕ → List ℕ) → Bool → ℕ → List ℕ → ExprTree → List ℕ
let_line f is_var d w e = indent d ++ ((if is_var then codes "var " else codes "let ") ++ (f w ++ (codes " = " ++ value_end f e)))

-- The tokens from a place on are those of the end of a text, and the first of them begins a line where the flag says so.
pub record RestOn (line : Bool) (text : List ℕ) (tokens : List Token) (i : ℕ) (end : List ℕ) : Type 0 where
  pub rest : Rest text tokens i end
  pub is : rest.line ≡ line

-- From a place on stands an expression of a script as Swift, on the line of the token before it, and `rest` on the next line. What the
-- reader takes there for an expression ends with its line, unless an operator or the like begins the next one, and means the one of the
-- script, with its names as they are written.
pub record EndsLine (text : List ℕ) (tokens : List Token) (f : List ℕ → List ℕ) (e : ExprTree) (i : ℕ) (rest : List ℕ) : Type 0 where
  pub end : ℕ
  pub here : RestOn false text tokens i (value_end f e ++ rest)
  pub next : RestOn true text tokens end rest
  pub read : (to : ℕ) (tree : SwiftTree) → EndsExpr tokens end → SpellsExpr tokens i to tree → (to ≡ end) × Means text tokens tree (renamed f e)

-- From a place on stands `return`, with an expression behind it up to the end of its line, and `rest` on the next line.
pub record IsReturnReadBack (text : List ℕ) (tokens : List Token) (f : List ℕ → List ℕ) (e : ExprTree) (i : ℕ) (rest : List ℕ) : Type 0 where
  pub begins : kind_at tokens i ≡ kind.Key word.Return
  pub value : EndsLine text tokens f e (after i) rest

-- From a place on stands a name, as it is written, and `=`, with an expression behind it up to the end of its line, and `rest` on the next
-- line.
pub record IsAssignReadBack (text : List ℕ) (tokens : List Token) (f : List ℕ → List ℕ) (w : List ℕ) (e : ExprTree) (i : ℕ) (rest : List ℕ) : Type 0 where
  pub name : IsTold text tokens i (Called (f w))
  pub sets : kind_at tokens (after i) ≡ kind.Sign sign.Assign
  pub value : EndsLine text tokens f e (after (after i)) rest

-- From a place on stands `let` or `var`, and behind it the same.
pub record IsLetReadBack (text : List ℕ) (tokens : List Token) (f : List ℕ → List ℕ) (is_var : Bool) (w : List ℕ) (e : ExprTree) (i : ℕ) (rest : List ℕ) : Type 0 where
  pub begins : kind_at tokens i ≡ kind.Key (if is_var then word.Var else word.Let)
  pub sets : IsAssignReadBack text tokens f w e (after i) rest
