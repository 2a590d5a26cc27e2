-- Which texts are expectations (our own).
use Rattle.std.specs.Prelude.{◌<◌, ℕ, ℤ, Some, None, List, [], ◌∷◌, ◌++◌, length}
use Rattle.swift_types.specs.declared.operator.Operator.{Operator}
use Rattle.script_tokens.specs.declared.keyword.Keyword.TheVariants as key
use Rattle.script_tokens.specs.declared.mark.Mark.TheVariants as mark
use Rattle.script_tokens.specs.Pieces.{TokenView, Name, Key, Sign}
use Rattle.script_tokens.specs.Lexes.{Lexes}
use Rattle.script_grammar.specs.Tree.{ExprTree, Number, Named, Negated, Inverted, Both, ActorTree, Acts}
use Rattle.script_grammar.specs.Grammar.{IsScript}
use Rattle.script_parser.specs.declared.limits.TheConstants.{NESTING}
use Rattle.script_code.specs.Tree.{Term, number, variable, field, opposite, denial, binary}
use Rattle.swift_script.specs.Scripts.{ScriptView, actor_count, actor_fields, actor_name, field_name, root_count, root_name}

-- Tokens with each `Actor.field` as one name. A dot that is left stands in no expression.
pub data Joins : List TokenView → List TokenView → Type 0 where
  none : Joins [] []
  dotted : (a f : List ℕ) {ts us : List TokenView} → Joins ts us → Joins (Name a ∷ Sign mark.Dot ∷ Name f ∷ ts) (Name (a ++ 46 ∷ f) ∷ us)
  kept : (t : TokenView) {ts us : List TokenView} → Joins ts us → Joins (t ∷ ts) (t ∷ us)

-- an actor that has an invariant and nothing else
abbrev pub actor_with : ExprTree → ActorTree
actor_with e = record { name = []; executor = None; fields = []; invariant = Some e; methods = [] }

-- the tokens of an actor that has nothing but an invariant, which is that of these tokens
abbrev pub as_invariant : List TokenView → List TokenView
as_invariant ts = (Key key.Actor ∷ Name [] ∷ Sign mark.OpenBrace ∷ Key key.Invariant ∷ []) ++ (ts ++ Sign mark.Semicolon ∷ Sign mark.CloseBrace ∷ [])

-- Tokens spell an expression, as they would in an invariant.
abbrev pub SpellsTest : List TokenView → ExprTree → Type 0
SpellsTest ts e = IsScript NESTING (as_invariant ts) (Acts (actor_with e) ∷ [])

-- What a name stands for: `Actor.field` for that field of that actor, and the name of a root for that root.
pub data Names (p : ScriptView) : List ℕ → Term → Type 0 where
  a_field : (k i : ℕ) → k < actor_count p → i < length (actor_fields p k) → Names p (actor_name p k ++ 46 ∷ field_name p k i) (field (record { actor = k; field = i }))
  a_root : (r : ℕ) → r < root_count p → Names p (root_name p r) (variable r)

-- An expression, with what its names stand for.
pub data IsRead (p : ScriptView) : ExprTree → Term → Type 0 where
  a_number : (n : ℤ) → IsRead p (Number n) (number n)
  a_name : {n : List ℕ} {t : Term} → Names p n t → IsRead p (Named n) t
  a_minus : {e : ExprTree} {t : Term} → IsRead p e t → IsRead p (Negated e) (opposite t)
  a_not : {e : ExprTree} {t : Term} → IsRead p e t → IsRead p (Inverted e) (denial t)
  both : (o : Operator) {d e : ExprTree} {s t : Term} → IsRead p d s → IsRead p e t → IsRead p (Both o d e) (binary o s t)

-- A text spells an expression: its tokens do, with each `Actor.field` as one name.
pub record SpellsExpression (text : List ℕ) (e : ExprTree) : Type 0 where
  pub pieces : List TokenView
  pub lexed : Lexes text pieces
  pub tokens : List TokenView
  pub joined : Joins pieces tokens
  pub spelled : SpellsTest tokens e

-- A text is an expectation of a script: it spells an expression of the language, whose names stand for fields and roots.
pub record IsTest (p : ScriptView) (text : List ℕ) (t : Term) : Type 0 where
  pub tree : ExprTree
  pub spelled : SpellsExpression text tree
  pub read : IsRead p tree t
