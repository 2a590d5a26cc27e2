-- From what a script is written. (Our own.)
use Rattle.std.specs.Prelude.{ℕ, pos, ◌≡◌, ◌==◌, ◌&&◌, ◌||◌, Bool, true, false, if◌then◌else◌, List, Option, Some, None, length, slice_get, slice_index_or}
use Rattle.std.specs.List.{list_any}
use Rattle.swift_syntax.specs.declared.token.Token.{Token}
use Rattle.swift_syntax.specs.declared.tree.Argument.{Argument}
use Rattle.swift_syntax.specs.declared.tree.Expr.{Expr}
use Rattle.swift_syntax.specs.declared.tree.Tree.{Tree}
use Rattle.swift_expressions.specs.States.{bytes_in, or_missing}
use Rattle.swift_expressions.specs.declared.code.Code.{Code}
use Rattle.swift_expressions.specs.declared.code.Instruction.{Instruction}
use Rattle.swift_expressions.specs.declared.code.Instruction.TheVariants as instruction
use Rattle.swift_expressions.specs.declared.code.TheConstants.{NONE}
use Rattle.swift_expressions.specs.declared.code.Value.{Value}
use Rattle.swift_expressions.specs.declared.code.Value.TheVariants as value
use Rattle.swift_translation.specs.declared.source.Source.{Source}

-- the bytes of the token at a place; none where there is no such token
abbrev pub bytes_at : Source → ℕ → List ℕ
bytes_at s place = bytes_in s.text.now (slice_get s.tokens.now place)

-- the value at a place; 0 where there is no such place
abbrev pub value_at : Source → ℕ → Value
value_at s place = slice_index_or s.code.now.values.items place (value.Number (pos 0))

-- the expression at a place of the tree; none where there is no such place
abbrev pub expr_at : Source → ℕ → Expr
expr_at s place = or_missing (slice_get s.tree.now.value.exprs.items place)

-- the argument at a place of the tree; there is none at 0
abbrev pub argument_at : Source → ℕ → Option Argument
argument_at s place = if place == 0 then None else slice_get s.tree.now.value.arguments.items place

-- the instruction at a place; one that goes on with the next one where there is no such place
abbrev pub instruction_at : Source → ℕ → Instruction
instruction_at s place = slice_index_or s.code.now.instructions.items place (instruction.Skip NONE)

-- the same source, for another instance
abbrev pub of_instance : Source → ℕ → Source
of_instance s instance = record s { instance = instance }

-- the place at which a token begins that was looked for; the end of the text where there is none
abbrev pub token_place : List ℕ → Option Token → ℕ
token_place text None = length text
token_place text (Some t) = t.from

-- whether a value is whether the task is cancelled
abbrev pub is_asked : Value → Bool
is_asked value.Cancelled = true
is_asked v = false

-- whether an instruction ends a cancelled task
abbrev pub is_check : Instruction → Bool
is_check instruction.Check = true
is_check i = false

-- whether an instruction may cancel a task, by itself or with its group
abbrev pub is_cancelling : Instruction → Bool
is_cancelling (instruction.Cancel v) = true
is_cancelling (instruction.Group v) = true
is_cancelling i = false

-- whether a value asks whether its task is cancelled
unfoldable pub reads_cancelled : Code → Bool
reads_cancelled code = list_any is_asked code.values.items

-- whether an instruction asks that
unfoldable pub checks_cancelled : Code → Bool
checks_cancelled code = list_any is_check code.instructions.items

-- whether some task may be cancelled
unfoldable pub may_cancel : Code → Bool
may_cancel code = list_any is_cancelling code.instructions.items

-- whether a task may ask whether it is cancelled, and be so
abbrev pub may_ask_cancelled : Code → Bool
may_ask_cancelled code = (reads_cancelled code || checks_cancelled code) && may_cancel code

-- What a script is written from, before an actor of it is: a text, its tokens, its tree, and its instructions.
pub record IsSourceOf (text : List ℕ) (tokens : List Token) (tree : Tree) (code : Code) (s : Source) : Type 0 where
  pub text_is : s.text.now ≡ text
  pub tokens_are : s.tokens.now ≡ tokens
  pub tree_is : s.tree.now.value ≡ tree
  pub code_is : s.code.now ≡ code
  pub outside : s.instance ≡ NONE
  pub no_closure : s.is_closure ≡ false
  pub cancelling : s.may_ask_cancelled ≡ may_ask_cancelled code
