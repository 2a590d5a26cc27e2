-- What calls on a reader do, for proofs. (Own.)
use Rattle.std.specs.Prelude.{ℕ, ◌≡◌, ◌≢◌, ◌<◌, ◌++◌, Bool, true, false, List, [], ◌∷◌, IsNone, Some, length, slice_set}
use Rattle.std.specs.List.{slice_get}
use Rattle.swift_syntax.specs.Expressions.{NoArgument, OneArgument, SpellsArgument, SpellsSomeArguments, StandsAt, SwiftArguments, SwiftTree, Table, after, kind_at, table_of}
use Rattle.swift_syntax.specs.Statements.{Lexed, NamesFrom, Source, SpellsNames, SpellsStmt}
use Rattle.swift_syntax.specs.declared.reader.Reader.{Reader}
use Rattle.swift_syntax.specs.declared.sign.Sign.TheVariants as sign
use Rattle.swift_syntax.specs.declared.token.Token.{Token}
use Rattle.swift_syntax.specs.declared.token.TokenKind.TheVariants as kind
use Rattle.swift_syntax.specs.declared.tree.Argument.{Argument}
use Rattle.swift_syntax.specs.declared.tree.Expr.{Expr}
use Rattle.swift_syntax.specs.declared.tree.ExprForm.{ExprForm}
use Rattle.swift_syntax.specs.declared.tree.ExprForm.TheVariants.{Try, TryOptional}
use Rattle.swift_syntax.specs.declared.tree.Stmt.{Stmt}
use Rattle.swift_syntax.specs.declared.tree.Tree.{Tree}

-- a reader at the next token
abbrev pub taken : Reader → Reader
taken r = record { alloc = r.alloc; text = r.text; tokens = r.tokens; at = after r.at; refused = r.refused; tree = r.tree }

-- a reader at the next token, where a flag says so
abbrev pub takes_if : Bool → Reader → Reader
takes_if true r = taken r
takes_if false r = r

-- what a `try`, or a `try?` where a flag says so, makes of an expression
abbrev pub tried_form : Bool → ℕ → ExprForm
tried_form true inner = TryOptional inner
tried_form false inner = Try inner

-- The declarations of a tree are those of another one.
abbrev pub DeclaresAs : Tree → Tree → Type 0
DeclaresAs after before = after ≡ record before { stmts = after.stmts; exprs = after.exprs; arguments = after.arguments }

-- Expressions and arguments are put behind those that were there.
pub record IsBehind (x y : Table) : Type 0 where
  pub more_exprs : List Expr
  pub exprs : y.exprs ≡ x.exprs ++ more_exprs
  pub more_arguments : List Argument
  pub arguments : y.arguments ≡ x.arguments ++ more_arguments

-- Expressions are put behind those that were there, and a refusal stays. What is declared stays. Of statements nothing is said.
pub record Extends (before after : Reader) : Type 0 where
  pub refused : IsNone after.refused → IsNone before.refused
  pub text : after.text ≡ before.text
  pub tokens : after.tokens ≡ before.tokens
  pub declared : DeclaresAs after.tree.value before.tree.value
  pub more : List Expr
  pub exprs : after.tree.value.exprs.items ≡ before.tree.value.exprs.items ++ more
  pub more_arguments : List Argument
  pub arguments : after.tree.value.arguments.items ≡ before.tree.value.arguments.items ++ more_arguments

-- The same where the statements stay too.
pub record Grows (before after : Reader) : Type 0 where
  pub refused : IsNone after.refused → IsNone before.refused
  pub text : after.text ≡ before.text
  pub tokens : after.tokens ≡ before.tokens
  pub declared : DeclaresAs after.tree.value before.tree.value
  pub stmts : after.tree.value.stmts ≡ before.tree.value.stmts
  pub more : List Expr
  pub exprs : after.tree.value.exprs.items ≡ before.tree.value.exprs.items ++ more
  pub more_arguments : List Argument
  pub arguments : after.tree.value.arguments.items ≡ before.tree.value.arguments.items ++ more_arguments

-- One expression is put behind those that were there, and has this place.
pub record IsPut (before after : Reader) (form : ExprForm) (token place : ℕ) : Type 0 where
  pub at : after.at ≡ before.at
  pub behind : place ≡ length before.tree.value.exprs.items
  pub put : after.tree.value.exprs.items ≡ before.tree.value.exprs.items ++ record { form = form; token = token } ∷ []
  pub arguments : after.tree.value.arguments.items ≡ before.tree.value.arguments.items

-- One argument is put behind those that were there, and has this place.
pub record IsArgumentPut (before after : Reader) (made : Argument) (place : ℕ) : Type 0 where
  pub at : after.at ≡ before.at
  pub behind : place ≡ length before.tree.value.arguments.items
  pub there : place ≢ 0
  pub put : after.tree.value.arguments.items ≡ before.tree.value.arguments.items ++ made ∷ []
  pub exprs : after.tree.value.exprs.items ≡ before.tree.value.exprs.items

-- The tokens from a place up to another one spell an argument of this label, whose value stands in the table.
pub record ReadsArgument (tokens : List Token) (x : Table) (from to : ℕ) (made : Argument) : Type 0 where
  pub value : SwiftTree
  pub spelled : SpellsArgument tokens from to made.label value
  pub stands : StandsAt x made.value value

-- These arguments stand in their table from a place on, each with the place of the next one; the place 0 stands for none.
pub data AreFrom (xs : List Argument) : ℕ → List Argument → Type 0 where
  none_from : AreFrom xs 0 []
  one_from : {p next : ℕ} {made : Argument} {rest : List Argument} → p ≢ 0 → slice_get xs p ≡ Some (record made { next = next }) → AreFrom xs next rest → AreFrom xs p (made ∷ rest)

-- The tokens from a place up to another one spell the names of a closure's list, which stand from a place of the table on.
pub record ListsNames (l : Lexed) (x : Table) (from to first : ℕ) : Type 0 where
  pub names : List ℕ
  pub spelled : SpellsNames l from to names
  pub stand : NamesFrom x first names

-- Arguments have these labels, and values that stand in the table. Which one follows which is left aside.
pub data AreGiven (x : Table) : List Argument → SwiftArguments → Type 0 where
  given_none : AreGiven x [] NoArgument
  given_one : {made : Argument} {given : List Argument} {a : SwiftTree} {gs : SwiftArguments} → StandsAt x made.value a → AreGiven x given gs → AreGiven x (made ∷ given) (OneArgument made.label a gs)

-- The tokens from a place up to another one, behind a comma, spell arguments, where there are any: these.
pub data ReadsGiven (tokens : List Token) (x : Table) : ℕ → ℕ → List Argument → Type 0 where
  reads_none : {i j : ℕ} → i ≡ j → ReadsGiven tokens x i j []
  reads_some : {i j : ℕ} {given : List Argument} {gs : SwiftArguments} → SpellsSomeArguments tokens i j gs → kind_at tokens j ≡ kind.Sign sign.Comma → AreGiven x given gs → ReadsGiven tokens x i (after j) given

-- The place 0 of statements is taken.
abbrev pub IsBegun : Reader → Type 0
IsBegun r = 0 < length r.tree.value.stmts.items

-- the text and the tokens of a reader
abbrev pub lexed_of : Reader → Lexed
lexed_of r = record { text = r.text.now; tokens = r.tokens.now }

-- what a reader reads, with these statements in place of those of its tree
abbrev pub source_with : Reader → List Stmt → Source
source_with r stmts = record { lexed = lexed_of r; table = table_of r.tree.value; stmts = stmts }

-- what a reader reads
abbrev pub source_of : Reader → Source
source_of r = source_with r r.tree.value.stmts.items

-- Statements are put behind those that were there. What holds of them holds whichever those are, since they may still be linked.
pub record Adds (before after : Reader) (Holds : Source → Type 0) : Type 0 where
  pub more : List Stmt
  pub stmts : after.tree.value.stmts.items ≡ before.tree.value.stmts.items ++ more
  pub holds : (xs : List Stmt) → length xs ≡ length before.tree.value.stmts.items → Holds (source_with after (xs ++ more))

-- The same, where the last one is what was read: it has this place, and nothing follows it yet.
pub record AddsStmt (before after : Reader) (from place : ℕ) : Type 0 where
  pub more : List Stmt
  pub made : Stmt
  pub stmts : after.tree.value.stmts.items ≡ (before.tree.value.stmts.items ++ more) ++ made ∷ []
  pub place_is : place ≡ length (before.tree.value.stmts.items ++ more)
  pub next : made.next ≡ 0
  pub end : made.end ≡ after.at
  pub spelled : (xs : List Stmt) → length xs ≡ length before.tree.value.stmts.items → SpellsStmt (source_with after (xs ++ more)) from after.at made.form made.token made.is_awaited made.is_tried

-- One statement is put behind those that were there, and has this place.
pub record IsStmtPut (before after : Reader) (made : Stmt) (place : ℕ) : Type 0 where
  pub at : after.at ≡ before.at
  pub behind : place ≡ length before.tree.value.stmts.items
  pub put : after.tree.value.stmts.items ≡ before.tree.value.stmts.items ++ made ∷ []

-- a statement that another one follows
abbrev pub with_next : ℕ → Stmt → Stmt
with_next n made = record made { next = n }

-- A statement follows another one of the table.
pub record IsLinked (before after : Reader) (last next : ℕ) : Type 0 where
  pub at : after.at ≡ before.at
  pub stmts : (made : Stmt) → slice_get before.tree.value.stmts.items last ≡ Some made → after.tree.value.stmts.items ≡ slice_set before.tree.value.stmts.items last (with_next next made)
