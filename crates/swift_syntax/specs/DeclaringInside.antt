-- What calls on a reader declare, for proofs. (Own.)
use Rattle.std.specs.Prelude.{ℕ, ◌≡◌, ◌++◌, List, [], ◌∷◌, IsNone, length, None, Option, Some, slice_set, ◌<◌, ◌≤◌, ◌&&◌, Bool, true, false, codes, nat_eq, not}
use Rattle.swift_syntax.specs.Declarations.{MethodHead, Rows, SpellsField, SpellsHead, SpellsParam, SpellsParams, method_of, no_rows, rows_of, IsPlain, ReadsSuch, SpellsGiving, SpellsOwn, given_to, IsLoneValue, nobody}
use Rattle.std.specs.List.{slice_get}
use Rattle.swift_syntax.specs.ReadersInside.{Adds, IsBegun}
use Rattle.swift_syntax.specs.Statements.{Lexed, Row, Separates, Source, a_name, a_sign, spells_at}
use Rattle.swift_syntax.specs.declared.sign.Sign.TheVariants as sign
use Rattle.swift_syntax.specs.declared.reader.Reader.{Reader}
use Rattle.swift_syntax.specs.declared.token.Token.{Token}
use Rattle.swift_syntax.specs.declared.tree.Access.{Access}
use Rattle.swift_syntax.specs.declared.tree.ActorDecl.{ActorDecl}
use Rattle.swift_syntax.specs.declared.tree.Argument.{Argument}
use Rattle.swift_syntax.specs.declared.tree.Expr.{Expr}
use Rattle.swift_syntax.specs.declared.tree.FieldDecl.{FieldDecl}
use Rattle.swift_syntax.specs.declared.tree.MethodDecl.{MethodDecl}
use Rattle.swift_syntax.specs.declared.tree.ParamDecl.{ParamDecl}

-- Expressions are put behind those that were there, and a refusal stays. Of statements and of what is declared nothing is said.
pub record Continues (before after : Reader) : Type 0 where
  pub refused : IsNone after.refused → IsNone before.refused
  pub text : after.text ≡ before.text
  pub tokens : after.tokens ≡ before.tokens
  pub more : List Expr
  pub exprs : after.tree.value.exprs.items ≡ before.tree.value.exprs.items ++ more
  pub more_arguments : List Argument
  pub arguments : after.tree.value.arguments.items ≡ before.tree.value.arguments.items ++ more_arguments

-- The same; and where nothing is refused, statements are put behind those that were there, and this holds.
pub record Puts (before after : Reader) (Holds : Source → Type 0) : Type 0 where
  pub continues : Continues before after
  pub adds : IsNone after.refused → IsBegun before → Adds before after Holds

-- From where a reader was up to where it is this is spelled, which changes the rows as they were changed.
abbrev pub Declares : Reader → Reader → (Source → ℕ → ℕ → Rows → Rows → Type 0) → Type 0
Declares before after Holds = Puts before after (λ s. Holds s before.at after.at (rows_of before.tree.value) (rows_of after.tree.value))

-- the rows with one more of a table
abbrev pub with_param : ParamDecl → Rows → Rows
with_param p r = record r { params = r.params ++ p ∷ [] }

abbrev pub with_field : FieldDecl → Rows → Rows
with_field f r = record r { fields = r.fields ++ f ∷ [] }

abbrev pub with_invariant : ℕ → ℕ → Rows → Rows
with_invariant actor test r = record r { invariants = r.invariants ++ record { actor = actor; test = test } ∷ [] }

abbrev pub with_method : MethodDecl → Rows → Rows
with_method m r = record r { methods = r.methods ++ m ∷ [] }

abbrev pub with_actor : ActorDecl → Rows → Rows
with_actor a r = record r { actors = r.actors ++ a ∷ [] }

abbrev pub with_main : MethodDecl → Rows → Rows
with_main m r = record r { mains = r.mains ++ m ∷ [] }

-- One parameter is read and put.
pub record PutsParam (s : Source) (from to : ℕ) (before after : Rows) : Type 0 where
  pub param : ParamDecl
  pub spelled : SpellsParam s.lexed from to param
  pub rows : after ≡ with_param param before

-- Parameters are read and put, with the parenthesis that closes them.
pub record PutsParams (s : Source) (from to : ℕ) (before after : Rows) : Type 0 where
  pub params : List ParamDecl
  pub spelled : SpellsParams s.lexed from to params
  pub rows : after ≡ record before { params = before.params ++ params }

-- A field is read and put.
pub record PutsField (s : Source) (actor : ℕ) (access : Access) (from to : ℕ) (before after : Rows) : Type 0 where
  pub field : FieldDecl
  pub spelled : SpellsField s actor access from to field
  pub rows : after ≡ with_field field before

-- The head of a method is read, and its parameters are put; the row has it, without a body.
pub record PutsHead (s : Source) (actor : ℕ) (access : Access) (from to : ℕ) (before after : Rows) (made : MethodDecl) : Type 0 where
  pub head : MethodHead
  pub spelled : SpellsHead s.lexed from to head
  pub rows : after ≡ record before { params = before.params ++ head.params }
  pub is : made ≡ method_of actor access (length before.params) head 0 0

-- A reader before the first of these tokens of a text: nothing is refused, and nothing is read.
pub record IsNewReader (text : List ℕ) (tokens : List Token) (r : Reader) : Type 0 where
  pub refused : IsNone r.refused
  pub bytes : r.text.now ≡ text
  pub all : r.tokens.now ≡ tokens
  pub at : r.at ≡ 0
  pub rows : rows_of r.tree.value ≡ no_rows

-- the fields, of which the one at a place has this value from the init of its actor, where it was found
abbrev pub given_in : ℕ → ℕ → List FieldDecl → Option FieldDecl → List FieldDecl
given_in place value fields None = fields
given_in place value fields (Some f) = slice_set fields place (record f { given = value })

-- the fields, of which the one at a place has this value from the init of its actor
abbrev pub given_at : ℕ → ℕ → List FieldDecl → List FieldDecl
given_at place value fields = given_in place value fields (slice_get fields place)

-- the rows, where the first field with this name has this value from the init of its actor
abbrev pub with_given : Lexed → ℕ → ℕ → ℕ → Rows → Rows
with_given l actor name value r = record r { fields = given_to l actor name value r.fields }

-- One assignment of an init is read, with what separates it from the next one, and its field is given.
pub data GivesOne (s : Source) (actor : ℕ) : ℕ → ℕ → Rows → Rows → Type 0 where
  one_given : {i j k m n p : ℕ} {r : Rows} → SpellsOwn s.lexed i j → Row s.lexed (a_name ∷ a_sign sign.Assign ∷ []) j k → ReadsSuch IsPlain s k m p → Separates s.lexed m n → GivesOne s actor i n r (with_given s.lexed actor j p r)

-- The assignments of an init are read, with its closing brace, and their fields are given.
pub record GivesAll (s : Source) (actor from to : ℕ) (before after : Rows) : Type 0 where
  pub fields : List FieldDecl
  pub spelled : SpellsGiving s actor from to before.fields fields
  pub rows : after ≡ record before { fields = fields }

-- A place is 0, for none, or behind those of a table that was so long.
abbrev pub IsNew : ℕ → ℕ → Type 0
IsNew long place = 0 < place → long ≤ place

-- whether the row of a method says what has to hold of its actor
abbrev pub says_invariant : Lexed → MethodDecl → Bool
says_invariant l m = not (nat_eq m.actor nobody) && (nat_eq m.first_param m.params_end && spells_at l.text l.tokens m.name (codes "invariant"))

-- What a method says that has to hold of its actor, if anything: the value that is all of its body.
pub data SaysTest (s : Source) (made : MethodDecl) : Option ℕ → Type 0 where
  says_none : says_invariant s.lexed made ≡ false → SaysTest s made None
  says_test : {test : ℕ} → says_invariant s.lexed made ≡ true → made.is_async ≡ false → 0 < made.body → IsLoneValue s made.body test → SaysTest s made (Some test)

-- the rows with an invariant of an actor, if there is one
abbrev pub with_test : ℕ → Option ℕ → Rows → Rows
with_test actor None r = r
with_test actor (Some test) r = with_invariant actor test r
