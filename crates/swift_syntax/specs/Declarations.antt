-- Which tokens spell which declarations of a file, and which rows of its tables these are. (Own.)
use Rattle.std.specs.Prelude.{ℕ, ℤ, zero, suc, ◌≡◌, ◌≢◌, ◌<◌, ◌+◌, ◌-◌, ◌^◌, ◌&&◌, not, Bool, true, false, if◌then◌else◌, List, [], ◌∷◌, ◌++◌, codes, length, nat_eq, bytes_eq, Option, Some, None, nat_le, slice_set}
use Rattle.std.specs.List.{slice_get, slice_range}
use Rattle.swift_syntax.specs.declared.sign.Sign.TheVariants as sign
use Rattle.swift_syntax.specs.declared.token.Token.{Token}
use Rattle.swift_syntax.specs.declared.token.TokenKind.{TokenKind}
use Rattle.swift_syntax.specs.declared.token.TokenKind.TheVariants as kind
use Rattle.swift_syntax.specs.declared.tree.Access.{Access}
use Rattle.swift_syntax.specs.declared.tree.Access.TheVariants.{Open, Private}
use Rattle.swift_syntax.specs.declared.tree.ActorDecl.{ActorDecl}
use Rattle.swift_syntax.specs.declared.tree.CaseDecl.{CaseDecl}
use Rattle.swift_syntax.specs.declared.tree.ConstantDecl.{ConstantDecl}
use Rattle.swift_syntax.specs.declared.tree.ExecutorDecl.{ExecutorDecl}
use Rattle.swift_syntax.specs.declared.tree.ExecutorKindDecl.{ExecutorKindDecl}
use Rattle.swift_syntax.specs.declared.tree.ExecutorKindDecl.TheVariants.{Fifo, Priority, Pinned}
use Rattle.swift_syntax.specs.declared.tree.ExpectDecl.{ExpectDecl}
use Rattle.swift_syntax.specs.declared.tree.ExprForm.TheVariants as form
use Rattle.swift_syntax.specs.declared.tree.FieldDecl.{FieldDecl}
use Rattle.swift_syntax.specs.declared.tree.FieldStart.{FieldStart}
use Rattle.swift_syntax.specs.declared.tree.FieldStart.TheVariants as start
use Rattle.swift_syntax.specs.declared.tree.InstanceDecl.{InstanceDecl}
use Rattle.swift_syntax.specs.declared.tree.Into.TheVariants as into
use Rattle.swift_syntax.specs.declared.tree.InvariantDecl.{InvariantDecl}
use Rattle.swift_syntax.specs.declared.tree.LocalDecl.{LocalDecl}
use Rattle.swift_syntax.specs.declared.tree.MethodDecl.{MethodDecl}
use Rattle.swift_syntax.specs.declared.tree.ParamDecl.{ParamDecl}
use Rattle.swift_syntax.specs.declared.tree.Stmt.{Stmt}
use Rattle.swift_syntax.specs.declared.tree.StmtForm.{StmtForm}
use Rattle.swift_syntax.specs.declared.tree.StmtForm.TheVariants as stmt
use Rattle.swift_syntax.specs.declared.tree.Tree.{Tree}
use Rattle.swift_syntax.specs.declared.tree.ValueType.{ValueType}
use Rattle.swift_syntax.specs.declared.tree.ValueType.TheVariants as type
use Rattle.swift_syntax.specs.declared.word.Word.TheVariants as word
use Rattle.swift_syntax.specs.Expressions.{ReadsArguments, SpellsExpr, StandsAt, SwiftTree, Leaf, Negated, after, kind_at, table_of, token_at}
use Rattle.swift_syntax.specs.Statements.{IsExpr, Lexed, Row, Separates, Source, SpellsAnnotation, SpellsBlock, SpellsPerhaps, SpellsType, a_key, a_name, a_sign, begins_line, spells_at, the_word}

-- What a file declares, without its statements and expressions: the rows of its tables.
pub record Rows : Type 0 where
  pub actors : List ActorDecl
  pub fields : List FieldDecl
  pub invariants : List InvariantDecl
  pub methods : List MethodDecl
  pub params : List ParamDecl
  pub instances : List InstanceDecl
  pub constants : List ConstantDecl
  pub locals : List LocalDecl
  pub cases : List CaseDecl
  pub expectations : List ExpectDecl
  pub executors : List ExecutorDecl
  pub mains : List MethodDecl

-- the rows of a tree
abbrev pub rows_of : Tree → Rows
rows_of t = record { actors = t.actors.items; fields = t.fields.items; invariants = t.invariants.items; methods = t.methods.items; params = t.params.items; instances = t.instances.items; constants = t.constants.items; locals = t.locals.items; cases = t.cases.items; expectations = t.expectations.items; executors = t.executors.items; mains = t.mains.items }

-- no rows
abbrev pub no_rows : Rows
no_rows = record { actors = []; fields = []; invariants = []; methods = []; params = []; instances = []; constants = []; locals = []; cases = []; expectations = []; executors = []; mains = [] }

-- A literal: a number, perhaps below 0, or a truth.
pub data IsLiteral : SwiftTree → Type 0 where
  literal_number : {n : ℤ} {t : ℕ} → IsLiteral (Leaf (form.Number n) t)
  literal_truth : {b : Bool} {t : ℕ} → IsLiteral (Leaf (form.Truth b) t)
  literal_below : {n : ℤ} {t u : ℕ} → IsLiteral (Negated t (Leaf (form.Number n) u))

-- A name or a literal.
pub data IsPlain : SwiftTree → Type 0 where
  plain_name : {t : ℕ} → IsPlain (Leaf form.Name t)
  plain_literal : {v : SwiftTree} → IsLiteral v → IsPlain v

-- The tokens from a place up to another one spell an expression of which something holds, and which stands at a place of the table.
pub record ReadsSuch (Such : SwiftTree → Type 0) (s : Source) (from to place : ℕ) : Type 0 where
  pub value : SwiftTree
  pub such : Such value
  pub spelled : SpellsExpr s.lexed.tokens from to value
  pub stands : StandsAt s.table place value

-- `private`, which `(set)` takes back for reading.
pub data SpellsPrivate (l : Lexed) : ℕ → ℕ → Access → Type 0 where
  private_set : {i j : ℕ} → Row l (a_key word.Private ∷ a_sign sign.Open ∷ the_word (codes "set") ∷ a_sign sign.Close ∷ []) i j → SpellsPrivate l i j Open
  private_whole : {i j : ℕ} → Row l (a_key word.Private ∷ []) i j → SpellsPrivate l i j Private

-- Who may use a member.
pub data SpellsAccess (l : Lexed) : ℕ → ℕ → Access → Type 0 where
  restricted : {i j : ℕ} {a : Access} → SpellsPrivate l i j a → SpellsAccess l i j a
  public_restricted : {i j k : ℕ} {a : Access} → Row l (a_key word.Public ∷ []) i j → SpellsPrivate l j k a → SpellsAccess l i k a
  open_public : {i j : ℕ} → Row l (a_key word.Public ∷ []) i j → SpellsAccess l i j Open
  open_file : {i j : ℕ} → Row l (a_key word.Fileprivate ∷ []) i j → SpellsAccess l i j Open
  open_internal : {i j : ℕ} → Row l (a_key word.Internal ∷ []) i j → SpellsAccess l i j Open
  unsaid_access : {i j : ℕ} → i ≡ j → SpellsAccess l i j Open

-- Where `(set)` ends what says who may use a member, a variable follows.
abbrev pub SetsVariable : Lexed → ℕ → ℕ → Type 0
SetsVariable l i j = i < j → kind_at l.tokens (j - 1) ≡ kind.Sign sign.Close → kind_at l.tokens j ≡ kind.Key word.Var

-- the label of a parameter: its first name, but for `_`
abbrev pub label_of : Lexed → ℕ → ℕ
label_of l i = if spells_at l.text l.tokens i (codes "_") then 0 else i

-- One parameter: `NAME: T`, `LABEL NAME: T`, `_ NAME: T`.
pub data SpellsParam (l : Lexed) : ℕ → ℕ → ParamDecl → Type 0 where
  one_name : {i j k : ℕ} {t : ValueType} → Row l (a_name ∷ a_sign sign.Colon ∷ []) i j → SpellsType l j k t → SpellsParam l i k (record { label = label_of l i; name = i; value_type = t })
  two_names : {i j k : ℕ} {t : ValueType} → Row l (a_name ∷ a_name ∷ a_sign sign.Colon ∷ []) i j → SpellsType l j k t → SpellsParam l i k (record { label = label_of l i; name = after i; value_type = t })

-- Parameters with commas between them.
pub data SpellsSomeParams (l : Lexed) : ℕ → ℕ → List ParamDecl → Type 0 where
  one_param : {i j : ℕ} {p : ParamDecl} → SpellsParam l i j p → SpellsSomeParams l i j (p ∷ [])
  one_more_param : {i j k m : ℕ} {ps : List ParamDecl} {p : ParamDecl} → SpellsSomeParams l i j ps → Row l (a_sign sign.Comma ∷ []) j k → SpellsParam l k m p → SpellsSomeParams l i m (ps ++ p ∷ [])

-- Parameters behind their parenthesis, with the one that closes them.
pub data SpellsParams (l : Lexed) : ℕ → ℕ → List ParamDecl → Type 0 where
  no_params : {i j : ℕ} → Row l (a_sign sign.Close ∷ []) i j → SpellsParams l i j []
  some_params : {i j k : ℕ} {ps : List ParamDecl} → SpellsSomeParams l i j ps → Row l (a_sign sign.Close ∷ []) j k → SpellsParams l i k ps

-- `var` or `let`; the flag says which.
pub data SpellsKeeper (l : Lexed) : ℕ → ℕ → Bool → Type 0 where
  by_variable : {i j : ℕ} → Row l (a_key word.Var ∷ []) i j → SpellsKeeper l i j true
  by_constant : {i j : ℕ} → Row l (a_key word.Let ∷ []) i j → SpellsKeeper l i j false

-- The start value of a field, if one is written.
pub data SpellsStart (s : Source) : ℕ → ℕ → FieldStart → Type 0 where
  started : {i j k p : ℕ} → Row s.lexed (a_sign sign.Assign ∷ []) i j → ReadsSuch IsLiteral s j k p → SpellsStart s i k (start.Value p)
  not_started : {i j : ℕ} → kind_at s.lexed.tokens i ≢ kind.Sign sign.Assign → i ≡ j → SpellsStart s i j start.None

-- A field of an actor.
pub data SpellsField (s : Source) (actor : ℕ) (access : Access) : ℕ → ℕ → FieldDecl → Type 0 where
  a_field : {i j k m n : ℕ} {is_var : Bool} {t : Option ValueType} {x : FieldStart} → SpellsKeeper s.lexed i j is_var → Row s.lexed (a_name ∷ []) j k → SpellsAnnotation s.lexed k m t → SpellsStart s m n x → SpellsField s actor access i n (record { actor = actor; name = j; is_var = is_var; access = access; value_type = t; start = x; given = 0 })

-- the bytes of a token
abbrev pub bytes_in : List ℕ → Token → Option (List ℕ)
bytes_in text t = if nat_le t.from t.to && nat_le t.to (length text) then Some (slice_range text t.from t.to) else None

-- whether two tokens have the same bytes
abbrev pub same_bytes : Option (List ℕ) → Option (List ℕ) → Bool
same_bytes (Some a) (Some b) = bytes_eq a b
same_bytes None None = true
same_bytes _ _ = false

-- the bytes of the token at a place
abbrev pub bytes_at : Lexed → ℕ → Option (List ℕ)
bytes_at l i = bytes_in l.text (token_at l.text l.tokens i)

-- whether a field is the one of an actor with the name that a token spells
abbrev pub is_named : Lexed → ℕ → ℕ → FieldDecl → Bool
is_named l actor name f = nat_eq f.actor actor && same_bytes (bytes_at l f.name) (bytes_at l name)

-- the fields, of which the first with this name has this value from the init of its actor
unfoldable pub given_to : Lexed → ℕ → ℕ → ℕ → List FieldDecl → List FieldDecl
given_to l actor name value [] = []
given_to l actor name value (f ∷ fs) = if is_named l actor name f then record f { given = value } ∷ fs else f ∷ given_to l actor name value fs

-- `self.`, or nothing.
pub data SpellsOwn (l : Lexed) : ℕ → ℕ → Type 0 where
  behind_self : {i j : ℕ} → Row l (a_key word.Own ∷ a_sign sign.Dot ∷ []) i j → SpellsOwn l i j
  bare : {i j : ℕ} → kind_at l.tokens i ≢ kind.Key word.Own → i ≡ j → SpellsOwn l i j

-- The assignments of an init up to its closing brace: how they change the fields.
pub data SpellsGiving (s : Source) (actor : ℕ) : ℕ → ℕ → List FieldDecl → List FieldDecl → Type 0 where
  gives_no_more : {i j : ℕ} {fs : List FieldDecl} → Row s.lexed (a_sign sign.CloseBrace ∷ []) i j → SpellsGiving s actor i j fs fs
  gives_blank : {i j k : ℕ} {fs gs : List FieldDecl} → Row s.lexed (a_sign sign.Semicolon ∷ []) i j → SpellsGiving s actor j k fs gs → SpellsGiving s actor i k fs gs
  gives_one : {i j k m n o p : ℕ} {fs gs : List FieldDecl} → SpellsOwn s.lexed i j → Row s.lexed (a_name ∷ a_sign sign.Assign ∷ []) j k → ReadsSuch IsPlain s k m p → Separates s.lexed m n → SpellsGiving s actor n o (given_to s.lexed actor j p fs) gs → SpellsGiving s actor i o fs gs

-- the actors, of which the one at a place is changed, where it was found
abbrev pub changed_in : (ActorDecl → ActorDecl) → ℕ → List ActorDecl → Option ActorDecl → List ActorDecl
changed_in f place actors None = actors
changed_in f place actors (Some a) = slice_set actors place (f a)

-- the actors, of which the one at a place is changed
abbrev pub changed_at : (ActorDecl → ActorDecl) → ℕ → List ActorDecl → List ActorDecl
changed_at f place actors = changed_in f place actors (slice_get actors place)

-- an actor with an init whose parameters have these places
abbrev pub with_init : ℕ → ℕ → ActorDecl → ActorDecl
with_init first end a = record a { has_init = true; first_param = first; params_end = end }

-- an actor on the executor that a token names
abbrev pub on_executor : ℕ → ActorDecl → ActorDecl
on_executor name a = record a { executor = name }

-- The head of a method.
pub record MethodHead : Type 0 where
  pub name : ℕ
  pub params : List ParamDecl
  pub is_async : Bool
  pub is_throwing : Bool
  pub result : ValueType

-- What a method returns.
pub data SpellsResult (l : Lexed) : ℕ → ℕ → ValueType → Type 0 where
  has_type : {i j k : ℕ} {t : ValueType} → Row l (a_sign sign.Arrow ∷ []) i j → SpellsType l j k t → SpellsResult l i k t
  has_none : {i j : ℕ} → kind_at l.tokens i ≢ kind.Sign sign.Arrow → i ≡ j → SpellsResult l i j type.Void

-- The head of a method, from its `func` on.
pub data SpellsHead (l : Lexed) : ℕ → ℕ → MethodHead → Type 0 where
  a_head : {i j k m n o : ℕ} {ps : List ParamDecl} {is_async is_throwing : Bool} {t : ValueType} → Row l (a_key word.Func ∷ a_name ∷ a_sign sign.Open ∷ []) i j → SpellsParams l j k ps → SpellsPerhaps l word.Async k m is_async → SpellsPerhaps l word.Throws m n is_throwing → SpellsResult l n o t → SpellsHead l i o (record { name = after i; params = ps; is_async = is_async; is_throwing = is_throwing; result = t })

-- the row of a method with this head, whose parameters stand behind others, and whose body begins at a place and ends at a token
abbrev pub method_of : ℕ → Access → ℕ → MethodHead → ℕ → ℕ → MethodDecl
method_of actor access first h body end = record { actor = actor; name = h.name; access = access; is_async = h.is_async; is_throwing = h.is_throwing; result = h.result; first_param = first; params_end = first + length h.params; body = body; end = end }

-- what becomes of the value of a statement that is a whole body, where it is a group or a binding: it is returned
abbrev pub returned : StmtForm → StmtForm
returned (stmt.Group into.Nothing found is_throwing body) = stmt.Group into.Return found is_throwing body
returned (stmt.Bind into.Nothing of value body) = stmt.Bind into.Return of value body
returned other = other

-- the statements, of which the one at a place, where it was found, returns what it gives
abbrev pub found_returned : ℕ → List Stmt → Option Stmt → List Stmt
found_returned p xs None = xs
found_returned p xs (Some made) = if nat_eq made.next 0 then slice_set xs p (record made { form = returned made.form }) else xs

-- the statements, of which the one at a place, where it is the last of its block, returns what it gives; the place 0 stands for none
abbrev pub lone_returned : ValueType → ℕ → List Stmt → List Stmt
lone_returned type.Void p xs = xs
lone_returned _ zero xs = xs
lone_returned _ (suc p) xs = found_returned (suc p) xs (slice_get xs (suc p))

-- A body: a block; where it is one statement alone, and a value is to be returned, that one returns it.
pub record SpellsBody (s : Source) (result : ValueType) (from to place : ℕ) : Type 0 where
  pub before : List Stmt
  pub block : SpellsBlock (record s { stmts = before }) from to place
  pub after : s.stmts ≡ lone_returned result place before

-- no actor: where a function stands that is a member of none
abbrev pub nobody : ℕ
nobody = 2 ^ 64 - 1

-- whether a method says what has to hold of its actor
abbrev pub is_invariant : Lexed → ℕ → MethodHead → Bool
is_invariant l actor h = not (nat_eq actor nobody) && (nat_eq (length h.params) 0 && spells_at l.text l.tokens h.name (codes "invariant"))

-- A body of one statement alone is this value.
pub data IsLoneValue (s : Source) (body value : ℕ) : Type 0 where
  lone_let_go : {made : Stmt} → slice_get s.stmts body ≡ Some made → made.form ≡ stmt.Value into.Nothing value → made.next ≡ 0 → IsLoneValue s body value
  lone_returned_value : {made : Stmt} → slice_get s.stmts body ≡ Some made → made.form ≡ stmt.Value into.Return value → made.next ≡ 0 → IsLoneValue s body value

-- A method, from its `func` on. One that is called `invariant` and has no parameters is an invariant, too.
pub data SpellsMethod (s : Source) (actor : ℕ) (access : Access) : ℕ → ℕ → Rows → Rows → Type 0 where
  a_method : {i j k body : ℕ} {r : Rows} {h : MethodHead} → SpellsHead s.lexed i j h → SpellsBody s h.result j k body → is_invariant s.lexed actor h ≡ false → SpellsMethod s actor access i k r (record r { params = r.params ++ h.params; methods = r.methods ++ method_of actor access (length r.params) h body (k - 1) ∷ [] })
  an_invariant : {i j k body test : ℕ} {r : Rows} {h : MethodHead} → SpellsHead s.lexed i j h → SpellsBody s h.result j k body → is_invariant s.lexed actor h ≡ true → h.is_async ≡ false → IsLoneValue s body test → SpellsMethod s actor access i k r (record r { params = r.params ++ h.params; invariants = r.invariants ++ record { actor = actor; test = test } ∷ []; methods = r.methods ++ method_of actor access (length r.params) h body (k - 1) ∷ [] })

-- A member of an actor.
pub data SpellsMember (s : Source) (actor : ℕ) : ℕ → ℕ → Rows → Rows → Type 0 where
  member_invariant : {i j test : ℕ} {r : Rows} → kind_at s.lexed.tokens i ≡ kind.Invariant → IsExpr s (after i) j test → SpellsMember s actor i j r (record r { invariants = r.invariants ++ record { actor = actor; test = test } ∷ [] })
  member_init : {i j k m n : ℕ} {r : Rows} {ps : List ParamDecl} {fs : List FieldDecl} → Row s.lexed (a_key word.Init ∷ a_sign sign.Open ∷ []) i j → SpellsParams s.lexed j k ps → Row s.lexed (a_sign sign.OpenBrace ∷ []) k m → SpellsGiving s actor m n r.fields fs → SpellsMember s actor i n r (record r { params = r.params ++ ps; fields = fs; actors = changed_at (with_init (length r.params) (length r.params + length ps)) actor r.actors })
  member_executor : {i j k : ℕ} {r : Rows} → Row s.lexed (a_key word.Nonisolated ∷ a_key word.Var ∷ the_word (codes "unownedExecutor") ∷ a_sign sign.Colon ∷ the_word (codes "UnownedSerialExecutor") ∷ a_sign sign.OpenBrace ∷ []) i j → Row s.lexed (a_name ∷ a_sign sign.Dot ∷ the_word (codes "asUnownedSerialExecutor") ∷ a_sign sign.Open ∷ a_sign sign.Close ∷ a_sign sign.CloseBrace ∷ []) j k → SpellsMember s actor i k r (record r { actors = changed_at (on_executor j) actor r.actors })
  member_field : {i j k : ℕ} {r : Rows} {access : Access} {f : FieldDecl} → SpellsAccess s.lexed i j access → SetsVariable s.lexed i j → SpellsField s actor access j k f → SpellsMember s actor i k r (record r { fields = r.fields ++ f ∷ [] })
  member_method : {i j k : ℕ} {r t : Rows} {access : Access} → SpellsAccess s.lexed i j access → SetsVariable s.lexed i j → SpellsMethod s actor access j k r t → SpellsMember s actor i k r t

-- Members of an actor up to its closing brace: how they change the rows.
pub data SpellsMembers (s : Source) (actor : ℕ) : ℕ → ℕ → Rows → Rows → Type 0 where
  members_end : {i j : ℕ} {r : Rows} → Row s.lexed (a_sign sign.CloseBrace ∷ []) i j → SpellsMembers s actor i j r r
  members_blank : {i j k : ℕ} {r t : Rows} → Row s.lexed (a_sign sign.Semicolon ∷ []) i j → SpellsMembers s actor j k r t → SpellsMembers s actor i k r t
  members_more : {i j k m : ℕ} {r t u : Rows} → SpellsMember s actor i j r t → Separates s.lexed j k → SpellsMembers s actor k m t u → SpellsMembers s actor i m r u

-- an actor of which nothing but the name is known yet
abbrev pub named_actor : ℕ → ActorDecl
named_actor name = record { name = name; executor = 0; has_init = false; first_param = 0; params_end = 0 }

-- An actor, from its keyword on.
pub data SpellsActor (s : Source) : ℕ → ℕ → Rows → Rows → Type 0 where
  an_actor : {i j k : ℕ} {r t : Rows} → Row s.lexed (a_key word.Actor ∷ a_name ∷ a_sign sign.OpenBrace ∷ []) i j → SpellsMembers s (length r.actors) j k (record r { actors = r.actors ++ named_actor (after i) ∷ [] }) t → SpellsActor s i k r t

-- A case of an enum of errors whose first case has this place in the table.
pub data SpellsCase (l : Lexed) (of first : ℕ) : ℕ → ℕ → Rows → Rows → Type 0 where
  a_case : {i j : ℕ} {r : Rows} → Row l (a_name ∷ []) i j → SpellsCase l of first i j r (record r { cases = r.cases ++ record { of = of; name = i; place = length r.cases - first } ∷ [] })

-- Cases with commas between them.
pub data SpellsSomeCases (l : Lexed) (of first : ℕ) : ℕ → ℕ → Rows → Rows → Type 0 where
  last_case : {i j : ℕ} {r t : Rows} → SpellsCase l of first i j r t → kind_at l.tokens j ≢ kind.Sign sign.Comma → SpellsSomeCases l of first i j r t
  one_more_case : {i j k m : ℕ} {r t u : Rows} → SpellsCase l of first i j r t → Row l (a_sign sign.Comma ∷ []) j k → SpellsSomeCases l of first k m t u → SpellsSomeCases l of first i m r u

-- The lines of an enum of errors up to its closing brace.
pub data SpellsCases (l : Lexed) (of first : ℕ) : ℕ → ℕ → Rows → Rows → Type 0 where
  cases_end : {i j : ℕ} {r : Rows} → Row l (a_sign sign.CloseBrace ∷ []) i j → SpellsCases l of first i j r r
  cases_blank : {i j k : ℕ} {r t : Rows} → Row l (a_sign sign.Semicolon ∷ []) i j → SpellsCases l of first j k r t → SpellsCases l of first i k r t
  cases_line : {i j k m n : ℕ} {r t u : Rows} → Row l (a_key word.Case ∷ []) i j → SpellsSomeCases l of first j k r t → Separates l k m → SpellsCases l of first m n t u → SpellsCases l of first i n r u

-- A task local.
pub data SpellsLocal (s : Source) (of : ℕ) : ℕ → ℕ → Rows → Rows → Type 0 where
  a_local : {i j k m n o p : ℕ} {r : Rows} {t : Option ValueType} → Row s.lexed (a_sign sign.At ∷ the_word (codes "TaskLocal") ∷ a_key word.Static ∷ a_key word.Var ∷ []) i j → Row s.lexed (a_name ∷ []) j k → SpellsAnnotation s.lexed k m t → Row s.lexed (a_sign sign.Assign ∷ []) m n → ReadsSuch IsLiteral s n o p → SpellsLocal s of i o r (record r { locals = r.locals ++ record { of = of; name = j; value_type = t; value = p } ∷ [] })

-- Task locals up to the closing brace of their enum.
pub data SpellsLocals (s : Source) (of : ℕ) : ℕ → ℕ → Rows → Rows → Type 0 where
  locals_end : {i j : ℕ} {r : Rows} → Row s.lexed (a_sign sign.CloseBrace ∷ []) i j → SpellsLocals s of i j r r
  locals_blank : {i j k : ℕ} {r t : Rows} → Row s.lexed (a_sign sign.Semicolon ∷ []) i j → SpellsLocals s of j k r t → SpellsLocals s of i k r t
  locals_more : {i j k m : ℕ} {r t u : Rows} → SpellsLocal s of i j r t → Separates s.lexed j k → SpellsLocals s of k m t u → SpellsLocals s of i m r u

-- The kind of an executor.
pub data SpellsKind (l : Lexed) : ℕ → ℕ → ExecutorKindDecl → Type 0 where
  kind_fifo : {i j : ℕ} → Row l (the_word (codes "fifo") ∷ []) i j → SpellsKind l i j Fifo
  kind_priority : {i j : ℕ} → Row l (the_word (codes "priority") ∷ []) i j → SpellsKind l i j Priority
  kind_pinned : {i j : ℕ} {n : ℤ} → Row l (the_word (codes "pinned") ∷ []) i j → kind_at l.tokens j ≡ kind.Number n → SpellsKind l i (after j) (Pinned n)

-- What the class of an executor may say of being sent.
pub data SpellsSendable (l : Lexed) : ℕ → ℕ → Type 0 where
  unchecked : {i j : ℕ} → Row l (a_sign sign.Comma ∷ a_sign sign.At ∷ the_word (codes "unchecked") ∷ the_word (codes "Sendable") ∷ []) i j → SpellsSendable l i j
  unsaid_sendable : {i j : ℕ} → kind_at l.tokens i ≢ kind.Sign sign.Comma → i ≡ j → SpellsSendable l i j

-- how many braces are open behind a token
abbrev pub open_behind : TokenKind → ℕ → ℕ
open_behind (kind.Sign sign.OpenBrace) n = after n
open_behind (kind.Sign sign.CloseBrace) n = n - 1
open_behind _ n = n

-- Tokens up to the one behind which no more of so many braces are open. They are not read.
pub data SpellsBalanced (l : Lexed) : ℕ → ℕ → ℕ → Type 0 where
  balanced_last : {n_open i : ℕ} → kind_at l.tokens i ≢ kind.End → open_behind (kind_at l.tokens i) n_open ≡ 0 → SpellsBalanced l n_open i (after i)
  balanced_more : {n_open i j : ℕ} → kind_at l.tokens i ≢ kind.End → open_behind (kind_at l.tokens i) n_open ≢ 0 → SpellsBalanced l (open_behind (kind_at l.tokens i) n_open) (after i) j → SpellsBalanced l n_open i j

-- `struct` or `enum`.
pub data SpellsHolder (l : Lexed) : ℕ → ℕ → Type 0 where
  by_struct : {i j : ℕ} → Row l (a_key word.Struct ∷ []) i j → SpellsHolder l i j
  by_enum : {i j : ℕ} → Row l (a_key word.Enum ∷ []) i j → SpellsHolder l i j

-- `main`, from `static` on, of the type of this name.
pub data SpellsMain (s : Source) (of : ℕ) : ℕ → ℕ → Rows → Rows → Type 0 where
  a_main : {i j k m body : ℕ} {r : Rows} {h : MethodHead} → Row s.lexed (a_key word.Static ∷ []) i j → SpellsHead s.lexed j k h → spells_at s.lexed.text s.lexed.tokens h.name (codes "main") ≡ true → h.is_async ≡ true → h.is_throwing ≡ false → SpellsBlock s k m body → SpellsMain s of i m r (record r { params = r.params ++ h.params; mains = r.mains ++ method_of nobody Open (length r.params) (record h { name = of }) body (m - 1) ∷ [] })

-- An instance of this name, from that of its actor or executor on.
pub data SpellsInstance (s : Source) (name : ℕ) : ℕ → ℕ → Rows → Rows → Type 0 where
  an_instance : {i j k first : ℕ} {r : Rows} → Row s.lexed (a_name ∷ a_sign sign.Open ∷ []) i j → ReadsArguments s.lexed.tokens s.table j k first → SpellsInstance s name i k r (record r { instances = r.instances ++ record { name = name; of = i; arguments = first } ∷ [] })

-- An import.
pub data SpellsImport (l : Lexed) : ℕ → ℕ → Type 0 where
  imports_dispatch : {i j : ℕ} → Row l (a_key word.Import ∷ the_word (codes "Dispatch") ∷ []) i j → SpellsImport l i j
  imports_foundation : {i j : ℕ} → Row l (a_key word.Import ∷ the_word (codes "Foundation") ∷ []) i j → SpellsImport l i j

-- A declaration: how it changes the rows.
pub data SpellsDeclaration (s : Source) : ℕ → ℕ → Rows → Rows → Type 0 where
  decl_import : {i j : ℕ} {r : Rows} → SpellsImport s.lexed i j → SpellsDeclaration s i j r r
  decl_faults : {i j k : ℕ} {r t : Rows} → Row s.lexed (a_key word.Enum ∷ a_name ∷ a_sign sign.Colon ∷ the_word (codes "Error") ∷ a_sign sign.OpenBrace ∷ []) i j → SpellsCases s.lexed (after i) (length r.cases) j k r t → SpellsDeclaration s i k r t
  decl_locals : {i j k : ℕ} {r t : Rows} → Row s.lexed (a_key word.Enum ∷ a_name ∷ a_sign sign.OpenBrace ∷ []) i j → SpellsLocals s (after i) j k r t → SpellsDeclaration s i k r t
  decl_executor : {i j k m n : ℕ} {r : Rows} {of : ExecutorKindDecl} → kind_at s.lexed.tokens i ≡ kind.Executor → SpellsKind s.lexed (after i) j of → begins_line s.lexed j ≡ true → Row s.lexed (a_key word.Final ∷ a_key word.Class ∷ a_name ∷ a_sign sign.Colon ∷ the_word (codes "SerialExecutor") ∷ []) j k → SpellsSendable s.lexed k m → kind_at s.lexed.tokens m ≡ kind.Sign sign.OpenBrace → SpellsBalanced s.lexed 0 m n → SpellsDeclaration s i n r (record r { executors = r.executors ++ record { name = after (after j); kind = of } ∷ [] })
  decl_expectation : {i j test : ℕ} {r : Rows} → kind_at s.lexed.tokens i ≡ kind.Expect → IsExpr s (after i) j test → SpellsDeclaration s i j r (record r { expectations = r.expectations ++ record { token = i; test = test } ∷ [] })
  decl_instance : {i j k m n : ℕ} {r u : Rows} {t : Option ValueType} → Row s.lexed (a_key word.Let ∷ a_name ∷ []) i j → SpellsAnnotation s.lexed j k t → Row s.lexed (a_sign sign.Assign ∷ []) k m → SpellsInstance s (after i) m n r u → SpellsDeclaration s i n r u
  decl_constant : {i j k m n p : ℕ} {r : Rows} {t : Option ValueType} → Row s.lexed (a_key word.Let ∷ a_name ∷ []) i j → SpellsAnnotation s.lexed j k t → Row s.lexed (a_sign sign.Assign ∷ []) k m → ReadsSuch IsLiteral s m n p → SpellsDeclaration s i n r (record r { constants = r.constants ++ record { name = after i; value_type = t; value = p } ∷ [] })
  decl_main : {i j k m n o : ℕ} {r t : Rows} → Row s.lexed (a_sign sign.At ∷ the_word (codes "main") ∷ []) i j → SpellsHolder s.lexed j k → Row s.lexed (a_name ∷ a_sign sign.OpenBrace ∷ []) k m → SpellsMain s k m n r t → Row s.lexed (a_sign sign.CloseBrace ∷ []) n o → SpellsDeclaration s i o r t
  decl_actor : {i j : ℕ} {r t : Rows} → SpellsActor s i j r t → SpellsDeclaration s i j r t
  decl_final_actor : {i j k : ℕ} {r t : Rows} → Row s.lexed (a_key word.Final ∷ []) i j → SpellsActor s j k r t → SpellsDeclaration s i k r t
  decl_function : {i j k : ℕ} {r t : Rows} {access : Access} → SpellsAccess s.lexed i j access → SpellsMethod s nobody Open j k r t → SpellsDeclaration s i k r t

-- Declarations up to the end of the text: how they change the rows.
pub data SpellsDeclarations (s : Source) : ℕ → Rows → Rows → Type 0 where
  decls_end : {i : ℕ} {r : Rows} → kind_at s.lexed.tokens i ≡ kind.End → SpellsDeclarations s i r r
  decls_blank : {i j : ℕ} {r t : Rows} → Row s.lexed (a_sign sign.Semicolon ∷ []) i j → SpellsDeclarations s j r t → SpellsDeclarations s i r t
  decls_more : {i j k : ℕ} {r t u : Rows} → SpellsDeclaration s i j r t → Separates s.lexed j k → SpellsDeclarations s k t u → SpellsDeclarations s i r u

-- a text with its tokens, and what a tree has of expressions and statements
abbrev pub source_in : List ℕ → List Token → Tree → Source
source_in text tokens tree = record { lexed = record { text = text; tokens = tokens }; table = table_of tree; stmts = tree.stmts.items }

-- The tokens of a text spell a tree: from the first to the last they are its declarations.
abbrev pub SpellsFile : List ℕ → List Token → Tree → Type 0
SpellsFile text tokens tree = SpellsDeclarations (source_in text tokens tree) 0 no_rows (rows_of tree)
