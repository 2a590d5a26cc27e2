-- Which tokens spell which statement and which block of a tree. (Own.)
use Rattle.std.specs.Prelude.{ℕ, ◌≡◌, ◌≢◌, ◌<◌, Bool, true, false, ◌&&◌, bytes_eq, codes, length, List, [], ◌∷◌, nat_le, Option, Some, None}
use Rattle.std.specs.List.{slice_get, slice_range}
use Rattle.swift_syntax.specs.Expressions.{Reads, Table, SpellsExpr, SpellsOperands, after, kind_at, token_at}
use Rattle.swift_syntax.specs.declared.closure.ClosureHead.{ClosureHead}
use Rattle.swift_syntax.specs.declared.closure.HeadForm.{HeadForm}
use Rattle.swift_syntax.specs.declared.closure.HeadForm.TheVariants as head
use Rattle.swift_syntax.specs.declared.sign.Sign.{Sign}
use Rattle.swift_syntax.specs.declared.sign.Sign.TheVariants as sign
use Rattle.swift_syntax.specs.declared.token.Token.{Token}
use Rattle.swift_syntax.specs.declared.token.TokenKind.{TokenKind}
use Rattle.swift_syntax.specs.declared.token.TokenKind.TheVariants as kind
use Rattle.swift_syntax.specs.declared.tree.Assigning.{Assigning}
use Rattle.swift_syntax.specs.declared.tree.Assigning.TheVariants as assigning
use Rattle.swift_syntax.specs.declared.tree.ExprForm.TheVariants as expr
use Rattle.swift_syntax.specs.declared.tree.Into.{Into}
use Rattle.swift_syntax.specs.declared.tree.Into.TheVariants as into
use Rattle.swift_syntax.specs.declared.tree.Stmt.{Stmt}
use Rattle.swift_syntax.specs.declared.tree.StmtForm.{StmtForm}
use Rattle.swift_syntax.specs.declared.tree.StmtForm.TheVariants as form
use Rattle.swift_syntax.specs.declared.tree.ValueType.{ValueType}
use Rattle.swift_syntax.specs.declared.tree.ValueType.TheVariants as types
use Rattle.swift_syntax.specs.declared.word.Word.{Word}
use Rattle.swift_syntax.specs.declared.word.Word.TheVariants as word

-- A text with its tokens.
pub record Lexed : Type 0 where
  pub text : List ℕ
  pub tokens : List Token

-- A text with its tokens, and the expressions and statements that were read of it.
pub record Source : Type 0 where
  pub lexed : Lexed
  pub table : Table
  pub stmts : List Stmt

-- whether a token is a name of these bytes
abbrev pub spells_in : List ℕ → Token → TokenKind → List ℕ → Bool
spells_in text t kind.Name name = nat_le t.from t.to && nat_le t.to (length text) && bytes_eq (slice_range text t.from t.to) name
spells_in text t _ name = false

-- whether the token at a place is a name of these bytes
abbrev pub spells_at : List ℕ → List Token → ℕ → List ℕ → Bool
spells_at text tokens i name = spells_in text (token_at text tokens i) (kind_at tokens i) name

-- what is wanted of a token: a sign, a keyword, a name, or the name of these bytes
pub data Want : Type 0 where
  a_sign : Sign → Want
  a_key : Word → Want
  a_name : Want
  the_word : List ℕ → Want

-- The token at a place is what is wanted.
abbrev pub Is : Lexed → ℕ → Want → Type 0
Is l i (a_sign x) = kind_at l.tokens i ≡ kind.Sign x
Is l i (a_key x) = kind_at l.tokens i ≡ kind.Key x
Is l i a_name = kind_at l.tokens i ≡ kind.Name
Is l i (the_word name) = spells_at l.text l.tokens i name ≡ true

-- The tokens from a place up to another one are those that are wanted, in order.
pub data Row (l : Lexed) : List Want → ℕ → ℕ → Type 0 where
  no_token : {i j : ℕ} → i ≡ j → Row l [] i j
  next_token : {i j : ℕ} {x : Want} {xs : List Want} → Is l i x → Row l xs (after i) j → Row l (x ∷ xs) i j

-- whether the token at a place is the first one on its line
abbrev pub begins_line : Lexed → ℕ → Bool
begins_line l i = (token_at l.text l.tokens i).begins_line

-- A type.
pub data SpellsType (l : Lexed) : ℕ → ℕ → ValueType → Type 0 where
  int : {i j : ℕ} → Row l (the_word (codes "Int") ∷ []) i j → SpellsType l i j types.Int
  bool : {i j : ℕ} → Row l (the_word (codes "Bool") ∷ []) i j → SpellsType l i j types.Bool
  void : {i j : ℕ} → Row l (the_word (codes "Void") ∷ []) i j → SpellsType l i j types.Void
  unit : {i j : ℕ} → Row l (a_sign sign.Open ∷ a_sign sign.Close ∷ []) i j → SpellsType l i j types.Void

-- Perhaps a type behind a colon.
pub data SpellsAnnotation (l : Lexed) : ℕ → ℕ → Option ValueType → Type 0 where
  no_type : {i j : ℕ} → kind_at l.tokens i ≢ kind.Sign sign.Colon → i ≡ j → SpellsAnnotation l i j None
  typed : {i j k : ℕ} {t : ValueType} → Row l (a_sign sign.Colon ∷ []) i j → SpellsType l j k t → SpellsAnnotation l i k (Some t)

-- Perhaps a keyword.
pub data SpellsPerhaps (l : Lexed) (x : Word) : ℕ → ℕ → Bool → Type 0 where
  missing : {i j : ℕ} → kind_at l.tokens i ≢ kind.Key x → i ≡ j → SpellsPerhaps l x i j false
  there : {i j : ℕ} → Row l (a_key x ∷ []) i j → SpellsPerhaps l x i j true

-- What separates statements: `;`, a new line, or the end of the block.
pub data Separates (l : Lexed) : ℕ → ℕ → Type 0 where
  semicolon : {i j : ℕ} → Row l (a_sign sign.Semicolon ∷ []) i j → Separates l i j
  new_line : {i j : ℕ} → begins_line l i ≡ true → i ≡ j → Separates l i j
  before_brace : {i j : ℕ} → kind_at l.tokens i ≡ kind.Sign sign.CloseBrace → i ≡ j → Separates l i j

-- whether nothing is returned where a token follows `return`
abbrev pub ends_return : TokenKind → Bool
ends_return (kind.Sign sign.CloseBrace) = true
ends_return (kind.Sign sign.Semicolon) = true
ends_return _ = false

-- how a token assigns
abbrev pub assigning_in : TokenKind → Option Assigning
assigning_in (kind.Sign sign.Assign) = Some assigning.Set
assigning_in (kind.Sign sign.AddAssign) = Some assigning.Add
assigning_in (kind.Sign sign.SubtractAssign) = Some assigning.Subtract
assigning_in (kind.Sign sign.MultiplyAssign) = Some assigning.Multiply
assigning_in _ = None

-- A name that is declared, perhaps with a type, and its `=`.
pub data SpellsDeclared (l : Lexed) : ℕ → ℕ → ℕ → Option ValueType → Type 0 where
  declared : {i j k m : ℕ} {t : Option ValueType} → Row l (a_name ∷ []) i j → SpellsAnnotation l j k t → Row l (a_sign sign.Assign ∷ []) k m → SpellsDeclared l i m i t

-- What becomes of a value, before it.
pub data SpellsInto (l : Lexed) : ℕ → ℕ → Into → Type 0 where
  by_let : {i j k name : ℕ} {t : Option ValueType} → Row l (a_key word.Let ∷ []) i j → SpellsDeclared l j k name t → SpellsInto l i k (into.Let name t)
  by_var : {i j k name : ℕ} {t : Option ValueType} → Row l (a_key word.Var ∷ []) i j → SpellsDeclared l j k name t → SpellsInto l i k (into.Var name t)
  by_return : {i j : ℕ} → Row l (a_key word.Return ∷ []) i j → begins_line l j ≡ false → SpellsInto l i j into.Return
  by_name : {i j : ℕ} → Row l (a_name ∷ a_sign sign.Assign ∷ []) i j → SpellsInto l i j (into.Assign i)
  let_go : {i j : ℕ} → Row l (the_word (codes "_") ∷ a_sign sign.Assign ∷ []) i j → SpellsInto l i j into.Nothing
  not_kept : {i j : ℕ} → kind_at l.tokens (after i) ≢ kind.Sign sign.Assign → i ≡ j → SpellsInto l i j into.Nothing

-- the token that a value is told by, where its statement begins at a place
abbrev pub token_of : Into → ℕ → ℕ
token_of (into.Let name t) i = name
token_of (into.Var name t) i = name
token_of (into.Assign name) i = name
token_of _ i = i

-- What is assigned: a field behind `self.` where the flag says so, or a name.
pub data SpellsTarget (l : Lexed) : ℕ → ℕ → Bool → Type 0 where
  own : {i j : ℕ} → Row l (a_key word.Own ∷ a_sign sign.Dot ∷ []) i j → SpellsTarget l i j true
  plain : {i j : ℕ} → i ≡ j → SpellsTarget l i j false

-- `..<` or `...`; the flag says whether the end is taken too.
pub data SpellsRange (l : Lexed) : ℕ → ℕ → Bool → Type 0 where
  below : {i j : ℕ} → Row l (a_sign sign.Below ∷ []) i j → SpellsRange l i j false
  through : {i j : ℕ} → Row l (a_sign sign.Through ∷ []) i j → SpellsRange l i j true

-- `let NAME = await GROUP.next()`, perhaps with `try`, with the tokens of the name and of the group.
pub data SpellsNext (l : Lexed) : ℕ → ℕ → ℕ → ℕ → Bool → Type 0 where
  next_of : {i j k m n o : ℕ} {tried : Bool} → Row l (a_key word.Let ∷ []) i j → Row l (a_name ∷ a_sign sign.Assign ∷ []) j k → SpellsPerhaps l word.Try k m tried → Row l (a_key word.Await ∷ []) m n → Row l (a_name ∷ a_sign sign.Dot ∷ the_word (codes "next") ∷ a_sign sign.Open ∷ a_sign sign.Close ∷ []) n o → SpellsNext l i o j n tried

-- Perhaps a priority in parentheses, with its token, or 0.
pub data SpellsPriority (l : Lexed) : ℕ → ℕ → ℕ → Type 0 where
  no_priority : {i j : ℕ} → kind_at l.tokens i ≢ kind.Sign sign.Open → i ≡ j → SpellsPriority l i j 0
  of_priority : {i j k : ℕ} → Row l (a_sign sign.Open ∷ the_word (codes "priority") ∷ a_sign sign.Colon ∷ a_sign sign.Dot ∷ []) i j → Row l (a_name ∷ a_sign sign.Close ∷ []) j k → SpellsPriority l i k j

-- Names with commas between them, and `] in`.
pub data SpellsNames (l : Lexed) : ℕ → ℕ → List ℕ → Type 0 where
  last_name : {i j : ℕ} → Row l (a_name ∷ a_sign sign.CloseBracket ∷ a_key word.In ∷ []) i j → SpellsNames l i j (i ∷ [])
  one_name : {i j k : ℕ} {names : List ℕ} → Row l (a_name ∷ a_sign sign.Comma ∷ []) i j → SpellsNames l j k names → SpellsNames l i k (i ∷ names)

-- The names of a list stand among the arguments from a place on, each with the place of the next one, and without a value.
pub data NamesFrom (x : Table) : ℕ → List ℕ → Type 0 where
  no_name : NamesFrom x 0 []
  name_from : {p next name : ℕ} {names : List ℕ} → p ≢ 0 → slice_get x.arguments p ≡ Some (record { label = name; value = 0; next = next }) → NamesFrom x next names → NamesFrom x p (name ∷ names)

-- The brace of a closure, on the line of what stands before it, with its list of names or its parameter: where the names of the list stand,
-- and the parameter's token, each 0 where there is none.
pub data SpellsFront (s : Source) : ℕ → ℕ → ℕ → ℕ → Type 0 where
  listed : {i j k first : ℕ} {names : List ℕ} → begins_line s.lexed i ≡ false → Row s.lexed (a_sign sign.OpenBrace ∷ a_sign sign.OpenBracket ∷ []) i j → SpellsNames s.lexed j k names → NamesFrom s.table first names → SpellsFront s i k first 0
  with_parameter : {i j k : ℕ} → begins_line s.lexed i ≡ false → Row s.lexed (a_sign sign.OpenBrace ∷ []) i j → Row s.lexed (a_name ∷ a_key word.In ∷ []) j k → SpellsFront s i k 0 j
  without : {i j : ℕ} → begins_line s.lexed i ≡ false → Row s.lexed (a_sign sign.OpenBrace ∷ []) i j → SpellsFront s i j 0 0

-- The type of the results of a group, in parentheses.
pub data SpellsGroup (l : Lexed) : ℕ → ℕ → ValueType → Type 0 where
  group_of : {i j k m : ℕ} {t : ValueType} → Row l (a_sign sign.Open ∷ the_word (codes "of") ∷ a_sign sign.Colon ∷ []) i j → SpellsType l j k t → Row l (a_sign sign.Dot ∷ a_key word.Own ∷ a_sign sign.Close ∷ []) k m → SpellsGroup l i m t

-- what a closure becomes behind its head, and where its value goes
abbrev pub closed_form : HeadForm → Into → ℕ → ℕ → StmtForm
closed_form (head.Task is_own p) (into.Let name t) captures body = form.Task name (record { is_detached = is_own; priority = p; body = body; captures = captures })
closed_form (head.Task is_own p) x captures body = form.Task 0 (record { is_detached = is_own; priority = p; body = body; captures = captures })
closed_form (head.Add is_only p) x captures body = form.AddTask is_only (record { is_detached = false; priority = p; body = body; captures = captures })
closed_form (head.Group t is_throwing) x captures body = form.Group x t is_throwing body
closed_form (head.Bind of value) x captures body = form.Bind x of value body

-- the token that it is told by: its head's, or the name of its group
abbrev pub closed_token : HeadForm → ℕ → ℕ → ℕ
closed_token (head.Group t is_throwing) own_token parameter = parameter
closed_token h own_token parameter = own_token

-- The tokens from a place up to another one spell the expression at a place of the table.
abbrev pub IsExpr : Source → ℕ → ℕ → ℕ → Type 0
IsExpr s i j p = Reads (SpellsExpr s.lexed.tokens) s.table i j p

-- The same of a sum, at an end of a range.
abbrev pub IsSum : Source → ℕ → ℕ → ℕ → Type 0
IsSum s i j p = Reads (SpellsOperands s.lexed.tokens 4) s.table i j p

-- Expressions with commas between them, up to one of these.
pub data SpellsTests (s : Source) : ℕ → ℕ → ℕ → Type 0 where
  one_test : {i j p : ℕ} → IsExpr s i j p → SpellsTests s i j p
  next_test : {i j k m p q r : ℕ} → SpellsTests s i j p → Row s.lexed (a_sign sign.Comma ∷ []) j k → IsExpr s k m q → slice_get s.table.exprs r ≡ Some (record { form = expr.Both p q; token = j }) → SpellsTests s i m r

-- What stands between `if`, `guard` or `while` and its block: all of them.
abbrev pub IsTest : Source → ℕ → ℕ → ℕ → Type 0
IsTest s i j p = SpellsTests s i j p × (kind_at s.lexed.tokens j ≢ kind.Sign sign.Comma)

-- What stands before a closure, with its token.
pub data SpellsHead (s : Source) : ℕ → ℕ → HeadForm → ℕ → Type 0 where
  task : {i j k p : ℕ} → Row s.lexed (the_word (codes "Task") ∷ []) i j → SpellsPriority s.lexed j k p → SpellsHead s i k (head.Task false p) i
  detached : {i j k p : ℕ} → Row s.lexed (the_word (codes "Task") ∷ a_sign sign.Dot ∷ the_word (codes "detached") ∷ []) i j → SpellsPriority s.lexed j k p → SpellsHead s i k (head.Task true p) i
  add : {i j k m p : ℕ} → Row s.lexed (a_name ∷ a_sign sign.Dot ∷ []) i j → Row s.lexed (the_word (codes "addTask") ∷ []) j k → SpellsPriority s.lexed k m p → SpellsHead s i m (head.Add false p) i
  add_only : {i j k m p : ℕ} → Row s.lexed (a_name ∷ a_sign sign.Dot ∷ []) i j → Row s.lexed (the_word (codes "addTaskUnlessCancelled") ∷ []) j k → SpellsPriority s.lexed k m p → SpellsHead s i m (head.Add true p) i
  group : {i j k : ℕ} {t : ValueType} → Row s.lexed (the_word (codes "withTaskGroup") ∷ []) i j → SpellsGroup s.lexed j k t → SpellsHead s i k (head.Group t false) i
  throwing_group : {i j k : ℕ} {t : ValueType} → Row s.lexed (the_word (codes "withThrowingTaskGroup") ∷ []) i j → SpellsGroup s.lexed j k t → SpellsHead s i k (head.Group t true) i
  bind : {i j k m n value : ℕ} → Row s.lexed (a_name ∷ a_sign sign.Dot ∷ a_sign sign.Dollar ∷ []) i j → Row s.lexed (a_name ∷ a_sign sign.Dot ∷ the_word (codes "withValue") ∷ a_sign sign.Open ∷ []) j k → IsExpr s k m value → Row s.lexed (a_sign sign.Close ∷ []) m n → SpellsHead s i n (head.Bind i value) j

-- The same behind `try` and `await`, where the flags say so.
pub data SpellsCovered (s : Source) : ℕ → ℕ → ClosureHead → Type 0 where
  covered : {i j k m token : ℕ} {tried awaited : Bool} {h : HeadForm} → SpellsPerhaps s.lexed word.Try i j tried → SpellsPerhaps s.lexed word.Await j k awaited → SpellsHead s k m h token → SpellsCovered s i m (record { form = h; token = token; is_awaited = awaited; is_tried = tried })

-- The tokens from a place up to another one spell what stands at a place of the tables.
mutual
  -- A statement of a form, with the token that it is told by, and with `await` and `try` before its closure where the flags say so.
  pub data SpellsStmt (s : Source) : ℕ → ℕ → StmtForm → ℕ → Bool → Bool → Type 0 where
    valued : {i j k v : ℕ} {x : Into} → SpellsInto s.lexed i j x → IsExpr s j k v → SpellsStmt s i k (form.Value x v) (token_of x i) false false
    enclosed : {i j k m n captures parameter body : ℕ} {x : Into} {h : ClosureHead} → SpellsInto s.lexed i j x → SpellsCovered s j k h → SpellsFront s k m captures parameter → SpellsRest s m n body → SpellsStmt s i n (closed_form h.form x captures body) (closed_token h.form h.token parameter) h.is_awaited h.is_tried
    assigned : {i j k m n v : ℕ} {own : Bool} {how : Assigning} → SpellsTarget s.lexed i j own → Row s.lexed (a_name ∷ []) j k → assigning_in (kind_at s.lexed.tokens k) ≡ Some how → after k ≡ m → IsExpr s m n v → SpellsStmt s i n (form.Assign how own v) j false false
    toggled : {i j k : ℕ} {own : Bool} → SpellsTarget s.lexed i j own → Row s.lexed (a_name ∷ a_sign sign.Dot ∷ the_word (codes "toggle") ∷ a_sign sign.Open ∷ a_sign sign.Close ∷ []) j k → SpellsStmt s i k (form.Toggle own) j false false
    returned : {i j : ℕ} → Row s.lexed (a_key word.Return ∷ []) i j → ends_return (kind_at s.lexed.tokens j) ≡ true → SpellsStmt s i j form.Return i false false
    thrown : {i j k v : ℕ} → Row s.lexed (a_key word.Throw ∷ []) i j → begins_line s.lexed j ≡ false → IsExpr s j k v → SpellsStmt s i k (form.Throw v) i false false
    async_let : {i j k m name v : ℕ} {t : Option ValueType} → Row s.lexed (a_key word.Async ∷ a_key word.Let ∷ []) i j → SpellsDeclared s.lexed j k name t → IsExpr s k m v → SpellsStmt s i m (form.AsyncLet t v) name false false
    if_else : {i j k m n test held failed : ℕ} → Row s.lexed (a_key word.If ∷ []) i j → IsTest s j k test → SpellsBlock s k m held → SpellsElse s m n failed → SpellsStmt s i n (form.If test held failed) i false false
    guard : {i j k m n test body : ℕ} → Row s.lexed (a_key word.Guard ∷ []) i j → IsTest s j k test → Row s.lexed (a_key word.Else ∷ []) k m → SpellsBlock s m n body → SpellsStmt s i n (form.Guard test body) i false false
    while_test : {i j k m test body : ℕ} → Row s.lexed (a_key word.While ∷ []) i j → IsTest s j k test → SpellsBlock s k m body → SpellsStmt s i m (form.While test body) i false false
    while_next : {i j k m name group body : ℕ} {tried : Bool} → Row s.lexed (a_key word.While ∷ []) i j → SpellsNext s.lexed j k name group tried → SpellsBlock s k m body → SpellsStmt s i m (form.WhileNext group tried body) name false false
    for_range : {i j k m n o q from to body : ℕ} {closed : Bool} → Row s.lexed (a_key word.For ∷ []) i j → Row s.lexed (a_name ∷ a_key word.In ∷ []) j k → IsSum s k m from → SpellsRange s.lexed m n closed → IsSum s n o to → SpellsBlock s o q body → SpellsStmt s i q (form.For from to closed body) j false false
    for_await : {i j k m n o q body : ℕ} {tried : Bool} → Row s.lexed (a_key word.For ∷ []) i j → SpellsPerhaps s.lexed word.Try j k tried → Row s.lexed (a_key word.Await ∷ []) k m → Row s.lexed (a_name ∷ a_key word.In ∷ []) m n → Row s.lexed (a_name ∷ []) n o → SpellsBlock s o q body → SpellsStmt s i q (form.ForAwait n tried body) m false false
    do_catch : {i j k m n body caught : ℕ} → Row s.lexed (a_key word.Do ∷ []) i j → SpellsBlock s j k body → Row s.lexed (a_key word.Catch ∷ []) k m → SpellsBlock s m n caught → SpellsStmt s i n (form.DoCatch body caught) i false false

  -- Perhaps an `else`: what stands in its block, or the `if` behind it.
  pub data SpellsElse (s : Source) : ℕ → ℕ → ℕ → Type 0 where
    no_else : {i j : ℕ} → kind_at s.lexed.tokens i ≢ kind.Key word.Else → i ≡ j → SpellsElse s i j 0
    else_block : {i j k p : ℕ} → Row s.lexed (a_key word.Else ∷ []) i j → SpellsBlock s j k p → SpellsElse s i k p
    else_if : {i j k p : ℕ} {made : Stmt} → Row s.lexed (a_key word.Else ∷ []) i j → kind_at s.lexed.tokens j ≡ kind.Key word.If → SpellsStmt s j k made.form made.token made.is_awaited made.is_tried → slice_get s.stmts p ≡ Some made → 0 < p → made.end ≡ k → made.next ≡ 0 → SpellsElse s i k p

  -- A block: the place of its first statement, or 0.
  pub data SpellsBlock (s : Source) : ℕ → ℕ → ℕ → Type 0 where
    opened : {i j k p : ℕ} → Row s.lexed (a_sign sign.OpenBrace ∷ []) i j → SpellsRest s j k p → SpellsBlock s i k p

  -- The statements up to the brace that closes their block: the place of the first one, or 0. Each names the place of the next one.
  pub data SpellsRest (s : Source) : ℕ → ℕ → ℕ → Type 0 where
    closed : {i j : ℕ} → Row s.lexed (a_sign sign.CloseBrace ∷ []) i j → SpellsRest s i j 0
    no_stmt : {i j k p : ℕ} → Row s.lexed (a_sign sign.Semicolon ∷ []) i j → SpellsRest s j k p → SpellsRest s i k p
    one_stmt : {i j k m p : ℕ} {made : Stmt} → SpellsStmt s i j made.form made.token made.is_awaited made.is_tried → slice_get s.stmts p ≡ Some made → 0 < p → made.end ≡ j → Separates s.lexed j k → SpellsRest s k m made.next → SpellsRest s i m p
