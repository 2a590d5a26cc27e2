-- What of statements stays where more is read, and how what is read piece by piece is read as a whole.
use Rattle.std.proofs.Common.{◌≡◌, ◌≢◌, ℕ, Bool, true, false, List, [], ◌∷◌, ◌++◌, Some, sym, subst}
use Rattle.std.specs.List.{slice_get}
use Rattle.swift_syntax.specs.declared.closure.ClosureHead.{ClosureHead}
use Rattle.swift_syntax.specs.declared.closure.HeadForm.{HeadForm}
use Rattle.swift_syntax.specs.declared.sign.Sign.TheVariants as sign
use Rattle.swift_syntax.specs.declared.token.Token.{Token}
use Rattle.swift_syntax.specs.declared.token.TokenKind.TheVariants as kind
use Rattle.swift_syntax.specs.declared.tree.Expr.{Expr}
use Rattle.swift_syntax.specs.declared.tree.Stmt.{Stmt}
use Rattle.swift_syntax.specs.declared.tree.StmtForm.{StmtForm}
use Rattle.swift_syntax.specs.declared.tree.ValueType.{ValueType}
use Rattle.swift_syntax.specs.declared.word.Word.TheVariants as word
use Rattle.swift_syntax.specs.Expressions.{Reads, ReadsArguments, SpellsArguments, SpellsExpr, SpellsOperands, SwiftTree, Table, kind_at}
use Rattle.swift_syntax.specs.Statements.{IsExpr, IsSum, IsTest, Lexed, NamesFrom, Row, Separates, Source, SpellsBlock, SpellsCovered, SpellsDeclared, SpellsElse, SpellsFront, SpellsGroup, SpellsHead, SpellsInto, SpellsNames, SpellsNext, SpellsPerhaps, SpellsPriority, SpellsRange, SpellsRest, SpellsStmt, SpellsTarget, SpellsTests, Want, a_key, a_name, a_sign, assigning_in, begins_line, ends_return, spells_at, the_word}
use Rattle.swift_syntax.specs.Statements as swift
use Rattle.swift_syntax.specs.ReadersInside.{IsBehind}
use Rattle.swift_syntax.proofs.Grown.{argument_behind, get_behind, get_more, stand_more, stands_more}

-- More is read behind what was.
pub record IsMore (s t : Source) : Type 0 where
  pub lexed : t.lexed ≡ s.lexed
  pub behind : IsBehind s.table t.table
  pub more_stmts : List Stmt
  pub stmts : t.stmts ≡ s.stmts ++ more_stmts

-- What holds of what was read still holds.
abbrev pub Stays : (Source → Type 0) → Type 0
Stays P = (s t : Source) → IsMore s t → P s → P t

-- what is said of the tokens alone
pub lexed_stays : (P : Lexed → Type 0) → (s t : Source) → IsMore s t → P s.lexed → P t.lexed
lexed_stays P s t m d = subst P (sym m.lexed) d

pub row_stays : (ws : List Want) (i j : ℕ) → (s t : Source) → IsMore s t → Row s.lexed ws i j → Row t.lexed ws i j
row_stays ws i j s t m d = lexed_stays (λ l. Row l ws i j) s t m d

pub reads_stay : (F : List Token → ℕ → ℕ → SwiftTree → Type 0) (i j p : ℕ) → (s t : Source) → IsMore s t → Reads (F s.lexed.tokens) s.table i j p → Reads (F t.lexed.tokens) t.table i j p
reads_stay F i j p s t m d =
    record {
      tree = d.tree;
      spelled = subst (λ l. F l.tokens i j d.tree) (sym m.lexed) d.spelled;
      stands = stands_more m.behind d.stands;
    }

pub arguments_stay : (i j p : ℕ) → Stays (λ a. ReadsArguments a.lexed.tokens a.table i j p)
arguments_stay i j p s t m d =
    record {
      arguments = d.arguments;
      spelled = subst (λ l. SpellsArguments l.tokens i j d.arguments) (sym m.lexed) d.spelled;
      stand = stand_more m.behind d.stand;
    }

names_more : {x y : Table} {p : ℕ} {names : List ℕ} → IsBehind x y → NamesFrom x p names → NamesFrom y p names
names_more b swift.no_name = swift.no_name
names_more b (swift.name_from {p = p} n e rest) = swift.name_from n (argument_behind p b e) (names_more b rest)

pub front_stays : (i j captures parameter : ℕ) → Stays (λ a. SpellsFront a i j captures parameter)
front_stays i j captures parameter s t m (swift.listed {j = k} {names = names} l r d e) = swift.listed (lexed_stays (λ z. begins_line z i ≡ false) s t m l) (row_stays _ _ _ s t m r) (lexed_stays (λ z. SpellsNames z k j names) s t m d) (names_more m.behind e)
front_stays i j captures parameter s t m (swift.with_parameter l r d) = swift.with_parameter (lexed_stays (λ z. begins_line z i ≡ false) s t m l) (row_stays _ _ _ s t m r) (row_stays _ _ _ s t m d)
front_stays i j captures parameter s t m (swift.without l r) = swift.without (lexed_stays (λ z. begins_line z i ≡ false) s t m l) (row_stays _ _ _ s t m r)

pub expr_stays : (i j p : ℕ) → (s t : Source) → IsMore s t → IsExpr s i j p → IsExpr t i j p
expr_stays = reads_stay SpellsExpr

pub sum_stays : (i j p : ℕ) → (s t : Source) → IsMore s t → IsSum s i j p → IsSum t i j p
sum_stays = reads_stay (λ ts. SpellsOperands ts 4)

expr_there : (s t : Source) → IsMore s t → (p : ℕ) (e : Expr) → slice_get s.table.exprs p ≡ Some e → slice_get t.table.exprs p ≡ Some e
expr_there s t m p e g = get_behind p m.behind g

stmt_there : (s t : Source) → IsMore s t → (p : ℕ) (x : Stmt) → slice_get s.stmts p ≡ Some x → slice_get t.stmts p ≡ Some x
stmt_there s t m p x g = subst (λ xs. slice_get xs p ≡ Some x) (sym m.stmts) (get_more s.stmts m.more_stmts p x g)

pub tests_stay : (s t : Source) {i j p : ℕ} → IsMore s t → SpellsTests s i j p → SpellsTests t i j p
tests_stay s t m (swift.one_test e) = swift.one_test (expr_stays _ _ _ s t m e)
tests_stay s t m (swift.next_test {j = j} {k = k} a r e g) = swift.next_test (tests_stay s t m a) (lexed_stays (λ l. Row l (a_sign sign.Comma ∷ []) j k) s t m r) (expr_stays _ _ _ s t m e) (expr_there s t m _ _ g)

pub test_stays : (i j p : ℕ) → (s t : Source) → IsMore s t → IsTest s i j p → IsTest t i j p
test_stays i j p s t m d = (tests_stay s t m d.0, lexed_stays (λ l. kind_at l.tokens j ≢ kind.Sign sign.Comma) s t m d.1)

group_stays : (i j : ℕ) (x : ValueType) → (s t : Source) → IsMore s t → SpellsGroup s.lexed i j x → SpellsGroup t.lexed i j x
group_stays i j x = lexed_stays (λ l. SpellsGroup l i j x)

priority_stays : (i j p : ℕ) → (s t : Source) → IsMore s t → SpellsPriority s.lexed i j p → SpellsPriority t.lexed i j p
priority_stays i j p = lexed_stays (λ l. SpellsPriority l i j p)

pub head_stays : (s t : Source) {i j token : ℕ} {h : HeadForm} → IsMore s t → SpellsHead s i j h token → SpellsHead t i j h token
head_stays s t m (swift.task a b) = swift.task (row_stays _ _ _ s t m a) (priority_stays _ _ _ s t m b)
head_stays s t m (swift.detached a b) = swift.detached (row_stays _ _ _ s t m a) (priority_stays _ _ _ s t m b)
head_stays s t m (swift.add a b c) = swift.add (row_stays _ _ _ s t m a) (row_stays _ _ _ s t m b) (priority_stays _ _ _ s t m c)
head_stays s t m (swift.add_only a b c) = swift.add_only (row_stays _ _ _ s t m a) (row_stays _ _ _ s t m b) (priority_stays _ _ _ s t m c)
head_stays s t m (swift.group a b) = swift.group (row_stays _ _ _ s t m a) (group_stays _ _ _ s t m b)
head_stays s t m (swift.throwing_group a b) = swift.throwing_group (row_stays _ _ _ s t m a) (group_stays _ _ _ s t m b)
head_stays s t m (swift.bind a b e c) = swift.bind (row_stays _ _ _ s t m a) (row_stays _ _ _ s t m b) (expr_stays _ _ _ s t m e) (row_stays _ _ _ s t m c)

pub covered_stays : (s t : Source) {i j : ℕ} {h : ClosureHead} → IsMore s t → SpellsCovered s i j h → SpellsCovered t i j h
covered_stays s t m (swift.covered {i = i} {j = j} {k = k} {tried = x} {awaited = y} a b c) = swift.covered (lexed_stays (λ l. SpellsPerhaps l word.Try i j x) s t m a) (lexed_stays (λ l. SpellsPerhaps l word.Await j k y) s t m b) (head_stays s t m c)

mutual
  pub stmt_stays : (s t : Source) {i j token : ℕ} {f : StmtForm} {a b : Bool} → IsMore s t → SpellsStmt s i j f token a b → SpellsStmt t i j f token a b
  stmt_stays s t m (swift.valued {i = i} {j = j} {x = x} k e) = swift.valued (lexed_stays (λ l. SpellsInto l i j x) s t m k) (expr_stays _ _ _ s t m e)
  stmt_stays s t m (swift.enclosed {i = i} {j = j} {x = x} a b c d) = swift.enclosed (lexed_stays (λ l. SpellsInto l i j x) s t m a) (covered_stays s t m b) (front_stays _ _ _ _ s t m c) (rest_stays s t m d)
  stmt_stays s t m (swift.assigned {i = i} {j = j} {k = k} {own = own} {how = how} a b c d e) = swift.assigned (lexed_stays (λ l. SpellsTarget l i j own) s t m a) (lexed_stays (λ l. Row l (a_name ∷ []) j k) s t m b) (lexed_stays (λ l. assigning_in (kind_at l.tokens k) ≡ Some how) s t m c) d (expr_stays _ _ _ s t m e)
  stmt_stays s t m (swift.toggled {i = i} {j = j} {k = k} {own = own} a b) = swift.toggled (lexed_stays (λ l. SpellsTarget l i j own) s t m a) (row_stays _ _ _ s t m b)
  stmt_stays s t m (swift.returned {j = j} a b) = swift.returned (row_stays _ _ _ s t m a) (lexed_stays (λ l. ends_return (kind_at l.tokens j) ≡ true) s t m b)
  stmt_stays s t m (swift.thrown {j = j} a b e) = swift.thrown (row_stays _ _ _ s t m a) (lexed_stays (λ l. begins_line l j ≡ false) s t m b) (expr_stays _ _ _ s t m e)
  stmt_stays s t m (swift.async_let {j = j} {k = k} {name = n} {t = w} a b e) = swift.async_let (row_stays _ _ _ s t m a) (lexed_stays (λ l. SpellsDeclared l j k n w) s t m b) (expr_stays _ _ _ s t m e)
  stmt_stays s t m (swift.if_else a b c d) = swift.if_else (row_stays _ _ _ s t m a) (test_stays _ _ _ s t m b) (block_stays s t m c) (else_stays s t m d)
  stmt_stays s t m (swift.guard a b c d) = swift.guard (row_stays _ _ _ s t m a) (test_stays _ _ _ s t m b) (row_stays _ _ _ s t m c) (block_stays s t m d)
  stmt_stays s t m (swift.while_test a b c) = swift.while_test (row_stays _ _ _ s t m a) (test_stays _ _ _ s t m b) (block_stays s t m c)
  stmt_stays s t m (swift.while_next {j = j} {k = k} {name = n} {group = g} {tried = w} a b c) = swift.while_next (row_stays _ _ _ s t m a) (lexed_stays (λ l. SpellsNext l j k n g w) s t m b) (block_stays s t m c)
  stmt_stays s t m (swift.for_range {m = n} {n = o} {closed = w} a b c d e f) = swift.for_range (row_stays _ _ _ s t m a) (row_stays _ _ _ s t m b) (sum_stays _ _ _ s t m c) (lexed_stays (λ l. SpellsRange l n o w) s t m d) (sum_stays _ _ _ s t m e) (block_stays s t m f)
  stmt_stays s t m (swift.for_await {j = j} {k = k} {tried = w} a b c d e f) = swift.for_await (row_stays _ _ _ s t m a) (lexed_stays (λ l. SpellsPerhaps l word.Try j k w) s t m b) (row_stays _ _ _ s t m c) (row_stays _ _ _ s t m d) (row_stays _ _ _ s t m e) (block_stays s t m f)
  stmt_stays s t m (swift.do_catch a b c d) = swift.do_catch (row_stays _ _ _ s t m a) (block_stays s t m b) (row_stays _ _ _ s t m c) (block_stays s t m d)

  else_stays : (s t : Source) {i j p : ℕ} → IsMore s t → SpellsElse s i j p → SpellsElse t i j p
  else_stays s t m (swift.no_else {i = i} a b) = swift.no_else (lexed_stays (λ l. kind_at l.tokens i ≢ kind.Key word.Else) s t m a) b
  else_stays s t m (swift.else_block a b) = swift.else_block (row_stays _ _ _ s t m a) (block_stays s t m b)
  else_stays s t m (swift.else_if {j = j} a b c d e f g) = swift.else_if (row_stays _ _ _ s t m a) (lexed_stays (λ l. kind_at l.tokens j ≡ kind.Key word.If) s t m b) (stmt_stays s t m c) (stmt_there s t m _ _ d) e f g

  pub block_stays : (s t : Source) {i j p : ℕ} → IsMore s t → SpellsBlock s i j p → SpellsBlock t i j p
  block_stays s t m (swift.opened a b) = swift.opened (row_stays _ _ _ s t m a) (rest_stays s t m b)

  pub rest_stays : (s t : Source) {i j p : ℕ} → IsMore s t → SpellsRest s i j p → SpellsRest t i j p
  rest_stays s t m (swift.closed a) = swift.closed (row_stays _ _ _ s t m a)
  rest_stays s t m (swift.no_stmt a b) = swift.no_stmt (row_stays _ _ _ s t m a) (rest_stays s t m b)
  rest_stays s t m (swift.one_stmt {j = j} {k = k} a b c d e f) = swift.one_stmt (stmt_stays s t m a) (stmt_there s t m _ _ b) c d (lexed_stays (λ l. Separates l j k) s t m e) (rest_stays s t m f)
