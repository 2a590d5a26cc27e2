-- What is declared piece by piece is declared as a whole.
use Rattle.std.proofs.Common.{◌≡◌, ◌≢◌, ℕ, ◌-◌, Bool, true, false, Option, Some, List, [], ◌∷◌, ◌++◌, length, refl, sym, ap, subst, ◌∙◌, arith, append_assoc}
use Rattle.std.proofs.lemmas.List.{append-nil, length-append}
use Rattle.std.specs.List.{slice_get}
use Rattle.std.specs.Prelude.{IsNone, codes, slice_set}
use Rattle.swift_syntax.specs.declared.reader.Reader.{Reader}
use Rattle.swift_syntax.specs.declared.tree.Stmt.{Stmt}
use Rattle.swift_syntax.specs.declared.sign.Sign.TheVariants as sign
use Rattle.swift_syntax.specs.declared.tree.Access.{Access}
use Rattle.swift_syntax.specs.declared.tree.Access.TheVariants.{Open}
use Rattle.swift_syntax.specs.declared.tree.ActorDecl.{ActorDecl}
use Rattle.swift_syntax.specs.declared.tree.Tree.{Tree}
use Rattle.swift_syntax.specs.declared.tree.FieldDecl.{FieldDecl}
use Rattle.swift_syntax.specs.declared.tree.FieldStart.{FieldStart}
use Rattle.swift_syntax.specs.declared.tree.MethodDecl.{MethodDecl}
use Rattle.swift_syntax.specs.declared.word.Word.TheVariants as word
use Rattle.swift_syntax.specs.declared.tree.ParamDecl.{ParamDecl}
use Rattle.swift_syntax.specs.declared.tree.ValueType.{ValueType}
use Rattle.swift_syntax.specs.Expressions.{after, table_of}
use Rattle.swift_syntax.specs.Expressions as swift
use Rattle.swift_syntax.specs.declared.token.TokenKind.TheVariants as kind
use Rattle.swift_syntax.specs.Declarations.{IsLiteral, MethodHead, Rows, SpellsAccess, SpellsField, SpellsHead, SpellsKeeper, SpellsMain, SpellsMember, SpellsResult, changed_at, changed_in, member_executor, on_executor, a_field, a_head, a_main, method_of, nobody, SpellsParam, SpellsParams, SpellsSomeParams, SpellsStart, label_of, not_started, one_more_param, one_name, one_param, rows_of, started, two_names}
use Rattle.swift_syntax.specs.DeclaringInside.{Continues, Puts, PutsHead, PutsParam, PutsParams, with_main, with_param}
use Rattle.swift_syntax.specs.ReadersInside.{Adds, Extends, Grows, IsBegun, IsBehind, lexed_of, source_with, taken}
use Rattle.swift_syntax.specs.Statements.{Lexed, Row, Source, SpellsAnnotation, SpellsBlock, SpellsPerhaps, SpellsType, Want, a_key, a_name, a_sign, spells_at, the_word}
use Rattle.swift_syntax.proofs.Declarations.{such_stays}
use Rattle.swift_syntax.proofs.Grown.{behind_on, behind_same, extends_of}
use Rattle.swift_syntax.proofs.Statements.{IsMore, Stays, block_stays, lexed_stays, row_stays}
use Rattle.swift_syntax.proofs.Steps.{Step, Took, adds_of, took_name}

pub continues_of : {r s : Reader} → Extends r s → Continues r s
continues_of e = record { refused = e.refused; text = e.text; tokens = e.tokens; more = e.more; exprs = e.exprs; more_arguments = e.more_arguments; arguments = e.arguments }

continued : {r s : Reader} → Continues r s → IsBehind (table_of r.tree.value) (table_of s.tree.value)
continued e = record { more_exprs = e.more; exprs = e.exprs; more_arguments = e.more_arguments; arguments = e.arguments }

pub continues_on : {r s t : Reader} → Continues r s → Continues s t → Continues r t
continues_on {r} {s} {t} g h =
    record {
      refused = λ n. g.refused (h.refused n);
      text = h.text ∙ g.text;
      tokens = h.tokens ∙ g.tokens;
      more = g.more ++ h.more;
      exprs = h.exprs ∙ (ap (λ xs. xs ++ h.more) g.exprs ∙ append_assoc r.tree.value.exprs.items g.more h.more);
      more_arguments = g.more_arguments ++ h.more_arguments;
      arguments = h.arguments ∙ (ap (λ xs. xs ++ h.more_arguments) g.arguments ∙ append_assoc r.tree.value.arguments.items g.more_arguments h.more_arguments);
    }

pub lexed_as : (r s : Reader) → Continues r s → lexed_of s ≡ lexed_of r
lexed_as r s e =
    let first : lexed_of s ≡ (record { text = r.text.now; tokens = s.tokens.now }) = ap (λ t. record { text = t.now; tokens = s.tokens.now }) e.text in
    first ∙ ap (λ t. record { text = r.text.now; tokens = t.now }) e.tokens

-- what a later reader reads, with more statements
pub more_as : (r s : Reader) (xs ys : List Stmt) → Continues r s → IsMore (source_with r xs) (source_with s (xs ++ ys))
more_as r s xs ys e = record { lexed = lexed_as r s e; behind = continued e; more_stmts = ys; stmts = refl }

pub begun_on : (r s : Reader) {P : Source → Type 0} → Adds r s P → IsBegun r → IsBegun s
begun_on r s d begun = rw (d.stmts, length-append r.tree.value.stmts.items d.more) (omega (arith, begun))

-- one piece after another one
pub puts : (r s t : Reader) {P Q : Source → Type 0} → Stays P → Puts r s P → Puts s t Q → Puts r t (λ a. P a × Q a)
puts r s t {P} {Q} stays p q =
    record {
      continues = continues_on p.continues q.continues;
      adds = λ n begun.
          let d = p.adds (q.continues.refused n) begun in
          let e = q.adds n (begun_on r s d begun) in
          record {
            more = d.more ++ e.more;
            stmts = e.stmts ∙ (ap (λ ys. ys ++ e.more) d.stmts ∙ append_assoc r.tree.value.stmts.items d.more e.more);
            holds = λ xs l.
                let long : length (xs ++ d.more) ≡ length s.tree.value.stmts.items = rw (d.stmts, length-append xs d.more, length-append r.tree.value.stmts.items d.more, l) refl in
                let first : P (source_with t ((xs ++ d.more) ++ e.more)) = stays (source_with s (xs ++ d.more)) _ (more_as s t (xs ++ d.more) e.more q.continues) (d.holds xs l) in
                let rest : Q (source_with t ((xs ++ d.more) ++ e.more)) = e.holds (xs ++ d.more) long in
                subst (λ ys. P (source_with t ys) × Q (source_with t ys)) (append_assoc xs d.more e.more) (first, rest);
          };
    }

pub puts_as : {r s : Reader} {P Q : Source → Type 0} → ((a : Source) → P a → Q a) → Puts r s P → Puts r s Q
puts_as f d = record { continues = d.continues; adds = λ n b. let x = d.adds n b in record { more = x.more; stmts = x.stmts; holds = λ xs l. f _ (x.holds xs l) } }

-- what grows leaves the rows as they were
pub same_rows : (r s : Reader) → Grows r s → rows_of s.tree.value ≡ rows_of r.tree.value
same_rows r s g = ap rows_of g.declared

pub kept_rows : (r s : Reader) → Extends r s → rows_of s.tree.value ≡ rows_of r.tree.value
kept_rows r s g = ap rows_of g.declared

-- what a call reads that declares nothing
pub puts_of : (r s : Reader) {P : Source → Type 0} → Took r s P → Puts r s P
puts_of r s d = record { continues = continues_of (extends_of d.grows); adds = λ n b. adds_of r s d n }

-- what a call reads that declares nothing but may put statements
pub puts_step : (r s : Reader) {P : Source → Type 0} → Step r s P → Puts r s P
puts_step r s d = record { continues = continues_of d.extends; adds = d.adds }

-- a row of tokens, and what is declared behind it
pub row_puts : (r s t : Reader) {ws : List Want} {Q : Source → Type 0} → Took r s (λ a. Row a.lexed ws r.at s.at) → Puts s t Q → Puts r t (λ a. Row a.lexed ws r.at s.at × Q a)
row_puts r s t {ws} d e = puts r s t (row_stays ws r.at s.at) (puts_of r s d) e

pub more_on : {a b c : Source} → IsMore a b → IsMore b c → IsMore a c
more_on {a} {b} {c} m n =
    record {
      lexed = n.lexed ∙ m.lexed;
      behind = behind_on m.behind n.behind;
      more_stmts = m.more_stmts ++ n.more_stmts;
      stmts = n.stmts ∙ (ap (λ xs. xs ++ n.more_stmts) m.stmts ∙ append_assoc a.stmts m.more_stmts n.more_stmts);
    }

-- For loops: whatever goes on from the later place and rows goes on from the earlier ones, whatever is read behind.
abbrev pub GoesOn : (Source → ℕ → ℕ → Rows → Rows → Type 0) → ℕ → ℕ → Rows → Rows → Source → Type 0
GoesOn Q i j r t a = (b : Source) → IsMore a b → (k : ℕ) (u : Rows) → Q b j k t u → Q b i k r u

pub goes_stays : (Q : Source → ℕ → ℕ → Rows → Rows → Type 0) (i j : ℕ) (r t : Rows) → Stays (GoesOn Q i j r t)
goes_stays Q i j r t a b m go = λ c n k u d. go c (more_on m n) k u d

pub both_stay : {P Q : Source → Type 0} → Stays P → Stays Q → Stays (λ a. P a × Q a)
both_stay p q s t m d = (p s t m d.0, q s t m d.1)

pub start_stays : (i j : ℕ) (x : FieldStart) → Stays (λ a. SpellsStart a i j x)
start_stays i j x s t m (started {p = p} row d) = started (row_stays _ _ _ s t m row) (such_stays IsLiteral _ _ p s t m d)
start_stays i j x s t m (not_started k e) = not_started (subst (λ l. swift.kind_at l.tokens i ≢ kind.Sign sign.Assign) (sym m.lexed) k) e

-- a parameter of which the label and the name are known
pub param_one : (l : Lexed) {i j k p q : ℕ} {t : ValueType} → q ≡ label_of l i → p ≡ i → Row l (a_name ∷ a_sign sign.Colon ∷ []) i j → SpellsType l j k t → SpellsParam l i k (record { label = q; name = p; value_type = t })
param_one l a b row d = rw (a, b) (one_name row d)

pub param_two : (l : Lexed) {i j k p q : ℕ} {t : ValueType} → q ≡ label_of l i → p ≡ after i → Row l (a_name ∷ a_name ∷ a_sign sign.Colon ∷ []) i j → SpellsType l j k t → SpellsParam l i k (record { label = q; name = p; value_type = t })
param_two l a b row d = rw (a, b) (two_names row d)

-- Parameters before another one.
pub data ParamsSoFar (l : Lexed) (i j : ℕ) : List ParamDecl → Type 0 where
  none_yet : i ≡ j → ParamsSoFar l i j []
  before_comma : {k : ℕ} {ps : List ParamDecl} → SpellsSomeParams l i k ps → Row l (a_sign sign.Comma ∷ []) k j → ParamsSoFar l i j ps

pub param_on : (l : Lexed) {i j k : ℕ} {ps : List ParamDecl} {p : ParamDecl} → ParamsSoFar l i j ps → SpellsParam l j k p → SpellsSomeParams l i k (ps ++ p ∷ [])
param_on l {k = k} {p = p} (none_yet e) d = one_param (subst (λ i. SpellsParam l i k p) (sym e) d)
param_on l (before_comma some comma) d = one_more_param some comma d

-- a name that is taken, and its place
pub took_named : (r s : Reader) {p : ℕ} → (IsNone s.refused → (swift.kind_at r.tokens.now r.at ≡ kind.Name) × (p ≡ r.at) × (s ≡ taken r)) → Grows r s → Took r s (λ a. Row a.lexed (a_name ∷ []) r.at s.at × (p ≡ r.at))
took_named r s d g = let t = took_name r s d g in record { grows = g; holds = λ n xs. (t.holds n xs, (d n).1) }

pub named_stays : (i j p : ℕ) → Stays (λ a. Row a.lexed (a_name ∷ []) i j × (p ≡ i))
named_stays i j p s t m d = (row_stays _ _ _ s t m d.0, d.1)

-- a field of which the place of the name is known
pub field_of : (a : Source) {actor i j k m n p : ℕ} {access : Access} {is_var : Bool} {t : Option ValueType} {x : FieldStart} → p ≡ j → SpellsKeeper a.lexed i j is_var → Row a.lexed (a_name ∷ []) j k → SpellsAnnotation a.lexed k m t → SpellsStart a m n x → SpellsField a actor access i n (record { actor = actor; name = p; is_var = is_var; access = access; value_type = t; start = x; given = 0 })
field_of a e k r t x = rw e (a_field k r t x)

pub params_stay : (i j : ℕ) (r t : Rows) → Stays (λ a. PutsParams a i j r t)
params_stay i j r t a b m d = record { params = d.params; spelled = subst (λ l. SpellsParams l i j d.params) (sym m.lexed) d.spelled; rows = d.rows }

pub head_put_stays : (actor : ℕ) (access : Access) (i j : ℕ) (r t : Rows) (made : MethodDecl) → Stays (λ a. PutsHead a actor access i j r t made)
head_put_stays actor access i j r t made a b m d = record { head = d.head; spelled = subst (λ l. SpellsHead l i j d.head) (sym m.lexed) d.spelled; rows = d.rows; is = d.is }

-- the head of a method, whose parts are known
pub head_of : (l : Lexed) {i j k m n o p : ℕ} {ps : List ParamDecl} {is_async is_throwing : Bool} {t : ValueType} → p ≡ after i → Row l (a_key word.Func ∷ a_name ∷ a_sign sign.Open ∷ []) i j → SpellsParams l j k ps → SpellsPerhaps l word.Async k m is_async → SpellsPerhaps l word.Throws m n is_throwing → SpellsResult l n o t → SpellsHead l i o (record { name = p; params = ps; is_async = is_async; is_throwing = is_throwing; result = t })
head_of l e a b c d f = rw e (a_head a b c d f)

-- the row of a method whose parameters were counted
pub counted : (actor : ℕ) (access : Access) (h : MethodHead) (ps : List ParamDecl) {first end : ℕ} → first ≡ length ps → end ≡ length (ps ++ h.params) → (record { actor = actor; name = h.name; access = access; is_async = h.is_async; is_throwing = h.is_throwing; result = h.result; first_param = first; params_end = end; body = 0; end = 0 }) ≡ method_of actor access (length ps) h 0 0
counted actor access h ps a b = rw (a, b, length-append ps h.params) refl

-- `main`, whose parts are known
pub main_of : (s : Source) {i j k m body of end : ℕ} {r t u : Rows} {made : MethodDecl} (h : MethodHead) → Row s.lexed (a_key word.Static ∷ []) i j → SpellsHead s.lexed j k h → u ≡ record r { params = r.params ++ h.params } → made ≡ method_of nobody Open (length r.params) h 0 0 → spells_at s.lexed.text s.lexed.tokens made.name (codes "main") ≡ true → made.is_async ≡ true → made.is_throwing ≡ false → SpellsBlock s k m body → end ≡ m - 1 → t ≡ with_main (record made { name = of; body = body; end = end }) u → SpellsMain s of i m r t
main_of s {r = r} h a b u_is made_is named async throws block end_is t_is = rw t_is (rw u_is (rw made_is (rw end_is (a_main a b (rw made_is at named) (rw made_is at async) (rw made_is at throws) block))))

-- The same, put.
pub record PutSoFar (a : Source) (i j : ℕ) (r t : Rows) : Type 0 where
  pub params : List ParamDecl
  pub spelled : ParamsSoFar a.lexed i j params
  pub rows : t ≡ record r { params = r.params ++ params }

pub so_far_stays : (i j : ℕ) (r t : Rows) → Stays (λ a. PutSoFar a i j r t)
so_far_stays i j r t a b m d = record { params = d.params; spelled = subst (λ l. ParamsSoFar l i j d.params) (sym m.lexed) d.spelled; rows = d.rows }

pub param_put_stays : (i j : ℕ) (r t : Rows) → Stays (λ a. PutsParam a i j r t)
param_put_stays i j r t a b m d = record { param = d.param; spelled = subst (λ l. SpellsParam l i j d.param) (sym m.lexed) d.spelled; rows = d.rows }

pub rows_none : (r : Rows) → r ≡ record r { params = r.params ++ [] }
rows_none r = ap (λ ps. record r { params = ps }) (sym (append-nil r.params))

pub rows_on : (r t u : Rows) (ps : List ParamDecl) (p : ParamDecl) → t ≡ record r { params = r.params ++ ps } → u ≡ with_param p t → u ≡ record r { params = r.params ++ (ps ++ p ∷ []) }
rows_on r t u ps p a b =
    let joined : (r.params ++ ps) ++ p ∷ [] ≡ r.params ++ (ps ++ p ∷ []) = append_assoc r.params ps (p ∷ []) in
    b ∙ (ap (with_param p) a ∙ ap (λ xs. record r { params = xs }) joined)

-- an executor whose name's place is known
pub executor_of : (s : Source) {actor i j k p : ℕ} {r t u : Rows} → p ≡ j → u ≡ r → t ≡ record u { actors = changed_at (on_executor p) actor u.actors } → Row s.lexed (a_key word.Nonisolated ∷ a_key word.Var ∷ the_word (codes "unownedExecutor") ∷ a_sign sign.Colon ∷ the_word (codes "UnownedSerialExecutor") ∷ a_sign sign.OpenBrace ∷ []) i j → Row s.lexed (a_name ∷ a_sign sign.Dot ∷ the_word (codes "asUnownedSerialExecutor") ∷ a_sign sign.Open ∷ a_sign sign.Close ∷ a_sign sign.CloseBrace ∷ []) j k → SpellsMember s actor i k r t
executor_of s p_is u_is t_is a b = rw t_is (rw u_is (rw p_is (member_executor a b)))

-- an actor that is changed in its table
pub changed_rows : (t u : Tree) (f : ActorDecl → ActorDecl) (p : ℕ) (a : ActorDecl) → slice_get t.actors.items p ≡ Some a → t ≡ u → record (rows_of t) { actors = slice_set t.actors.items p (f a) } ≡ record (rows_of u) { actors = changed_at f p u.actors.items }
changed_rows t u f p a found same =
    ap (λ o. record (rows_of t) { actors = changed_in f p t.actors.items o }) (sym found)
    ∙ ap (λ (v : Tree). record (rows_of v) { actors = changed_at f p v.actors.items }) same

pub main_stays : (of i j : ℕ) (r t : Rows) → Stays (λ a. SpellsMain a of i j r t)
main_stays of i j r t a b m (a_main {i = i'} {j = j'} {k = k} {m = n} {h = h} x y z u v w) = a_main (row_stays _ _ _ a b m x) (lexed_stays (λ l. SpellsHead l j' k h) a b m y) (lexed_stays (λ l. spells_at l.text l.tokens h.name (codes "main") ≡ true) a b m z) u v (block_stays a b m w)

pub access_stays : (i j : ℕ) (x : Access) → Stays (λ a. SpellsAccess a.lexed i j x)
access_stays i j x = lexed_stays (λ l. SpellsAccess l i j x)

pub field_stays : (actor : ℕ) (access : Access) (i j : ℕ) (f : FieldDecl) → Stays (λ a. SpellsField a actor access i j f)
field_stays actor access i j f a b m (a_field {i = i'} {j = j'} {k = k} {m = n} {n = o} {is_var = v} {t = t} {x = x} k_is row type start) = a_field (lexed_stays (λ l. SpellsKeeper l i' j' v) a b m k_is) (row_stays _ _ _ a b m row) (lexed_stays (λ l. SpellsAnnotation l k n t) a b m type) (start_stays n o x a b m start)

pub more_none : (a : Source) → IsMore a a
more_none a = record { lexed = refl; behind = behind_same a.table; more_stmts = []; stmts = sym (append-nil a.stmts) }
