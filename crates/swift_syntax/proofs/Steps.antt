-- What is read piece by piece is read as a whole.
use Rattle.std.proofs.Common.{◌≡◌, ◌≢◌, ℕ, Bool, true, false, List, [], ◌∷◌, ◌++◌, length, refl, sym, ap, subst, ◌∙◌, arith, append_assoc, Some}
use Rattle.std.proofs.lemmas.List.{append-nil, length-append}
use Rattle.std.proofs.lemmas.Bool.{false≢true}
use Rattle.std.specs.List.{slice_get}
use Rattle.std.specs.Prelude.{IsNone, IsTrue, ◌↔◌}
use Rattle.swift_syntax.specs.declared.reader.Reader.{Reader}
use Rattle.swift_syntax.specs.declared.sign.Sign.{Sign}
use Rattle.swift_syntax.specs.declared.token.TokenKind.TheVariants as kind
use Rattle.swift_syntax.specs.declared.sign.Sign.TheVariants as sign
use Rattle.swift_syntax.specs.declared.tree.Assigning.{Assigning}
use Rattle.swift_syntax.specs.declared.tree.ExprForm.{ExprForm}
use Rattle.swift_syntax.specs.declared.tree.ExprForm.TheVariants as form
use Rattle.swift_syntax.specs.declared.tree.Stmt.{Stmt}
use Rattle.swift_syntax.specs.declared.tree.StmtForm.{StmtForm}
use Rattle.swift_syntax.specs.declared.word.Word.{Word}
use Rattle.swift_syntax.specs.Expressions.{SpellsExpr, SpellsOperands, Reads, ReadsArguments, after, kind_at, table_of}
use Rattle.swift_syntax.specs.ReadersInside.{Adds, AddsStmt, Extends, Grows, IsBegun, IsPut, IsStmtPut, lexed_of, source_with, taken, takes_if}
use Rattle.swift_syntax.specs.Statements.{Is, IsExpr, IsSum, IsTest, Lexed, Row, Source, SpellsPerhaps, SpellsStmt, SpellsTests, Want, a_key, a_name, a_sign, assigning_in, spells_at, the_word}
use Rattle.swift_syntax.specs.Statements as swift
use Rattle.swift_syntax.proofs.Grown.{extended, extends_of, extends_on, grows_on, grows_same, put_there}
use Rattle.swift_syntax.proofs.Refused.{grows_taken}
use Rattle.swift_syntax.proofs.Statements.{IsMore, lexed_stays, row_stays, stmt_stays}

-- From a reader to another one this was read, and no statement.
pub record Took (r s : Reader) (P : Source → Type 0) : Type 0 where
  pub grows : Grows r s
  pub holds : IsNone s.refused → (xs : List Stmt) → P (source_with s xs)

-- From a reader to another one this was read.
pub record Step (r s : Reader) (P : Source → Type 0) : Type 0 where
  pub extends : Extends r s
  pub adds : IsNone s.refused → IsBegun r → Adds r s P

pub lexed_on : (r s : Reader) → Extends r s → lexed_of s ≡ lexed_of r
lexed_on r s e =
    let first : lexed_of s ≡ (record { text = r.text.now; tokens = s.tokens.now }) = ap (λ t. record { text = t.now; tokens = s.tokens.now }) e.text in
    first ∙ ap (λ t. record { text = r.text.now; tokens = t.now }) e.tokens

-- what a later reader reads, with more statements
pub more_read : (r s : Reader) (xs ys : List Stmt) → Extends r s → IsMore (source_with r xs) (source_with s (xs ++ ys))
more_read r s xs ys e = record { lexed = lexed_on r s e; behind = extended e; more_stmts = ys; stmts = refl }

same_read : (r s : Reader) (xs : List Stmt) → Extends r s → IsMore (source_with r xs) (source_with s xs)
same_read r s xs e = record { lexed = lexed_on r s e; behind = extended e; more_stmts = []; stmts = sym (append-nil xs) }

-- one piece after another one
pub then : (r s t : Reader) {P Q : Source → Type 0} → ((a b : Source) → IsMore a b → P a → P b) → Took r s P → Took s t Q → Took r t (λ a. P a × Q a)
then r s t stays p q =
    record {
      grows = grows_on p.grows q.grows;
      holds = λ n xs. (stays (source_with s xs) (source_with t xs) (same_read s t xs (extends_of q.grows)) (p.holds (q.grows.refused n) xs), q.holds n xs);
    }

pub took_as : {r s : Reader} {P Q : Source → Type 0} → ((a : Source) → P a → Q a) → Took r s P → Took r s Q
took_as f d = record { grows = d.grows; holds = λ n xs. f _ (d.holds n xs) }

pub also : (r s t : Reader) {P Q : Source → Type 0} → ((a b : Source) → IsMore a b → P a → P b) → Step r s P → Step s t Q → Step r t (λ a. P a × Q a)
also r s t {P} {Q} stays p q =
    record {
      extends = extends_on p.extends q.extends;
      adds = λ n begun.
          let d = p.adds (q.extends.refused n) begun in
          let begun_s : IsBegun s = rw (d.stmts, length-append r.tree.value.stmts.items d.more) (omega (arith, begun)) in
          let e = q.adds n begun_s in
          record {
            more = d.more ++ e.more;
            stmts = e.stmts ∙ (ap (λ ys. ys ++ e.more) d.stmts ∙ append_assoc r.tree.value.stmts.items d.more e.more);
            holds = λ xs l.
                let long : length (xs ++ d.more) ≡ length s.tree.value.stmts.items = rw (d.stmts, length-append xs d.more, length-append r.tree.value.stmts.items d.more, l) refl in
                let first : P (source_with t ((xs ++ d.more) ++ e.more)) = stays (source_with s (xs ++ d.more)) _ (more_read s t (xs ++ d.more) e.more q.extends) (d.holds xs l) in
                let rest : Q (source_with t ((xs ++ d.more) ++ e.more)) = e.holds (xs ++ d.more) long in
                subst (λ ys. P (source_with t ys) × Q (source_with t ys)) (append_assoc xs d.more e.more) (first, rest);
          };
    }

pub step_as : {r s : Reader} {P Q : Source → Type 0} → ((a : Source) → P a → Q a) → Step r s P → Step r s Q
step_as f d = record { extends = d.extends; adds = λ n b. let x = d.adds n b in record { more = x.more; stmts = x.stmts; holds = λ xs l. f _ (x.holds xs l) } }

pub adds_of : (r s : Reader) {P : Source → Type 0} → Took r s P → IsNone s.refused → Adds r s P
adds_of r s d n = record { more = []; stmts = ap (λ v. v.items) d.grows.stmts ∙ sym (append-nil r.tree.value.stmts.items); holds = λ xs l. d.holds n (xs ++ []) }

pub step_of : (r s : Reader) {P : Source → Type 0} → Took r s P → Step r s P
step_of r s d = record { extends = extends_of d.grows; adds = λ n b. adds_of r s d n }

-- nothing is taken
pub took_none : (r s : Reader) → (IsNone s.refused → s.at ≡ r.at) → Grows r s → Took r s (λ a. Row a.lexed [] r.at s.at)
took_none r s e g = record { grows = g; holds = λ n xs. swift.no_token (sym (e n)) }

pub took_same : (r s : Reader) → (IsNone s.refused → s ≡ r) → Grows r s → Took r s (λ a. Row a.lexed [] r.at s.at)
took_same r s e g = took_none r s (λ n. ap (λ x. x.at) (e n)) g

-- a token that is taken
took_one : (r s : Reader) (w : Want) → (IsNone s.refused → Is (lexed_of r) r.at w × (s ≡ taken r)) → Grows r s → Took r s (λ a. Row a.lexed (w ∷ []) r.at s.at)
took_one r s w e g =
    record {
      grows = g;
      holds = λ n xs.
          let there : Is (lexed_of s) r.at w = subst (λ x. Is (lexed_of x) r.at w) (sym (e n).1) (e n).0 in
          swift.next_token {x = w} there (swift.no_token (sym (ap (λ x. x.at) (e n).1)));
    }

pub took_sign : (r s : Reader) (x : Sign) → (IsNone s.refused → (kind_at r.tokens.now r.at ≡ kind.Sign x) × (s ≡ taken r)) → Grows r s → Took r s (λ a. Row a.lexed (a_sign x ∷ []) r.at s.at)
took_sign r s x d g = took_one r s (a_sign x) d g

pub took_key : (r s : Reader) (x : Word) → (IsNone s.refused → (kind_at r.tokens.now r.at ≡ kind.Key x) × (s ≡ taken r)) → Grows r s → Took r s (λ a. Row a.lexed (a_key x ∷ []) r.at s.at)
took_key r s x d g = took_one r s (a_key x) d g

pub took_word : (r s : Reader) (x : List ℕ) → (IsNone s.refused → (spells_at r.text.now r.tokens.now r.at x ≡ true) × (s ≡ taken r)) → Grows r s → Took r s (λ a. Row a.lexed (the_word x ∷ []) r.at s.at)
took_word r s x d g = took_one r s (the_word x) d g

pub took_name : (r s : Reader) {p : ℕ} → (IsNone s.refused → (kind_at r.tokens.now r.at ≡ kind.Name) × (p ≡ r.at) × (s ≡ taken r)) → Grows r s → Took r s (λ a. Row a.lexed (a_name ∷ []) r.at s.at)
took_name r s d g = took_one r s a_name (λ n. ((d n).0, (d n).2)) g

-- a token that was there and is taken
pub takes_one : (r s : Reader) (w : Want) → Is (lexed_of r) r.at w → s ≡ taken r → Took r s (λ a. Row a.lexed (w ∷ []) r.at s.at)
takes_one r s w k e = took_one r s w (λ n. (k, e)) (grows_taken e)

-- a keyword that is taken where it stands
pub took_perhaps : (r s : Reader) (x : Word) (found : Bool) → (IsTrue found ↔ (kind_at r.tokens.now r.at ≡ kind.Key x)) → s ≡ takes_if found r → Took r s (λ a. SpellsPerhaps a.lexed x r.at s.at found)
took_perhaps r s x true f e = took_as (λ a d. swift.there d) (takes_one r s (a_key x) (f.0 refl) e)
took_perhaps r s x false f e =
    let other : kind_at s.tokens.now r.at ≢ kind.Key x = λ k. false≢true (f.1 (subst (λ y. kind_at y.tokens.now r.at ≡ kind.Key x) e k)) in
    record { grows = subst (λ y. Grows r y) (sym e) (grows_same r); holds = λ n xs. swift.missing other (sym (ap (λ y. y.at) e)) }

pub row_on : (l : Lexed) {xs ys : List Want} {i j k : ℕ} → Row l xs i j → Row l ys j k → Row l (xs ++ ys) i k
row_on l {ys = ys} {k = k} (swift.no_token d) e = subst (λ x. Row l ys x k) (sym d) e
row_on l (swift.next_token {x = x} a d) e = swift.next_token {x = x} a (row_on l d e)

-- a row of tokens, and a row behind it
pub rows : (r s t : Reader) {xs ys : List Want} → Took r s (λ a. Row a.lexed xs r.at s.at) → Took s t (λ a. Row a.lexed ys s.at t.at) → Took r t (λ a. Row a.lexed (xs ++ ys) r.at t.at)
rows r s t {xs} {ys} d e = took_as (λ a x. row_on a.lexed x.0 x.1) (then r s t (row_stays xs r.at s.at) d e)

-- a row of tokens, and what else is told by the tokens, behind it
pub row_then : (r s t : Reader) {ws : List Want} {Q : Source → Type 0} → Took r s (λ a. Row a.lexed ws r.at s.at) → Took s t Q → Took r t (λ a. Row a.lexed ws r.at s.at × Q a)
row_then r s t {ws} d e = then r s t (row_stays ws r.at s.at) d e

-- what is told by the tokens alone
pub took_lexed : (r s : Reader) (P : Lexed → Type 0) → (IsNone s.refused → P (lexed_of s)) → Grows r s → Took r s (λ a. P a.lexed)
took_lexed r s P d g = record { grows = g; holds = λ n xs. d n }

pub took_expr : (r s : Reader) (p : ℕ) → (IsNone s.refused → Reads (SpellsExpr s.tokens.now) (table_of s.tree.value) r.at s.at p) → Grows r s → Took r s (λ a. IsExpr a r.at s.at p)
took_expr r s p d g = record { grows = g; holds = λ n xs. d n }

pub took_arguments : (r s : Reader) (p : ℕ) → (IsNone s.refused → ReadsArguments s.tokens.now (table_of s.tree.value) r.at s.at p) → Grows r s → Took r s (λ a. ReadsArguments a.lexed.tokens a.table r.at s.at p)
took_arguments r s p d g = record { grows = g; holds = λ n xs. d n }

-- a statement that is put behind what was read of it
pub stmt_read : (r s t : Reader) {f : StmtForm} {i own p : ℕ} {a b : Bool} → Step r s (λ x. SpellsStmt x i s.at f own a b) → (IsNone t.refused → IsStmtPut s t (record { form = f; token = own; end = s.at; next = 0; is_awaited = a; is_tried = b }) p) → Extends s t → IsNone t.refused → IsBegun r → AddsStmt r t i p
stmt_read r s t {f} {i} {own} {p} {a} {b} step puts e n begun =
    let made : Stmt = record { form = f; token = own; end = s.at; next = 0; is_awaited = a; is_tried = b } in
    let d = step.adds (e.refused n) begun in
    let put = puts n in
    record {
      more = d.more;
      made = made;
      stmts = put.put ∙ ap (λ xs. xs ++ made ∷ []) d.stmts;
      place_is = put.behind ∙ ap length d.stmts;
      next = refl;
      end = sym put.at;
      spelled = λ xs l. subst (λ j. SpellsStmt (source_with t (xs ++ d.more)) i j f own a b) (sym put.at) (stmt_stays _ _ (same_read s t (xs ++ d.more) e) (d.holds xs l));
    }

-- a statement that is read behind what adds none
pub read_behind : (r s t : Reader) {i p : ℕ} → Grows r s → AddsStmt s t i p → AddsStmt r t i p
read_behind r s t g d =
    let same : s.tree.value.stmts.items ≡ r.tree.value.stmts.items = ap (λ v. v.items) g.stmts in
    record {
      more = d.more;
      made = d.made;
      stmts = rw same at d.stmts;
      place_is = rw same at d.place_is;
      next = d.next;
      end = d.end;
      spelled = λ xs l. d.spelled xs (l ∙ sym (ap length same));
    }

pub begun_behind : (r s : Reader) → Grows r s → IsBegun r → IsBegun s
begun_behind r s g b = rw (ap (λ v. v.items) g.stmts) b

-- what a function reads that puts nothing into a table
pub took_call : (r s : Reader) (P : Lexed → ℕ → ℕ → Type 0) → (IsNone s.refused → P (lexed_of s) r.at s.at) → Grows r s → Took r s (λ a. P a.lexed r.at s.at)
took_call r s P d g = took_lexed r s (λ l. P l r.at s.at) d g

-- a token that stands on the line of what is before it
abbrev pub IsOnLine : ℕ → ℕ → Source → Type 0
IsOnLine i j a = Row a.lexed [] i j × (swift.begins_line a.lexed j ≡ false)

pub line_stays : (i j : ℕ) → (s t : Source) → IsMore s t → IsOnLine i j s → IsOnLine i j t
line_stays i j s t m d = (row_stays [] i j s t m d.0, lexed_stays (λ l. swift.begins_line l j ≡ false) s t m d.1)

pub took_line : (r s : Reader) → (IsNone s.refused → s ≡ r) → (IsNone s.refused → swift.begins_line (lexed_of r) r.at ≡ false) → Grows r s → Took r s (IsOnLine r.at s.at)
took_line r s e f g =
    record { grows = g; holds = λ n xs. (swift.no_token (sym (ap (λ x. x.at) (e n))), subst (λ x. swift.begins_line (lexed_of x) x.at ≡ false) (sym (e n)) (f n)) }

-- the pieces of a statement make it
pub took_stmt : (r s : Reader) {P : Source → Type 0} {f : StmtForm} {i own : ℕ} {x y : Bool} → ((a : Source) → P a → SpellsStmt a i s.at f own x y) → Took r s P → Step r s (λ a. SpellsStmt a i s.at f own x y)
took_stmt r s make d = step_of r s (took_as make d)

pub stmt_of : (r s : Reader) {P : Source → Type 0} {f : StmtForm} {i own : ℕ} {x y : Bool} → ((a : Source) → P a → SpellsStmt a i s.at f own x y) → Step r s P → Step r s (λ a. SpellsStmt a i s.at f own x y)
stmt_of r s make d = step_as make d

pub no_row : (l : Lexed) {i j : ℕ} → Row l [] i j → i ≡ j
no_row l (swift.no_token e) = e

pub line_first : (l : Lexed) {i j : ℕ} → Row l [] i j → swift.begins_line l j ≡ false → swift.begins_line l i ≡ false
line_first l {i} {j} d e = subst (λ k. swift.begins_line l k ≡ false) (sym (no_row l d)) e

-- an expression that is put
abbrev pub IsPutAt : ℕ → ℕ → ℕ → ExprForm → ℕ → Source → Type 0
IsPutAt i j p f t a = Row a.lexed [] i j × (slice_get a.table.exprs p ≡ Some (record { form = f; token = t }))

pub took_put : (r s : Reader) {f : ExprForm} {t p : ℕ} → (IsNone s.refused → IsPut r s f t p) → Grows r s → Took r s (IsPutAt r.at s.at p f t)
took_put r s put g = record { grows = g; holds = λ n xs. (swift.no_token (sym (put n).at), put_there (put n)) }

pub tests_on : (a : Source) {i j k m n p q r t : ℕ} → SpellsTests a i j p → Row a.lexed (a_sign sign.Comma ∷ []) j k → IsExpr a k m q → IsPutAt m n r (form.Both p q) t a → t ≡ j → SpellsTests a i n r
tests_on a {i = i} {j = j} {p = p} {q = q} {r = r} tests comma value put e =
    let there : slice_get a.table.exprs r ≡ Some (record { form = form.Both p q; token = j }) = subst (λ x. slice_get a.table.exprs r ≡ Some (record { form = form.Both p q; token = x })) e put.1 in
    subst (λ x. SpellsTests a i x r) (no_row a.lexed put.0) (swift.next_test tests comma value there)

pub took_sum : (r s : Reader) (p : ℕ) → (IsNone s.refused → Reads (SpellsOperands s.tokens.now 4) (table_of s.tree.value) r.at s.at p) → Grows r s → Took r s (λ a. IsSum a r.at s.at p)
took_sum r s p d g = record { grows = g; holds = λ n xs. d n }

-- what is read of a statement by a call that puts statements
pub step_call : (r s : Reader) {P : Source → Type 0} → (IsNone s.refused → IsBegun r → Adds r s P) → Extends r s → Step r s P
step_call r s d e = record { extends = e; adds = d }

pub test_read : (r s : Reader) {p : ℕ} → (IsNone s.refused → Adds r s (λ a. IsTest a r.at s.at p)) → Grows r s → Step r s (λ a. IsTest a r.at s.at p)
test_read r s d g = record { extends = extends_of g; adds = λ n b. d n }

-- a row of tokens, and what is read behind it
pub row_also : (r s t : Reader) {ws : List Want} {Q : Source → Type 0} → Took r s (λ a. Row a.lexed ws r.at s.at) → Step s t Q → Step r t (λ a. Row a.lexed ws r.at s.at × Q a)
row_also r s t {ws} d e = also r s t (row_stays ws r.at s.at) (step_of r s d) e

-- the sign of an assignment behind a name
pub took_assigning : (r s e t : Reader) {how : Assigning} → (IsNone s.refused → s ≡ taken r) → Grows r s → (IsNone e.refused → e ≡ s) → Grows s e → t ≡ taken e → assigning_in (kind_at r.tokens.now (after r.at)) ≡ Some how → Took s t (λ a. (assigning_in (kind_at a.lexed.tokens s.at) ≡ Some how) × (after s.at ≡ t.at))
took_assigning r s e t {how} named g even h took sign_is =
    let k = grows_taken took in
    record {
      grows = grows_on h k;
      holds = λ n xs.
          let n_e = k.refused n in
          let at : s.at ≡ after r.at = ap (λ x. x.at) (named (h.refused n_e)) in
          let same : t.tokens ≡ r.tokens = (grows_on g (grows_on h k)).tokens in
          let kept : assigning_in (kind_at t.tokens.now s.at) ≡ assigning_in (kind_at r.tokens.now s.at) = ap (λ ts. assigning_in (kind_at ts.now s.at)) same in
          let moved : assigning_in (kind_at r.tokens.now s.at) ≡ assigning_in (kind_at r.tokens.now (after r.at)) = ap (λ p. assigning_in (kind_at r.tokens.now p)) at in
          let next : t.at ≡ after s.at = ap (λ x. x.at) took ∙ ap (λ x. after x.at) (even n_e) in
          (kept ∙ moved ∙ sign_is, sym next);
    }

-- a statement's token is where it is
pub told_by : (r s : Reader) {f : StmtForm} {own i p : ℕ} {a b : Bool} → own ≡ i → IsStmtPut r s (record { form = f; token = own; end = r.at; next = 0; is_awaited = a; is_tried = b }) p → IsStmtPut r s (record { form = f; token = i; end = r.at; next = 0; is_awaited = a; is_tried = b }) p
told_by r s {f} {p = p} {a = a} {b = b} e put = subst (λ x. IsStmtPut r s (record { form = f; token = x; end = r.at; next = 0; is_awaited = a; is_tried = b }) p) e put

pub formed_by : (r s : Reader) {f g : StmtForm} {own p : ℕ} {a b : Bool} → f ≡ g → IsStmtPut r s (record { form = f; token = own; end = r.at; next = 0; is_awaited = a; is_tried = b }) p → IsStmtPut r s (record { form = g; token = own; end = r.at; next = 0; is_awaited = a; is_tried = b }) p
formed_by r s {own = own} {p = p} {a = a} {b = b} e put = subst (λ x. IsStmtPut r s (record { form = x; token = own; end = r.at; next = 0; is_awaited = a; is_tried = b }) p) e put
