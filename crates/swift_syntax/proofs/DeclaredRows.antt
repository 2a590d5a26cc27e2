-- What is read of declarations piece by piece is read as a whole.
use Rattle.std.proofs.Common.{◌≡◌, ◌≢◌, ◌⊎◌, inl, inr, ℕ, List, [], ◌∷◌, true, length, sym, ap, subst, codes, ◌∙◌}
use Rattle.std.proofs.lemmas.List.{append-nil}
use Rattle.std.specs.Prelude.{IsNone, IsSome}
use Rattle.swift_syntax.specs.declared.reader.Reader.{Reader}
use Rattle.swift_syntax.specs.declared.token.TokenKind.TheVariants as kind
use Rattle.swift_syntax.specs.declared.sign.Sign.{Sign}
use Rattle.swift_syntax.specs.declared.sign.Sign.TheVariants as sign
use Rattle.swift_syntax.specs.declared.tree.Access.TheVariants.{Open}
use Rattle.swift_syntax.specs.declared.tree.Stmt.{Stmt}
use Rattle.swift_syntax.specs.declared.token.TokenKind.{TokenKind}
use Rattle.swift_syntax.specs.declared.word.Word.TheVariants as word
use Rattle.swift_syntax.specs.Declarations.{IsLiteral, ReadsSuch, Rows, SpellsAccess, SpellsActor, SpellsBalanced, SpellsCases, SpellsDeclaration, SpellsHead, SpellsHolder, SpellsImport, SpellsInstance, SpellsKind, SpellsLocal, SpellsLocals, SpellsMain, SpellsMethod, SpellsSendable, nobody, open_behind, rows_of}
use Rattle.swift_syntax.specs.Declarations as swift
use Rattle.swift_syntax.specs.DeclaringInside.{Continues, Declares, Puts}
use Rattle.swift_syntax.specs.Expressions.{after, kind_at}
use Rattle.swift_syntax.specs.ReadersInside.{Grows, lexed_of, source_with, taken}
use Rattle.swift_syntax.specs.RowsInside.{ArePut}
use Rattle.swift_syntax.specs.Statements.{Row, Source, Separates, SpellsAnnotation, a_key, begins_line, no_token, spells_at, the_word}
use Rattle.swift_syntax.proofs.Declarations.{such_stays}
use Rattle.swift_syntax.proofs.Declaring.{GoesOn, continues_of, goes_stays, more_none, puts, puts_as, puts_of, same_rows}
use Rattle.swift_syntax.proofs.Grown.{extends_of, grows_same}
use Rattle.swift_syntax.proofs.Refused.{clash, grows_taken}
use Rattle.swift_syntax.proofs.Statements.{IsMore, arguments_stay, Stays, block_stays, expr_stays, lexed_stays, row_stays}
use Rattle.swift_syntax.proofs.Steps.{Took, lexed_on, no_row, rows, took_same, took_word}

-- one more token of braces that balance
pub balanced_on : (r s t : Reader) {d e j : ℕ} → Grows r s → (kind_at s.tokens.now s.at ≢ kind.End) × (t ≡ taken s) → e ≡ open_behind (kind_at s.tokens.now s.at) d → e ≢ 0 → SpellsBalanced (lexed_of r) e t.at j → SpellsBalanced (lexed_of r) d s.at j
balanced_on r s t {d} {e} {j} g took is_e more b =
    let same = lexed_on r s (extends_of g) in
    let at : SpellsBalanced (lexed_of r) e (after s.at) j = subst (λ x. SpellsBalanced (lexed_of r) e x j) (ap (λ x. x.at) took.1) b in
    let of : SpellsBalanced (lexed_of s) e (after s.at) j = subst (λ l. SpellsBalanced l e (after s.at) j) (sym same) at in
    let all : SpellsBalanced (lexed_of s) d s.at j = swift.balanced_more took.0 (subst (λ x. x ≢ 0) is_e more) (subst (λ x. SpellsBalanced (lexed_of s) x (after s.at) j) is_e of) in
    subst (λ l. SpellsBalanced l d s.at j) same all

-- the last token of braces that balance
pub balanced_at : (r s t : Reader) {d e : ℕ} → Grows r s → (kind_at s.tokens.now s.at ≢ kind.End) × (t ≡ taken s) → e ≡ open_behind (kind_at s.tokens.now s.at) d → e ≡ 0 → SpellsBalanced (lexed_of r) d s.at t.at
balanced_at r s t {d} {e} g took is_e none =
    let all : SpellsBalanced (lexed_of s) d s.at (after s.at) = swift.balanced_last took.0 (subst (λ x. x ≡ 0) is_e none) in
    let of : SpellsBalanced (lexed_of s) d s.at t.at = subst (λ x. SpellsBalanced (lexed_of s) d s.at x) (sym (ap (λ x. x.at) took.1)) all in
    subst (λ l. SpellsBalanced l d s.at t.at) (lexed_on r s (extends_of g)) of

-- `import` and one of two modules
pub import_of : (r s t u : Reader) → Took r s (λ a. Row a.lexed (a_key word.Import ∷ []) r.at s.at) → t ≡ s → (spells_at s.text.now s.tokens.now s.at (codes "Dispatch") ≡ true) ⊎ (spells_at s.text.now s.tokens.now s.at (codes "Foundation") ≡ true) → Grows s t → Grows t u → u ≡ taken t → IsNone u.refused → SpellsImport (lexed_of u) r.at u.at
import_of r s t u key same known g h took n = modules known
  where
    of_same : (x : List ℕ) → spells_at s.text.now s.tokens.now s.at x ≡ true → spells_at t.text.now t.tokens.now t.at x ≡ true
    of_same x e = subst (λ y. spells_at y.text.now y.tokens.now y.at x ≡ true) (sym same) e

    word_of : (x : List ℕ) → spells_at s.text.now s.tokens.now s.at x ≡ true → Row (lexed_of u) (a_key word.Import ∷ the_word x ∷ []) r.at u.at
    word_of x e = (rows r s u key (rows s t u (took_same s t (λ m. same) g) (took_word t u x (λ m. (of_same x e, took)) h))).holds n []

    modules : (spells_at s.text.now s.tokens.now s.at (codes "Dispatch") ≡ true) ⊎ (spells_at s.text.now s.tokens.now s.at (codes "Foundation") ≡ true) → SpellsImport (lexed_of u) r.at u.at
    modules (inl e) = swift.imports_dispatch (word_of (codes "Dispatch") e)
    modules (inr e) = swift.imports_foundation (word_of (codes "Foundation") e)

-- the same, where what is read hangs on that nothing is refused
pub puts_where : {r s : Reader} {P Q : Source → Type 0} → (IsNone s.refused → (a : Source) → P a → Q a) → Puts r s P → Puts r s Q
puts_where f d = record { continues = d.continues; adds = λ n b. let x = d.adds n b in record { more = x.more; stmts = x.stmts; holds = λ xs l. f n _ (x.holds xs l) } }

-- where all is refused
pub puts_refused : (r s : Reader) {P : Source → Type 0} → Continues r s → IsSome s.refused → Puts r s P
puts_refused r s g noted = record { continues = g; adds = λ n b. clash _ n noted }

-- what is put into a table
pub put_rows : (s t : Reader) {u : Rows} → (IsNone t.refused → ArePut s t u) → Continues s t → Puts s t (λ a. Row a.lexed [] s.at t.at × (rows_of t.tree.value ≡ u))
put_rows s t put g =
    record {
      continues = g;
      adds = λ n b. record { more = []; stmts = ap (λ v. v.items) (put n).stmts ∙ sym (append-nil s.tree.value.stmts.items); holds = λ xs l. (no_token (sym (put n).at), (put n).rows) };
    }

-- a row that is put behind what is read of it
pub put_behind : (r s t : Reader) {P : Source → Type 0} (Q : Source → ℕ → ℕ → Rows → Rows → Type 0) (f : Rows → Rows) → Stays P → Took r s P → (IsNone t.refused → ArePut s t (f (rows_of s.tree.value))) → Continues s t → (IsNone s.refused → (a : Source) → P a → Q a r.at s.at (rows_of r.tree.value) (f (rows_of r.tree.value))) → Declares r t Q
put_behind r s t Q f stays p put g make =
    let same = same_rows r s p.grows in
    puts_where (λ n a x.
    let all = make (g.refused n) a x.0 in
    let is : rows_of t.tree.value ≡ f (rows_of r.tree.value) = x.1.1 ∙ ap f same in
    subst (λ j. Q a r.at j (rows_of r.tree.value) (rows_of t.tree.value)) (no_row a.lexed x.1.0) (subst (λ u. Q a r.at s.at (rows_of r.tree.value) u) (sym is) all)) (puts r s t stays (puts_of r s p) (put_rows s t put g))

-- what declares nothing
pub took_declares : (r s : Reader) {P : Source → Type 0} (Q : Source → ℕ → ℕ → Rows → Rows → Type 0) → Took r s P → ((a : Source) (u : Rows) → P a → Q a r.at s.at u u) → Declares r s Q
took_declares r s Q p make = puts_as (λ a x. subst (λ u. Q a r.at s.at (rows_of r.tree.value) u) (sym (same_rows r s p.grows)) (make a (rows_of r.tree.value) x)) (puts_of r s p)

-- what declares nothing, and what is declared behind it
pub took_then : (r s t : Reader) {P : Source → Type 0} (Q S : Source → ℕ → ℕ → Rows → Rows → Type 0) → Stays P → Took r s P → Declares s t Q → (IsNone s.refused → (a : Source) (u v : Rows) → P a → Q a s.at t.at u v → S a r.at t.at u v) → Declares r t S
took_then r s t Q S stays p q make =
    puts_where (λ n a x. make (q.continues.refused n) a (rows_of r.tree.value) (rows_of t.tree.value) x.0 (subst (λ u. Q a s.at t.at u (rows_of t.tree.value)) (same_rows r s p.grows) x.1)) (puts r s t stays (puts_of r s p) q)

-- what is declared, and what declares nothing behind it
pub then_took : (r s t : Reader) {P : Source → Type 0} (Q S : Source → ℕ → ℕ → Rows → Rows → Type 0) → ((i j : ℕ) (u v : Rows) → Stays (λ a. Q a i j u v)) → Declares r s Q → Took s t P → ((a : Source) (u v : Rows) → Q a r.at s.at u v → P a → S a r.at t.at u v) → Declares r t S
then_took r s t Q S stays q p make =
    puts_as (λ a x. subst (λ v. S a r.at t.at (rows_of r.tree.value) v) (sym (same_rows s t p.grows)) (make a (rows_of r.tree.value) (rows_of s.tree.value) x.0 x.1)) (puts r s t (stays r.at s.at (rows_of r.tree.value) (rows_of s.tree.value)) q (puts_of s t p))

pub continues_same : (r : Reader) → Continues r r
continues_same r = continues_of (extends_of (grows_same r))

-- where a reader is, up to where another one is
abbrev pub Goes : (Source → ℕ → ℕ → Rows → Rows → Type 0) → Reader → Reader → Type 0
Goes Q r s = Puts r s (GoesOn Q r.at s.at (rows_of r.tree.value) (rows_of s.tree.value))

pub goes_begins : (Q : Source → ℕ → ℕ → Rows → Rows → Type 0) (r : Reader) → Goes Q r r
goes_begins Q r = record { continues = continues_same r; adds = λ n b. record { more = []; stmts = sym (append-nil r.tree.value.stmts.items); holds = λ xs l b m k u d. d } }

pub goes_on : (Q : Source → ℕ → ℕ → Rows → Rows → Type 0) (r s t : Reader) → Goes Q r s → Goes Q s t → Goes Q r t
goes_on Q r s t p q = puts_as (λ a x b m k u d. x.0 b m k u (x.1 b m k u d)) (puts r s t (goes_stays Q r.at s.at (rows_of r.tree.value) (rows_of s.tree.value)) p q)

pub goes_ends : (Q : Source → ℕ → ℕ → Rows → Rows → Type 0) (r s t : Reader) → Goes Q r s → Declares s t Q → Declares r t Q
goes_ends Q r s t p q = puts_as (λ a x. x.0 a (more_none a) t.at (rows_of t.tree.value) x.1) (puts r s t (goes_stays Q r.at s.at (rows_of r.tree.value) (rows_of s.tree.value)) p q)

-- a turn that declares nothing
pub goes_took : (Q : Source → ℕ → ℕ → Rows → Rows → Type 0) (s t : Reader) {P : Source → Type 0} → Stays P → Took s t P → ((b : Source) (k : ℕ) (u v : Rows) → P b → Q b t.at k u v → Q b s.at k u v) → Goes Q s t
goes_took Q s t stays p make =
    puts_as (λ a x b m k u d. make b k (rows_of s.tree.value) u (stays a b m x) (subst (λ v. Q b t.at k v u) (same_rows s t p.grows) d)) (puts_of s t p)

-- a turn
pub goes_declared : (Q S : Source → ℕ → ℕ → Rows → Rows → Type 0) (s t : Reader) → ((i j : ℕ) (u v : Rows) → Stays (λ a. S a i j u v)) → Declares s t S → ((b : Source) (k : ℕ) (u v w : Rows) → S b s.at t.at u v → Q b t.at k v w → Q b s.at k u w) → Goes Q s t
goes_declared Q S s t stays p make =
    puts_as (λ a x b m k u d. make b k (rows_of s.tree.value) (rows_of t.tree.value) u (stays s.at t.at (rows_of s.tree.value) (rows_of t.tree.value) a b m x) d) p

pub both_stay : {P Q : Source → Type 0} → Stays P → Stays Q → Stays (λ a. P a × Q a)
both_stay p q a b m x = (p a b m x.0, q a b m x.1)

-- a sign that is not there is not taken
pub not_taken : (r s : Reader) (x : Sign) → kind_at r.tokens.now r.at ≢ kind.Sign x → s ≡ r → Took r s (λ a. (kind_at a.lexed.tokens s.at ≢ kind.Sign x) × Row a.lexed [] r.at s.at)
not_taken r s x other e =
    record {
      grows = subst (λ y. Grows r y) (sym e) (grows_same r);
      holds = λ n xs. (subst (λ y. kind_at y.tokens.now y.at ≢ kind.Sign x) (sym e) other, no_token (sym (ap (λ y. y.at) e)));
    }

-- a token of a kind that was there and is taken
pub takes_kind : (r s : Reader) (k : TokenKind) → kind_at r.tokens.now r.at ≡ k → s ≡ taken r → Took r s (λ a. (kind_at a.lexed.tokens r.at ≡ k) × (after r.at ≡ s.at))
takes_kind r s k is e =
    record {
      grows = grows_taken e;
      holds = λ n xs. (subst (λ y. kind_at y.tokens.now r.at ≡ k) (sym e) is, sym (ap (λ y. y.at) e));
    }

-- a token that begins a line, and is not taken
pub took_begins : (r s : Reader) → (IsNone s.refused → s ≡ r) → (IsNone s.refused → begins_line (lexed_of r) r.at ≡ true) → Grows r s → Took r s (λ a. Row a.lexed [] r.at s.at × (begins_line a.lexed r.at ≡ true))
took_begins r s e f g = record { grows = g; holds = λ n xs. (no_token (sym (ap (λ y. y.at) (e n))), subst (λ y. begins_line (lexed_of y) r.at ≡ true) (sym (e n)) (f n)) }

pub literal_stays : (i j p : ℕ) → Stays (λ a. ReadsSuch IsLiteral a i j p)
literal_stays = such_stays IsLiteral

pub took_literal : (r s : Reader) (p : ℕ) → (IsNone s.refused → (xs : List Stmt) → ReadsSuch IsLiteral (source_with s xs) r.at s.at p) → Grows r s → Took r s (λ a. ReadsSuch IsLiteral a r.at s.at p)
took_literal r s p d g = record { grows = g; holds = d }

pub local_stays : (of i j : ℕ) (u v : Rows) → Stays (λ a. SpellsLocal a of i j u v)
local_stays of i j u v s t m (swift.a_local {k = x} {m = y} {t = w} a b c d e) = swift.a_local (row_stays _ _ _ s t m a) (row_stays _ _ _ s t m b) (lexed_stays (λ l. SpellsAnnotation l x y w) s t m c) (row_stays _ _ _ s t m d) (literal_stays _ _ _ s t m e)

pub locals_stay : {of : ℕ} (s t : Source) {i j : ℕ} {u v : Rows} → IsMore s t → SpellsLocals s of i j u v → SpellsLocals t of i j u v
locals_stay s t m (swift.locals_end a) = swift.locals_end (row_stays _ _ _ s t m a)
locals_stay s t m (swift.locals_blank a b) = swift.locals_blank (row_stays _ _ _ s t m a) (locals_stay s t m b)
locals_stay s t m (swift.locals_more {j = j} {k = k} a b c) = swift.locals_more (local_stays _ _ _ _ _ s t m a) (lexed_stays (λ l. Separates l j k) s t m b) (locals_stay s t m c)

pub main_there : (of i j : ℕ) (u v : Rows) → Stays (λ a. SpellsMain a of i j u v)
main_there of i j u v s t m (swift.a_main {j = k} {k = n} {h = h} a b c d e f) = swift.a_main (row_stays _ _ _ s t m a) (lexed_stays (λ l. SpellsHead l k n h) s t m b) (lexed_stays (λ l. spells_at l.text l.tokens h.name (codes "main") ≡ true) s t m c) d e (block_stays s t m f)

instance_stays : (name i j : ℕ) (u v : Rows) → Stays (λ a. SpellsInstance a name i j u v)
instance_stays name i j u v s t m (swift.an_instance a b) = swift.an_instance (row_stays _ _ _ s t m a) (arguments_stay _ _ _ s t m b)

-- a declaration stays where actors and methods do
pub declaration_stays : ((i j : ℕ) (u v : Rows) → Stays (λ a. SpellsActor a i j u v)) → ((i j : ℕ) (u v : Rows) → Stays (λ a. SpellsMethod a nobody Open i j u v)) → (i j : ℕ) (u v : Rows) → Stays (λ a. SpellsDeclaration a i j u v)
declaration_stays actor method i j u v s t m (swift.decl_import a) = swift.decl_import (lexed_stays (λ l. SpellsImport l i j) s t m a)
declaration_stays actor method i j u v s t m (swift.decl_faults {j = k} a b) = swift.decl_faults (row_stays _ _ _ s t m a) (lexed_stays (λ l. SpellsCases l (after i) (length u.cases) k j u v) s t m b)
declaration_stays actor method i j u v s t m (swift.decl_locals a b) = swift.decl_locals (row_stays _ _ _ s t m a) (locals_stay s t m b)
declaration_stays actor method i n u v s t m (swift.decl_executor {j = j} {k = k} {m = o} {of = of} a b c d e f g) = swift.decl_executor (lexed_stays (λ l. kind_at l.tokens i ≡ kind.Executor) s t m a) (lexed_stays (λ l. SpellsKind l (after i) j of) s t m b) (lexed_stays (λ l. begins_line l j ≡ true) s t m c) (row_stays _ _ _ s t m d) (lexed_stays (λ l. SpellsSendable l k o) s t m e) (lexed_stays (λ l. kind_at l.tokens o ≡ kind.Sign sign.OpenBrace) s t m f) (lexed_stays (λ l. SpellsBalanced l 0 o n) s t m g)
declaration_stays actor method i j u v s t m (swift.decl_expectation a b) = swift.decl_expectation (lexed_stays (λ l. kind_at l.tokens i ≡ kind.Expect) s t m a) (expr_stays _ _ _ s t m b)
declaration_stays actor method i n u v s t m (swift.decl_instance {j = j} {k = k} {m = o} {t = w} a b c d) = swift.decl_instance (row_stays _ _ _ s t m a) (lexed_stays (λ l. SpellsAnnotation l j k w) s t m b) (row_stays _ _ _ s t m c) (instance_stays _ _ _ _ _ s t m d)
declaration_stays actor method i n u v s t m (swift.decl_constant {j = j} {k = k} {t = w} a b c d) = swift.decl_constant (row_stays _ _ _ s t m a) (lexed_stays (λ l. SpellsAnnotation l j k w) s t m b) (row_stays _ _ _ s t m c) (literal_stays _ _ _ s t m d)
declaration_stays actor method i n u v s t m (swift.decl_main {j = j} {k = k} a b c d e) = swift.decl_main (row_stays _ _ _ s t m a) (lexed_stays (λ l. SpellsHolder l j k) s t m b) (row_stays _ _ _ s t m c) (main_there _ _ _ _ _ s t m d) (row_stays _ _ _ s t m e)
declaration_stays actor method i j u v s t m (swift.decl_actor a) = swift.decl_actor (actor _ _ _ _ s t m a)
declaration_stays actor method i j u v s t m (swift.decl_final_actor a b) = swift.decl_final_actor (row_stays _ _ _ s t m a) (actor _ _ _ _ s t m b)
declaration_stays actor method i n u v s t m (swift.decl_function {j = j} {access = access} a b) = swift.decl_function (lexed_stays (λ l. SpellsAccess l i j access) s t m a) (method _ _ _ _ s t m b)
