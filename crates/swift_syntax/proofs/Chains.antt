-- The statements of a block, up to one that nothing follows yet.
use Rattle.std.proofs.Common.{◌≡◌, ◌<◌, ℕ, List, [], ◌∷◌, ◌++◌, length, Some, refl, sym, ap, subst, ◌∙◌, arith, append_assoc}
use Rattle.std.proofs.lemmas.List.{append-nil, length-append, set_at}
use Rattle.std.specs.List.{slice_get}
use Rattle.std.specs.Prelude.{IsNone, slice_set}
use Rattle.swift_syntax.specs.declared.reader.Reader.{Reader}
use Rattle.swift_syntax.specs.declared.sign.Sign.TheVariants as sign
use Rattle.swift_syntax.specs.declared.token.TokenKind.TheVariants as kind
use Rattle.swift_syntax.specs.declared.tree.Stmt.{Stmt}
use Rattle.swift_syntax.specs.declared.word.Word.TheVariants as word
use Rattle.swift_syntax.specs.Expressions.{kind_at}
use Rattle.swift_syntax.specs.ReadersInside.{Adds, AddsStmt, Extends, Grows, IsBegun, IsLinked, lexed_of, source_with, with_next}
use Rattle.swift_syntax.specs.Statements.{Lexed, Row, Separates, SpellsElse, SpellsRest, SpellsStmt, a_key, a_sign}
use Rattle.swift_syntax.specs.Statements as swift
use Rattle.swift_syntax.proofs.Grown.{extends_of, extends_on, get_more, get_put, grows_same}
use Rattle.swift_syntax.proofs.Statements.{IsMore, stmt_stays}
use Rattle.swift_syntax.proofs.Steps.{Took, lexed_on, more_read}

-- What completes the rest completes the block: its first statement has this place, and its last one that.
pub data Chain (r s : Reader) : ℕ → ℕ → Type 0 where
  no_link : {last : ℕ} → s.tree.value.stmts.items ≡ r.tree.value.stmts.items → ((n : Reader) → Extends s n → (xs : List Stmt) (j p : ℕ) → SpellsRest (source_with n xs) s.at j p → SpellsRest (source_with n xs) r.at j p) → Chain r s 0 last
  links : {first last : ℕ} (ms : List Stmt) (made : Stmt) → s.tree.value.stmts.items ≡ (r.tree.value.stmts.items ++ ms) ++ made ∷ [] → last ≡ length (r.tree.value.stmts.items ++ ms) → made.next ≡ 0 → 0 < first → ((n : Reader) → Extends s n → (xs : List Stmt) → length xs ≡ length r.tree.value.stmts.items → (q : ℕ) (ys : List Stmt) (j : ℕ) → SpellsRest (source_with n ((xs ++ ms) ++ with_next q made ∷ ys)) s.at j q → SpellsRest (source_with n ((xs ++ ms) ++ with_next q made ∷ ys)) r.at j first) → Chain r s first last

pub chain_begins : (r : Reader) → Chain r r 0 0
chain_begins r = no_link refl (λ n e xs j p d. d)

row_read : (s n : Reader) {ws : List swift.Want} {i j : ℕ} → Extends s n → Row (lexed_of s) ws i j → Row (lexed_of n) ws i j
row_read s n {ws} {i} {j} e d = subst (λ l. Row l ws i j) (sym (lexed_on s n e)) d

-- a `;` is passed over
pub chain_skips : {r s t : Reader} {first last : ℕ} → Chain r s first last → Grows s t → Row (lexed_of t) (a_sign sign.Semicolon ∷ []) s.at t.at → Chain r t first last
chain_skips {r} {s} {t} (no_link same k) g row = no_link (ap (λ v. v.items) g.stmts ∙ same) (λ n e xs j p d. k n (extends_on (extends_of g) e) xs j p (swift.no_stmt (row_read t n e row) d))
chain_skips {r} {s} {t} (links ms made at place next begun k) g row = links ms made (ap (λ v. v.items) g.stmts ∙ at) place next begun (λ n e xs l q ys j d. k n (extends_on (extends_of g) e) xs l q ys j (swift.no_stmt (row_read t n e row) d))

unlinked : (made : Stmt) → made.next ≡ 0 → with_next 0 made ≡ made
unlinked made e = ap (λ n. with_next n made) (sym e)

-- the brace that closes the block
pub chain_closes : {r s t : Reader} {first last : ℕ} → Chain r s first last → Grows s t → Row (lexed_of t) (a_sign sign.CloseBrace ∷ []) s.at t.at → Adds r t (λ a. SpellsRest a r.at t.at first)
chain_closes {r} {s} {t} (no_link same k) g row =
    record {
      more = [];
      stmts = ap (λ v. v.items) g.stmts ∙ same ∙ sym (append-nil r.tree.value.stmts.items);
      holds = λ xs l. k t (extends_of g) (xs ++ []) t.at 0 (swift.closed row);
    }
chain_closes {r} {s} {t} {first} (links ms made at place next begun k) g row =
    record {
      more = ms ++ made ∷ [];
      stmts = ap (λ v. v.items) g.stmts ∙ at ∙ append_assoc r.tree.value.stmts.items ms (made ∷ []);
      holds = λ xs l.
          let whole = k t (extends_of g) xs l 0 [] t.at (swift.closed row) in
          subst (λ ys. SpellsRest (source_with t ys) r.at t.at first) (append_assoc xs ms (made ∷ [])) (subst (λ x. SpellsRest (source_with t ((xs ++ ms) ++ x ∷ [])) r.at t.at first) (unlinked made next) whole);
    }

get_seam : (xs ys : List Stmt) (x : Stmt) (p : ℕ) → p ≡ length xs → slice_get (xs ++ x ∷ ys) p ≡ Some x
get_seam xs ys x p e =
    let there : slice_get ((xs ++ x ∷ []) ++ ys) (length xs) ≡ Some x = get_more (xs ++ x ∷ []) ys (length xs) x (get_put xs x) in
    subst (λ q. slice_get (xs ++ x ∷ ys) q ≡ Some x) (sym e) (subst (λ zs. slice_get zs (length xs) ≡ Some x) (append_assoc xs (x ∷ []) ys) there)

same_long : (zs xs more : List Stmt) → length zs ≡ length xs → length (zs ++ more) ≡ length (xs ++ more)
same_long zs xs more e = rw (length-append zs more, length-append xs more, e) refl

-- one more statement before the rest
one_on : (s t u n : Reader) {p : ℕ} (d : AddsStmt s t s.at p) → IsBegun s → Grows t u → Separates (lexed_of u) t.at u.at → Extends u n → (zs : List Stmt) → length zs ≡ length s.tree.value.stmts.items → (q : ℕ) (ys : List Stmt) (j : ℕ) → SpellsRest (source_with n ((zs ++ d.more) ++ with_next q d.made ∷ ys)) u.at j q → SpellsRest (source_with n ((zs ++ d.more) ++ with_next q d.made ∷ ys)) s.at j p
one_on s t u n {p} d begun g sep e zs l q ys j rest =
    let long = same_long zs s.tree.value.stmts.items d.more l in
    let far : 0 < p = rw (d.place_is, length-append s.tree.value.stmts.items d.more) (omega (arith, begun)) in
    let m : IsMore (source_with t (zs ++ d.more)) (source_with n ((zs ++ d.more) ++ with_next q d.made ∷ ys)) = more_read t n (zs ++ d.more) (with_next q d.made ∷ ys) (extends_on (extends_of g) e) in
    let between : Separates (lexed_of n) t.at u.at = subst (λ x. Separates x t.at u.at) (sym (lexed_on u n e)) sep in
    swift.one_stmt {made = with_next q d.made} (stmt_stays _ _ m (d.spelled zs l)) (get_seam (zs ++ d.more) ys (with_next q d.made) p (d.place_is ∙ sym long)) far d.end between rest

-- the first statement
pub chain_first : {r s t u : Reader} {last p : ℕ} → Chain r s 0 last → IsBegun r → Extends s t → AddsStmt s t s.at p → Grows t u → Separates (lexed_of u) t.at u.at → Chain r u p p
chain_first {r} {s} {t} {u} {last} {p} (no_link same k) begun e_t d g sep =
    let begun_s : IsBegun s = rw same begun in
    let far : 0 < p = rw (d.place_is, length-append s.tree.value.stmts.items d.more) (omega (arith, begun_s)) in
    links d.more d.made (ap (λ v. v.items) g.stmts ∙ d.stmts ∙ ap (λ xs. (xs ++ d.more) ++ d.made ∷ []) same) (d.place_is ∙ ap (λ xs. length (xs ++ d.more)) same) d.next far
    (λ n e xs l q ys j rest. k n (extends_on e_t (extends_on (extends_of g) e)) ((xs ++ d.more) ++ with_next q d.made ∷ ys) j p (one_on s t u n d begun_s g sep e xs (l ∙ sym (ap length same)) q ys j rest))
chain_first (links ms made at place next begun k) b e_t d g sep = absurd (omega (arith, begun))

-- where the last statement stands, and what stands behind it
seam : (base ms more ys : List Stmt) (x : Stmt) → (((base ++ ms) ++ x ∷ []) ++ more) ++ ys ≡ (base ++ ms) ++ x ∷ (more ++ ys)
seam base ms more ys x = append_assoc ((base ++ ms) ++ x ∷ []) more ys ∙ append_assoc (base ++ ms) (x ∷ []) (more ++ ys)

lengths : (base ms more : List Stmt) (x y : Stmt) → length (((base ++ ms) ++ x ∷ []) ++ more) ≡ length (base ++ (ms ++ y ∷ more))
lengths base ms more x y = rw (length-append ((base ++ ms) ++ x ∷ []) more, length-append (base ++ ms) (x ∷ []), length-append base ms, length-append base (ms ++ y ∷ more), length-append ms (y ∷ more)) (omega arith)

as_long : (xs base ms : List Stmt) (x y : Stmt) → length xs ≡ length base → length ((xs ++ ms) ++ x ∷ []) ≡ length ((base ++ ms) ++ y ∷ [])
as_long xs base ms x y e = rw (length-append (xs ++ ms) (x ∷ []), length-append (base ++ ms) (y ∷ []), length-append xs ms, length-append base ms, e) refl

folded : (base ms more ys : List Stmt) (x : Stmt) → (base ++ ms) ++ x ∷ (more ++ ys) ≡ (base ++ (ms ++ x ∷ more)) ++ ys
folded base ms more ys x = sym (append_assoc base (ms ++ x ∷ more) ys ∙ ap (λ zs. base ++ zs) (append_assoc ms (x ∷ more) ys) ∙ sym (append_assoc base ms (x ∷ (more ++ ys))))

-- the next statement, which follows the last one
pub chain_next : {r s t u v : Reader} {first last p : ℕ} → Chain r s first last → 0 < first → IsBegun s → Extends s t → (d : AddsStmt s t s.at p) → Grows t u → Separates (lexed_of u) t.at u.at → IsLinked u v last p → Extends u v → Chain r v first p
chain_next (no_link same k) far begun e_t d g sep link x = absurd (omega (arith, far))
chain_next {r} {s} {t} {u} {v} {first} {last} {p} (links ms made at place next begins k) far begun e_t d g sep link x =
    let base = r.tree.value.stmts.items in
    let after : Stmt = with_next p made in
    let before : u.tree.value.stmts.items ≡ (base ++ ms) ++ made ∷ (d.more ++ d.made ∷ []) = ap (λ w. w.items) g.stmts ∙ d.stmts ∙ ap (λ xs. (xs ++ d.more) ++ d.made ∷ []) at ∙ seam base ms d.more (d.made ∷ []) made in
    let found : slice_get u.tree.value.stmts.items last ≡ Some made = subst (λ xs. slice_get xs last ≡ Some made) (sym before) (get_seam (base ++ ms) (d.more ++ d.made ∷ []) made last place) in
    let changed : slice_set ((base ++ ms) ++ made ∷ (d.more ++ d.made ∷ [])) last after ≡ (base ++ ms) ++ after ∷ (d.more ++ d.made ∷ []) = set_at (base ++ ms) made (d.more ++ d.made ∷ []) after last (sym place) in
    let now : v.tree.value.stmts.items ≡ (base ++ (ms ++ after ∷ d.more)) ++ d.made ∷ [] = link.stmts made found ∙ ap (λ xs. slice_set xs last after) before ∙ changed ∙ folded base ms d.more (d.made ∷ []) after in
    let long : p ≡ length (base ++ (ms ++ after ∷ d.more)) = d.place_is ∙ ap (λ ys. length (ys ++ d.more)) at ∙ lengths base ms d.more made after in
    links (ms ++ after ∷ d.more) d.made now long d.next begins
    (λ n e xs l q ys j rest.
    let e_u = extends_on x e in
    let zs = (xs ++ ms) ++ after ∷ [] in
    let as_one : (xs ++ (ms ++ after ∷ d.more)) ++ with_next q d.made ∷ ys ≡ (zs ++ d.more) ++ with_next q d.made ∷ ys = sym (folded xs ms d.more (with_next q d.made ∷ ys) after) ∙ sym (seam xs ms d.more (with_next q d.made ∷ ys) after) in
    let behind : SpellsRest (source_with n ((zs ++ d.more) ++ with_next q d.made ∷ ys)) u.at j q = subst (λ i. SpellsRest (source_with n ((zs ++ d.more) ++ with_next q d.made ∷ ys)) i j q) link.at (subst (λ ws. SpellsRest (source_with n ws) v.at j q) as_one rest) in
    let here : SpellsRest (source_with n ((zs ++ d.more) ++ with_next q d.made ∷ ys)) s.at j p = one_on s t u n d begun g sep e_u zs (as_long xs base ms after made l ∙ sym (ap length at)) q ys j behind in
    let whole = k n (extends_on e_t (extends_on (extends_of g) e_u)) xs l p (d.more ++ with_next q d.made ∷ ys) j (subst (λ ws. SpellsRest (source_with n ws) s.at j p) (seam xs ms d.more (with_next q d.made ∷ ys) after) here) in
    subst (λ ws. SpellsRest (source_with n ws) r.at j first) (folded xs ms d.more (with_next q d.made ∷ ys) after) whole)

pub chain_begun : {r s : Reader} {first last : ℕ} → Chain r s first last → IsBegun r → IsBegun s
chain_begun (no_link same k) b = rw same b
chain_begun {r} (links ms made at place next begun k) b = rw (at, length-append (r.tree.value.stmts.items ++ ms) (made ∷ []), length-append r.tree.value.stmts.items ms) (omega (arith, b))

-- a statement that is read and put after the last one, or begins the block
pub chain_follows : {r s t u v : Reader} {first last p result : ℕ} → Chain r s first last → IsBegun r → Extends s t → (IsBegun s → AddsStmt s t s.at p) → Grows t u → Separates (lexed_of u) t.at u.at → (first ≡ 0 → (result ≡ p) × (v ≡ u)) → (0 < first → (result ≡ first) × IsLinked u v last p) → Extends u v → Chain r v result p
chain_follows {r} {s} {t} {u} {v} {first} {last} {p} {result} (no_link same k) b e_t reads g sep begins follows x =
    let begun_s : IsBegun s = rw same b in
    let it = begins refl in
    let chain : Chain r u p p = chain_first {last = last} (no_link {last = last} same k) b e_t (reads begun_s) g sep in
    subst (λ q. Chain r v q p) (sym it.0) (subst (λ w. Chain r w p p) (sym it.1) chain)
chain_follows {r} {s} {t} {u} {v} {first} {last} {p} {result} (links ms made at place next begun k) b e_t reads g sep begins follows x =
    let chain = links ms made at place next begun k in
    let it = follows begun in
    let begun_s = chain_begun chain b in
    subst (λ q. Chain r v q p) (sym it.0) (chain_next chain begun begun_s e_t (reads begun_s) g sep it.1 x)

-- an `if` behind `else`
pub else_read : (r s t : Reader) {p : ℕ} → (row : Took r s (λ a. Row a.lexed (a_key word.Else ∷ []) r.at s.at)) → kind_at s.tokens.now s.at ≡ kind.Key word.If → Extends s t → AddsStmt s t s.at p → IsNone t.refused → IsBegun s → Adds r t (λ a. SpellsElse a r.at t.at p)
else_read r s t {p} row is_if e d n begun =
    let same : s.tree.value.stmts.items ≡ r.tree.value.stmts.items = ap (λ v. v.items) row.grows.stmts in
    let far : 0 < p = rw (d.place_is, length-append s.tree.value.stmts.items d.more) (omega (arith, begun)) in
    let there : kind_at t.tokens.now s.at ≡ kind.Key word.If = ap (λ ts. kind_at ts.now s.at) e.tokens ∙ is_if in
    record {
      more = d.more ++ d.made ∷ [];
      stmts = d.stmts ∙ ap (λ xs. (xs ++ d.more) ++ d.made ∷ []) same ∙ append_assoc r.tree.value.stmts.items d.more (d.made ∷ []);
      holds = λ xs l.
          let long : length xs ≡ length s.tree.value.stmts.items = l ∙ sym (ap length same) in
          let read = stmt_stays _ _ (more_read t t (xs ++ d.more) (d.made ∷ []) (extends_of (grows_same t))) (d.spelled xs long) in
          let found = get_seam (xs ++ d.more) [] d.made p (d.place_is ∙ sym (same_long xs s.tree.value.stmts.items d.more long)) in
          let other : SpellsElse (source_with t ((xs ++ d.more) ++ d.made ∷ [])) r.at t.at p = swift.else_if {made = d.made} (row_read s t e (row.holds (e.refused n) [])) there read found far d.end d.next in
          subst (λ ys. SpellsElse (source_with t ys) r.at t.at p) (append_assoc xs d.more (d.made ∷ [])) other;
    }
