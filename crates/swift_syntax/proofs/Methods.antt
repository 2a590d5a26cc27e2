-- The body of a method, whose only statement may be changed once it is read; and what a method is, whose parts are known.
use Rattle.std.proofs.Common.{◌≡◌, ◌<◌, ◌≤◌, ℕ, zero, suc, ◌+◌, ◌-◌, Bool, true, false, not, ◌&&◌, if◌then◌else◌, List, [], ◌∷◌, ◌++◌, Option, Some, None, codes, length, nat_eq, refl, sym, ap, subst, ◌∙◌, arith}
use Rattle.std.proofs.Math.Dec.{eqb-suc-zero}
use Rattle.std.proofs.lemmas.Bool.{eq-eqb, false≢true, ne_eqb}
use Rattle.std.proofs.lemmas.List.{append-nil, set-append_right, set-get_or}
use Rattle.std.proofs.lemmas.Option.{get_or_from_slice_get}
use Rattle.std.specs.List.{slice_get}
use Rattle.std.specs.Prelude.{IsNone, slice_set}
use Rattle.swift_syntax.specs.declared.closure.HeadForm.{HeadForm}
use Rattle.swift_syntax.specs.declared.closure.HeadForm.TheVariants as head
use Rattle.swift_syntax.specs.declared.reader.Reader.{Reader}
use Rattle.swift_syntax.specs.declared.tree.Access.{Access}
use Rattle.swift_syntax.specs.declared.tree.Into.{Into}
use Rattle.swift_syntax.specs.declared.tree.Into.TheVariants as into
use Rattle.swift_syntax.specs.declared.tree.MethodDecl.{MethodDecl}
use Rattle.swift_syntax.specs.declared.tree.Stmt.{Stmt}
use Rattle.swift_syntax.specs.declared.tree.StmtForm.{StmtForm}
use Rattle.swift_syntax.specs.declared.tree.StmtForm.TheVariants as form
use Rattle.swift_syntax.specs.declared.tree.ValueType.{ValueType}
use Rattle.swift_syntax.specs.declared.tree.ValueType.TheVariants as type
use Rattle.swift_syntax.specs.Declarations.{IsLoneValue, MethodHead, Rows, SpellsBody, SpellsHead, SpellsMethod, a_method, an_invariant, found_returned, is_invariant, lone_let_go, lone_returned, lone_returned_value, method_of, nobody, returned, rows_of}
use Rattle.swift_syntax.specs.DeclaringInside.{IsNew, Puts, PutsHead, SaysTest, says_invariant, says_none, says_test, with_method, with_test}
use Rattle.swift_syntax.specs.ReadersInside.{Adds, Extends, Grows, IsBegun, source_of, source_with}
use Rattle.swift_syntax.specs.Statements.{Lexed, Source, SpellsBlock, SpellsRest, SpellsStmt, closed_form, spells_at}
use Rattle.swift_syntax.specs.Statements as swift
use Rattle.swift_syntax.proofs.Bodies.{body_stays, lone_stays}
use Rattle.swift_syntax.proofs.Declaring.{head_put_stays, kept_rows, puts, puts_as, puts_step}
use Rattle.swift_syntax.proofs.Grown.{extended, extends_of, extends_on}
use Rattle.swift_syntax.proofs.Statements.{IsMore, Stays, block_stays, lexed_stays}
use Rattle.swift_syntax.proofs.Steps.{Step, lexed_on, step_call}

get_right : {A : Type 0} (xs ys : List A) (n p : ℕ) → length xs ≡ n → n ≤ p → slice_get (xs ++ ys) p ≡ slice_get ys (p - n)
get_right [] ys n p e l = let at : p ≡ p - n = omega (arith, e) in ap (slice_get ys) at
get_right (x ∷ xs) ys n zero e l = absurd (omega (arith, e, l))
get_right (x ∷ xs) ys n (suc p) e l = let at : p - (n - 1) ≡ suc p - n = omega (arith, e, l) in get_right xs ys (n - 1) p (omega (arith, e)) (omega (arith, l)) ∙ ap (slice_get ys) at

-- a statement that no tokens spell: one that returns nothing has no `await`
abbrev unspelled : Stmt
unspelled = record { form = form.Return; token = 0; end = 0; next = 0; is_awaited = true; is_tried = false }

-- as many of it
abbrev unread : List Stmt → List Stmt
unread [] = []
unread (x ∷ xs) = unspelled ∷ unread xs

length_unread : (xs : List Stmt) → length (unread xs) ≡ length xs
length_unread [] = refl
length_unread (x ∷ xs) = ap suc (length_unread xs)

get_unread : (xs ys : List Stmt) (p : ℕ) → p < length xs → slice_get (unread xs ++ ys) p ≡ Some unspelled
get_unread [] ys p l = absurd (omega (arith, l))
get_unread (x ∷ xs) ys zero l = refl
get_unread (x ∷ xs) ys (suc p) l = get_unread xs ys p (omega (arith, l))

abbrev is_return : StmtForm → Bool
is_return form.Return = true
is_return _ = false

closed_other : (h : HeadForm) (x : Into) (c b : ℕ) → is_return (closed_form h x c b) ≡ false
closed_other (head.Task own p) (into.Let name t) c b = refl
closed_other (head.Task own p) x c b = refl
closed_other (head.Add only p) x c b = refl
closed_other (head.Group t throwing) x c b = refl
closed_other (head.Bind of value) x c b = refl

-- whether a statement may be one that tokens spell
abbrev may_spell : StmtForm → Bool → Bool
may_spell f a = not (is_return f && a)

stmt_may : (s : Source) {i j token : ℕ} {f : StmtForm} {a b : Bool} → SpellsStmt s i j f token a b → may_spell f a ≡ true
stmt_may s (swift.enclosed {captures = q} {body = body} {x = x} {h = h} a b c d) = ap (λ y. not (y && h.is_awaited)) (closed_other h.form x q body)
stmt_may s _ = refl

rest_elsewhere : (s : Source) {i j p : ℕ} → SpellsRest s i j p → slice_get s.stmts p ≡ Some unspelled → 0 < p → ⊥
rest_elsewhere s (swift.closed a) e l = absurd (omega (arith, l))
rest_elsewhere s (swift.no_stmt a r) e l = rest_elsewhere s r e l
rest_elsewhere s (swift.one_stmt {p = p} {made = made} a b c d f r) e l =
    let same : Some made ≡ Some unspelled = sym b ∙ e in
    let is : made ≡ unspelled = cc in
    false≢true (ap (λ (x : Stmt). may_spell x.form x.is_awaited) (sym is) ∙ stmt_may s a)

block_elsewhere : (s : Source) {i j p : ℕ} → SpellsBlock s i j p → slice_get s.stmts p ≡ Some unspelled → 0 < p → ⊥
block_elsewhere s (swift.opened a r) e l = rest_elsewhere s r e l

-- a block that is spelled whichever statements stood before begins at none of those, since they may be ones that no tokens spell
pub block_new : (s : Reader) (old more : List Stmt) {i j p : ℕ} → ((xs : List Stmt) → length xs ≡ length old → SpellsBlock (source_with s (xs ++ more)) i j p) → IsNew (length old) p
block_new s old more {p = p} block far =
    let none : p < length old → ⊥ = λ l. block_elsewhere (source_with s (unread old ++ more)) (block (unread old) (length_unread old)) (get_unread old more p l) far in
    omega (arith, none)

-- a statement that another one follows is left as it is
pub unchanged : (xs : List Stmt) (p : ℕ) (made : Stmt) → slice_get xs p ≡ Some made → (made.next ≡ 0 → ⊥) → slice_set xs p made ≡ found_returned p xs (slice_get xs p)
unchanged xs p made found follows =
    let kept : slice_set xs p made ≡ xs = ap (slice_set xs p) (sym (get_or_from_slice_get xs p made made found)) ∙ set-get_or xs p made in
    let other : nat_eq made.next 0 ≡ false = ne_eqb made.next 0 follows in
    let same : xs ≡ found_returned p xs (Some made) = ap (λ (b : Bool). if b then slice_set xs p (record made { form = returned made.form }) else xs) (sym other) in
    kept ∙ same ∙ ap (found_returned p xs) (sym found)

-- Statements behind others, of which one may return what it gives.
record Returned (t : ValueType) (p n : ℕ) (more : List Stmt) : Type 0 where
  now : List Stmt
  same : (xs : List Stmt) → length xs ≡ n → lone_returned t p (xs ++ more) ≡ xs ++ now

set_right : (b : Bool) (xs more : List Stmt) (n p : ℕ) (x : Stmt) → length xs ≡ n → n ≤ p → (if b then slice_set (xs ++ more) p x else (xs ++ more)) ≡ xs ++ (if b then slice_set more (p - n) x else more)
set_right true xs more n p x e l = set-append_right xs more n p x e l
set_right false xs more n p x e l = refl

found_right : (o : Option Stmt) (xs more : List Stmt) (n p : ℕ) → length xs ≡ n → n ≤ p → found_returned p (xs ++ more) o ≡ xs ++ found_returned (p - n) more o
found_right None xs more n p e l = refl
found_right (Some made) xs more n p e l = set_right (nat_eq made.next 0) xs more n p (record made { form = returned made.form }) e l

found_behind : (p n : ℕ) (more xs : List Stmt) → n ≤ p → length xs ≡ n → found_returned p (xs ++ more) (slice_get (xs ++ more) p) ≡ xs ++ found_returned (p - n) more (slice_get more (p - n))
found_behind p n more xs l e = ap (found_returned p (xs ++ more)) (get_right xs more n p e l) ∙ found_right (slice_get more (p - n)) xs more n p e l

lone_behind : (t : ValueType) (p n : ℕ) (more : List Stmt) → IsNew n p → Returned t p n more
lone_behind type.Void p n more new = record { now = more; same = λ xs e. refl }
lone_behind type.Int zero n more new = record { now = more; same = λ xs e. refl }
lone_behind type.Bool zero n more new = record { now = more; same = λ xs e. refl }
lone_behind type.Int (suc p) n more new = record { now = found_returned (suc p - n) more (slice_get more (suc p - n)); same = λ xs e. found_behind (suc p) n more xs (new (omega arith)) e }
lone_behind type.Bool (suc p) n more new = record { now = found_returned (suc p - n) more (slice_get more (suc p - n)); same = λ xs e. found_behind (suc p) n more xs (new (omega arith)) e }

same_more : (r s : Reader) (xs : List Stmt) → Extends r s → IsMore (source_with r xs) (source_with s xs)
same_more r s xs e = record { lexed = lexed_on r s e; behind = extended e; more_stmts = []; stmts = sym (append-nil xs) }

-- a block whose only statement returns what it gives
pub body_returned : (r s t : Reader) {found : ValueType} {p : ℕ} → Adds r s (λ a. SpellsBlock a r.at s.at p) → t.at ≡ s.at → t.tree.value.stmts.items ≡ lone_returned found p s.tree.value.stmts.items → Extends s t → Adds r t (λ a. SpellsBody a found r.at t.at p × IsNew (length r.tree.value.stmts.items) p)
body_returned r s t {found} {p} d at now e =
    let new = block_new s r.tree.value.stmts.items d.more d.holds in
    let b = lone_behind found p (length r.tree.value.stmts.items) d.more new in
    record {
      more = b.now;
      stmts = now ∙ ap (lone_returned found p) d.stmts ∙ b.same r.tree.value.stmts.items refl;
      holds = λ xs l.
          let block : SpellsBlock (source_with t (xs ++ d.more)) r.at s.at p = block_stays _ _ (same_more s t (xs ++ d.more) e) (d.holds xs l) in
          let body : SpellsBody (source_with t (xs ++ b.now)) found r.at s.at p = record { before = xs ++ d.more; block = block; after = sym (b.same xs l) } in
          (subst (λ j. SpellsBody (source_with t (xs ++ b.now)) found r.at j p) (sym at) body, new);
    }

-- a statement that is behind others stands there whichever those are
get_behind : (old xs more : List Stmt) (p : ℕ) (made : Stmt) → length xs ≡ length old → length old ≤ p → slice_get (old ++ more) p ≡ Some made → slice_get (xs ++ more) p ≡ Some made
get_behind old xs more p made e l d = get_right xs more (length old) p e l ∙ (sym (get_right old more (length old) p refl l) ∙ d)

lone_behind_value : (s : Reader) (old xs more : List Stmt) (p v : ℕ) → length xs ≡ length old → length old ≤ p → IsLoneValue (source_with s (old ++ more)) p v → IsLoneValue (source_with s (xs ++ more)) p v
lone_behind_value s old xs more p v e l (lone_let_go {made = made} d f n) = lone_let_go {made = made} (get_behind old xs more p made e l d) f n
lone_behind_value s old xs more p v e l (lone_returned_value {made = made} d f n) = lone_returned_value {made = made} (get_behind old xs more p made e l d) f n

says_behind : (s : Reader) (old xs more : List Stmt) {made : MethodDecl} {test : Option ℕ} → length xs ≡ length old → IsNew (length old) made.body → SaysTest (source_with s (old ++ more)) made test → SaysTest (source_with s (xs ++ more)) made test
says_behind s old xs more e new (says_none a) = says_none a
says_behind s old xs more {made} e new (says_test {test = test} a b c d) = says_test a b c (lone_behind_value s old xs more made.body test e (new c) d)

-- A body, and what its method says that has to hold, told behind it.
abbrev pub BodySays : ValueType → ℕ → ℕ → ℕ → ℕ → MethodDecl → Option ℕ → Source → Type 0
BodySays found i j k p made test a = SpellsBody a found i j p × SaysTest a made test × (j ≡ k)

pub body_says : (r s t : Reader) {found : ValueType} {p : ℕ} {made : MethodDecl} {test : Option ℕ} → made.body ≡ p → Step r s (λ a. SpellsBody a found r.at s.at p × IsNew (length r.tree.value.stmts.items) p) → (IsNone t.refused → SaysTest (source_of s) made test) → (IsNone t.refused → t ≡ s) → Grows s t → Step r t (BodySays found r.at s.at t.at p made test)
body_says r s t {found} {p} {made} {test} is step says same g =
    record {
      extends = extends_on step.extends (extends_of g);
      adds = λ n b.
          let d = step.adds (g.refused n) b in
          let old = r.tree.value.stmts.items in
          let there : SaysTest (source_with s (old ++ d.more)) made test = subst (λ ys. SaysTest (source_with s ys) made test) d.stmts (says n) in
          let here : Adds r s (BodySays found r.at s.at s.at p made test) = record {
            more = d.more;
            stmts = d.stmts;
            holds = λ xs l.
                let x = d.holds xs l in
                (x.0, says_behind s old xs d.more l (subst (IsNew (length old)) (sym is) x.1) there, refl);
          } in
          subst (λ u. Adds r u (BodySays found r.at s.at u.at p made test)) (sym (same n)) here;
    }

says_stays : (made : MethodDecl) (test : Option ℕ) → Stays (λ a. SaysTest a made test)
says_stays made test a b m (says_none e) = says_none (lexed_stays (λ l. says_invariant l made ≡ false) a b m e)
says_stays made test a b m (says_test {test = v} e f g d) = says_test (lexed_stays (λ l. says_invariant l made ≡ true) a b m e) f g (lone_stays made.body v a b m d)

pub said_stays : (found : ValueType) (i j k p : ℕ) (made : MethodDecl) (test : Option ℕ) → Stays (BodySays found i j k p made test)
said_stays found i j k p made test a b m d = (body_stays found i j p a b m d.0, says_stays made test a b m d.1, d.2)

-- whether parameters are counted as none
none_counted : (n m : ℕ) → nat_eq n (n + m) ≡ nat_eq m 0
none_counted n zero = eq-eqb n (n + 0) (omega arith)
none_counted n (suc m) = ne_eqb n (n + suc m) (λ e. omega (arith, e)) ∙ sym (eqb-suc-zero m)

-- whether the row of a method says what its head says
same_said : (l : Lexed) (actor : ℕ) (access : Access) (first : ℕ) (h : MethodHead) (body end : ℕ) → says_invariant l (method_of actor access first h body end) ≡ is_invariant l actor h
same_said l actor access first h body end = ap (λ x. not (nat_eq actor nobody) && (x && spells_at l.text l.tokens h.name (codes "invariant"))) (none_counted first (length h.params))

method_said : (s : Source) {actor : ℕ} {access : Access} {i j k body : ℕ} {r : Rows} {h : MethodHead} {test : Option ℕ} → SpellsHead s.lexed i j h → SpellsBody s h.result j k body → SaysTest s (method_of actor access (length r.params) h body (k - 1)) test → SpellsMethod s actor access i k r (with_method (method_of actor access (length r.params) h body (k - 1)) (with_test actor test (record r { params = r.params ++ h.params })))
method_said s {actor} {access} {k = k} {body = body} {r = r} {h = h} a b (says_none e) = a_method a b (sym (same_said s.lexed actor access (length r.params) h body (k - 1)) ∙ e)
method_said s {actor} {access} {k = k} {body = body} {r = r} {h = h} a b (says_test e f g d) = an_invariant a b (sym (same_said s.lexed actor access (length r.params) h body (k - 1)) ∙ e) f d

-- a method whose parts are known
pub method_parts : (s : Source) {actor : ℕ} {access : Access} {i j k body end : ℕ} {r t u : Rows} {made : MethodDecl} {test : Option ℕ} (h : MethodHead) → SpellsHead s.lexed i j h → u ≡ record r { params = r.params ++ h.params } → made ≡ method_of actor access (length r.params) h 0 0 → SpellsBody s made.result j k body → end ≡ k - 1 → SaysTest s (record made { body = body; end = end }) test → t ≡ with_method (record made { body = body; end = end }) (with_test actor test u) → SpellsMethod s actor access i k r t
method_parts s {actor} {access} {i} {j} {k} {body} {end} {r} {t} {u} {made} {test} h head u_is made_is block end_is says t_is =
    let whole : MethodDecl → ℕ → MethodDecl = λ m e. record m { body = body; end = e } in
    let row : record made { body = body; end = end } ≡ method_of actor access (length r.params) h body (k - 1) = ap (λ m. whole m end) made_is ∙ ap (whole (method_of actor access (length r.params) h 0 0)) end_is in
    let is : t ≡ with_method (method_of actor access (length r.params) h body (k - 1)) (with_test actor test (record r { params = r.params ++ h.params })) = t_is ∙ ap (λ m. with_method m (with_test actor test u)) row ∙ ap (λ v. with_method (method_of actor access (length r.params) h body (k - 1)) (with_test actor test v)) u_is in
    subst (λ v. SpellsMethod s actor access i k r v) (sym is) (method_said s {r = r} head (subst (λ (m : MethodDecl). SpellsBody s m.result j k body) made_is block) (subst (λ m. SaysTest s m test) row says))

-- a method that is read and put
pub method_declares : (r s t u v w : Reader) {actor body end : ℕ} {access : Access} {head : MethodDecl} {test : Option ℕ} → Puts r s (λ a. PutsHead a actor access r.at s.at (rows_of r.tree.value) (rows_of s.tree.value) head) → (IsNone t.refused → IsBegun s → Adds s t (λ a. SpellsBody a head.result s.at t.at body × IsNew (length s.tree.value.stmts.items) body)) → Extends s t → end ≡ t.at - 1 → (IsNone u.refused → SaysTest (source_of t) (record head { body = body; end = end }) test) → (IsNone u.refused → u ≡ t) → Grows t u → Puts u v (λ a. (u.at ≡ v.at) × (rows_of v.tree.value ≡ with_test actor test (rows_of u.tree.value))) → Puts v w (λ a. (v.at ≡ w.at) × (rows_of w.tree.value ≡ with_method (record head { body = body; end = end }) (rows_of v.tree.value))) → Puts r w (λ a. SpellsMethod a actor access r.at w.at (rows_of r.tree.value) (rows_of w.tree.value))
method_declares r s t u v w {actor} {body} {end} {access} {head} {test} headed read extends end_is says same grows tested put =
    let made : MethodDecl = record head { body = body; end = end } in
    let told : Step s u (BodySays head.result s.at t.at u.at body made test) = body_says s t u refl (step_call s t read extends) says same grows in
    let all = puts r s w (head_put_stays actor access r.at s.at (rows_of r.tree.value) (rows_of s.tree.value) head) headed (puts s u w (said_stays head.result s.at t.at u.at body made test) (puts_step s u told) (puts u v w (λ a b m d. d) tested put)) in
    puts_as (λ a x.
    let before : rows_of u.tree.value ≡ record (rows_of r.tree.value) { params = (rows_of r.tree.value).params ++ x.0.head.params } = kept_rows s u told.extends ∙ x.0.rows in
    let after : rows_of w.tree.value ≡ with_method made (with_test actor test (rows_of u.tree.value)) = x.1.1.1.1 ∙ ap (with_method made) x.1.1.0.1 in
    let at : t.at ≡ w.at = x.1.0.2 ∙ (x.1.1.0.0 ∙ x.1.1.1.0) in
    subst (λ j. SpellsMethod a actor access r.at j (rows_of r.tree.value) (rows_of w.tree.value)) at (method_parts a x.0.head x.0.spelled before x.0.is x.1.0.0 end_is x.1.0.1 after)) all
