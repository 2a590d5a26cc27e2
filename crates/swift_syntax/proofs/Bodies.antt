-- What of bodies, methods and functions stays where more is read.
use Rattle.std.proofs.Common.{◌≡◌, ℕ, zero, suc, ◌<◌, Bool, true, false, if◌then◌else◌, List, ◌++◌, Some, length, nat_eq, refl, sym, ap, subst, ◌∙◌}
use Rattle.std.proofs.lemmas.List.{set-append_left}
use Rattle.std.proofs.lemmas.Option.{slice_get_within}
use Rattle.std.specs.List.{slice_get}
use Rattle.std.specs.Prelude.{slice_set}
use Rattle.swift_syntax.specs.declared.tree.Access.{Access}
use Rattle.swift_syntax.specs.declared.tree.Stmt.{Stmt}
use Rattle.swift_syntax.specs.declared.tree.ValueType.{ValueType}
use Rattle.swift_syntax.specs.declared.tree.ValueType.TheVariants as type
use Rattle.swift_syntax.specs.Declarations.{IsLoneValue, IsPlain, Rows, SetsVariable, SpellsAccess, SpellsActor, SpellsGiving, SpellsMember, SpellsMembers, SpellsOwn, SpellsParams, an_actor, given_to, gives_blank, gives_no_more, gives_one, member_executor, member_field, member_init, member_invariant, member_method, members_blank, members_end, members_more, SpellsBody, SpellsHead, SpellsMethod, a_method, an_invariant, found_returned, is_invariant, lone_let_go, lone_returned, lone_returned_value, returned}
use Rattle.swift_syntax.specs.Statements.{Separates, Source, SpellsBlock, SpellsRest}
use Rattle.swift_syntax.specs.Expressions.{kind_at}
use Rattle.swift_syntax.specs.declared.token.TokenKind.TheVariants as kind
use Rattle.swift_syntax.specs.declared.tree.FieldDecl.{FieldDecl}
use Rattle.swift_syntax.proofs.Declarations.{such_stays}
use Rattle.swift_syntax.proofs.Declaring.{field_stays}
use Rattle.swift_syntax.specs.Statements as swift
use Rattle.swift_syntax.proofs.Grown.{get_more}
use Rattle.swift_syntax.proofs.Statements.{IsMore, Stays, block_stays, expr_stays, lexed_stays, row_stays}

-- Where a block begins: at a statement, or at none.
pub data Begins (xs : List Stmt) : ℕ → Type 0 where
  at_none : Begins xs 0
  at_one : {p : ℕ} {made : Stmt} → slice_get xs p ≡ Some made → Begins xs p

rest_begins : (s : Source) {i j p : ℕ} → SpellsRest s i j p → Begins s.stmts p
rest_begins s (swift.closed a) = at_none
rest_begins s (swift.no_stmt a r) = rest_begins s r
rest_begins s (swift.one_stmt {made = made} a b c d e r) = at_one {made = made} b

pub block_begins : (s : Source) {i j p : ℕ} → SpellsBlock s i j p → Begins s.stmts p
block_begins s (swift.opened a r) = rest_begins s r

set_more : (b : Bool) (xs ys : List Stmt) (p : ℕ) (x : Stmt) → p < length xs → (if b then slice_set (xs ++ ys) p x else (xs ++ ys)) ≡ (if b then slice_set xs p x else xs) ++ ys
set_more true xs ys p x l = set-append_left xs ys p x l
set_more false xs ys p x l = refl

found_more : (xs ys : List Stmt) (p : ℕ) (made : Stmt) → slice_get xs p ≡ Some made → found_returned p (xs ++ ys) (slice_get (xs ++ ys) p) ≡ found_returned p xs (slice_get xs p) ++ ys
found_more xs ys p made e =
    ap (found_returned p (xs ++ ys)) (get_more xs ys p made e)
    ∙ set_more (nat_eq made.next 0) xs ys p (record made { form = returned made.form }) (slice_get_within xs p made e)
    ∙ ap (λ o. found_returned p xs o ++ ys) (sym e)

pub lone_more : (t : ValueType) (p : ℕ) (xs ys : List Stmt) → Begins xs p → lone_returned t p (xs ++ ys) ≡ lone_returned t p xs ++ ys
lone_more type.Void p xs ys b = refl
lone_more type.Int zero xs ys b = refl
lone_more type.Bool zero xs ys b = refl
lone_more type.Int (suc p) xs ys (at_one {made = made} e) = found_more xs ys (suc p) made e
lone_more type.Bool (suc p) xs ys (at_one {made = made} e) = found_more xs ys (suc p) made e

pub body_stays : (t : ValueType) (i j p : ℕ) → Stays (λ a. SpellsBody a t i j p)
body_stays t i j p a b m d =
    let before : Source = record a { stmts = d.before } in
    let more : IsMore before (record b { stmts = d.before ++ m.more_stmts }) = record { lexed = m.lexed; behind = m.behind; more_stmts = m.more_stmts; stmts = refl } in
    record {
      before = d.before ++ m.more_stmts;
      block = block_stays _ _ more d.block;
      after = m.stmts ∙ ap (λ xs. xs ++ m.more_stmts) d.after ∙ sym (lone_more t p d.before m.more_stmts (block_begins before d.block));
    }

pub lone_stays : (body value : ℕ) → Stays (λ a. IsLoneValue a body value)
lone_stays body value a b m (lone_let_go {made = made} e f g) = lone_let_go {made = made} (subst (λ xs. slice_get xs body ≡ Some made) (sym m.stmts) (get_more a.stmts m.more_stmts body made e)) f g
lone_stays body value a b m (lone_returned_value {made = made} e f g) = lone_returned_value {made = made} (subst (λ xs. slice_get xs body ≡ Some made) (sym m.stmts) (get_more a.stmts m.more_stmts body made e)) f g

pub method_stays : (actor : ℕ) (access : Access) (i j : ℕ) (r t : Rows) → Stays (λ a. SpellsMethod a actor access i j r t)
method_stays actor access i j r t a b m (a_method {i = i'} {j = j'} {k = k} {body = p} {h = h} x y z) = a_method (lexed_stays (λ l. SpellsHead l i' j' h) a b m x) (body_stays h.result j' k p a b m y) (lexed_stays (λ l. is_invariant l actor h ≡ false) a b m z)
method_stays actor access i j r t a b m (an_invariant {i = i'} {j = j'} {k = k} {body = p} {test = q} {h = h} x y z u v) = an_invariant (lexed_stays (λ l. SpellsHead l i' j' h) a b m x) (body_stays h.result j' k p a b m y) (lexed_stays (λ l. is_invariant l actor h ≡ true) a b m z) u (lone_stays p q a b m v)

pub giving_stays : (a b : Source) {actor i j : ℕ} {fs gs : List FieldDecl} → IsMore a b → SpellsGiving a actor i j fs gs → SpellsGiving b actor i j fs gs
giving_stays a b m (gives_no_more x) = gives_no_more (row_stays _ _ _ a b m x)
giving_stays a b m (gives_blank x y) = gives_blank (row_stays _ _ _ a b m x) (giving_stays a b m y)
giving_stays a b {actor} {gs = hs} m (gives_one {i = i} {j = j} {k = k} {m = n} {n = o} {o = q} {p = p} {fs = fs} x y z u v) = gives_one (lexed_stays (λ l. SpellsOwn l i j) a b m x) (row_stays _ _ _ a b m y) (such_stays IsPlain k n p a b m z) (lexed_stays (λ l. Separates l n o) a b m u) (subst (λ l. SpellsGiving b actor o q (given_to l actor j p fs) hs) (sym m.lexed) (giving_stays a b m v))

pub member_stays : (a b : Source) {actor i j : ℕ} {r t : Rows} → IsMore a b → SpellsMember a actor i j r t → SpellsMember b actor i j r t
member_stays a b m (member_invariant {i = i} k e) = member_invariant (lexed_stays (λ l. kind_at l.tokens i ≡ kind.Invariant) a b m k) (expr_stays _ _ _ a b m e)
member_stays a b m (member_init {j = j} {k = k} {ps = ps} x y z g) = member_init (row_stays _ _ _ a b m x) (lexed_stays (λ l. SpellsParams l j k ps) a b m y) (row_stays _ _ _ a b m z) (giving_stays a b m g)
member_stays a b m (member_executor x y) = member_executor (row_stays _ _ _ a b m x) (row_stays _ _ _ a b m y)
member_stays a b m (member_field {i = i} {j = j} {k = k} {access = w} {f = f} x z y) = member_field (lexed_stays (λ l. SpellsAccess l i j w) a b m x) (lexed_stays (λ l. SetsVariable l i j) a b m z) (field_stays _ w j k f a b m y)
member_stays a b m (member_method {i = i} {j = j} {k = k} {access = w} x z y) = member_method (lexed_stays (λ l. SpellsAccess l i j w) a b m x) (lexed_stays (λ l. SetsVariable l i j) a b m z) (method_stays _ w j k _ _ a b m y)

pub members_stay : (a b : Source) {actor i j : ℕ} {r t : Rows} → IsMore a b → SpellsMembers a actor i j r t → SpellsMembers b actor i j r t
members_stay a b m (members_end x) = members_end (row_stays _ _ _ a b m x)
members_stay a b m (members_blank x y) = members_blank (row_stays _ _ _ a b m x) (members_stay a b m y)
members_stay a b m (members_more {j = j} {k = k} x y z) = members_more (member_stays a b m x) (lexed_stays (λ l. Separates l j k) a b m y) (members_stay a b m z)

pub actor_stays : (i j : ℕ) (r t : Rows) → Stays (λ a. SpellsActor a i j r t)
actor_stays i j r t a b m (an_actor x y) = an_actor (row_stays _ _ _ a b m x) (members_stay a b m y)
