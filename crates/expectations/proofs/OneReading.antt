-- A text spells one expression, and in a script that is accepted it is one expectation.
use Rattle.expectations.proofs.Prelude.{◌≡◌, ◌<◌, ◌⊎◌, inl, inr, ℕ, Bool, true, false, ◌&&◌, List, [], ◌∷◌, ◌++◌, length, Option, Some, None, refl, sym, ap, ap₂, subst, ◌∙◌, append_assoc, unwrap_or, list_any, list_all, and_parts, or_from, or_parts, append-nil, append_cancel_left, append_cancel_right, list_any-append, Operator, is_name_byte, TokenView, Num, Name, Key, Sign, ExprTree, ActorTree, DeclTree, Acts, mark_of, SpellsExpr, name, local, own_priority, is_cancelled, parenthesis, negated, inverted, alone, chained, compared, IsExpression, Each, one_more, IsField, IsOn, on_its_own, on_shared, IsInvariant, no_invariant, an_invariant, IsMethodDecl, IsActor, IsDecl, an_actor, IsScript, Term, variable, field, opposite, denial, binary, WasAccepted, ScriptView, actor_count, actor_fields, actor_name, field_name, root_count, root_name, Joins, none, dotted, kept, actor_with, as_invariant, SpellsTest, Names, a_field, a_root, IsRead, a_number, a_name, a_minus, a_not, both, SpellsExpression, IsTest}
use Rattle.swift_types.specs.declared.operator.Operator.TheVariants as op
use Rattle.script_tokens.specs.declared.mark.Mark.TheVariants as mark
use Rattle.script_tokens.specs.declared.keyword.Keyword.TheVariants as key
use Rattle.script_tokens.proofs.Unique.{unique}
use Rattle.script_grammar.specs.declared.region.Atoms.{Atoms}
use Rattle.script_grammar.specs.declared.region.Atoms.TheVariants.{Plain}
use Rattle.script_grammar.specs.Grammar.{number, no_more}
use Rattle.script_parser.specs.declared.limits.TheConstants.{NESTING}
use Rattle.script_parser.proofs.Whole.{one}
use Rattle.expectations.proofs.Apart.{AreApart, accepted_apart}

-- No dot is left.

abbrev is_dot : TokenView → Bool
is_dot (Sign mark.Dot) = true
is_dot _ = false

no_operator_is_dot : (o : Operator) → is_dot (Sign (mark_of o)) ≡ false
no_operator_is_dot op.Or = refl
no_operator_is_dot op.And = refl
no_operator_is_dot op.Equal = refl
no_operator_is_dot op.Unequal = refl
no_operator_is_dot op.Less = refl
no_operator_is_dot op.AtMost = refl
no_operator_is_dot op.Greater = refl
no_operator_is_dot op.AtLeast = refl
no_operator_is_dot op.Plus = refl
no_operator_is_dot op.Minus = refl
no_operator_is_dot op.Times = refl

-- an expression has no dot
no_dot : {atoms : Atoms} {o k : ℕ} {ts : List TokenView} {t : ExprTree} → SpellsExpr atoms o k ts t → list_any is_dot ts ≡ false
no_dot (number n) = refl
no_dot (name n) = refl
no_dot (local n e) = refl
no_dot (own_priority e) = refl
no_dot (is_cancelled e) = refl
no_dot (parenthesis {ts = ts} d) = list_any-append is_dot ts (Sign mark.Close ∷ []) ∙ or_from _ _ (no_dot d) refl
no_dot (negated d) = no_dot d
no_dot (inverted d) = no_dot d
no_dot (alone d) = no_dot d
no_dot (chained {ls = ls} {rs = rs} o e ne da db) = list_any-append is_dot ls (Sign (mark_of o) ∷ rs) ∙ or_from _ _ (no_dot da) (or_from _ _ (no_operator_is_dot o) (no_dot db))
no_dot (compared {ls = ls} {rs = rs} o e three da db) = list_any-append is_dot ls (Sign (mark_of o) ∷ rs) ∙ or_from _ _ (no_dot da) (or_from _ _ (no_operator_is_dot o) (no_dot db))

one_of : {A : Type 0} (Is : List TokenView → A → Type 0) {ts : List TokenView} {x : A} → Each Is ts (x ∷ []) → Is ts x
one_of Is (one_more {ts} {us} {x} {xs} d no_more) = subst (λ (vs : List TokenView). Is vs x) (sym (append-nil ts)) d

none_of : {A : Type 0} (Is : List TokenView → A → Type 0) {ts : List TokenView} → Each Is ts [] → ts ≡ []
none_of Is no_more = refl

actor_in : {limit : ℕ} {ts : List TokenView} {a : ActorTree} → IsDecl limit ts (Acts a) → IsActor limit ts a
actor_in (an_actor d) = d

none_on : {ts : List TokenView} → IsOn ts None → ts ≡ []
none_on on_its_own = refl

abbrev InvariantOf : ℕ → List TokenView → ExprTree → Type 0
InvariantOf limit ts e = (us : List TokenView) × (ts ≡ Key key.Invariant ∷ (us ++ Sign mark.Semicolon ∷ [])) × IsExpression Plain limit limit us e

invariant_in : {limit : ℕ} {ts : List TokenView} {e : ExprTree} → IsInvariant limit ts (Some e) → InvariantOf limit ts e
invariant_in (an_invariant {ts = us} d) = (us, refl, d)

-- the tokens of an actor without a name, by its parts
abbrev actor_tokens : List TokenView → List TokenView → List TokenView → List TokenView → List TokenView
actor_tokens on fields invariant methods = Key key.Actor ∷ Name [] ∷ (on ++ (Sign mark.OpenBrace ∷ (fields ++ (invariant ++ (methods ++ Sign mark.CloseBrace ∷ [])))))

-- so the tokens of an expectation have none
test_has_no_dot : (ts : List TokenView) (e : ExprTree) → SpellsTest ts e → list_any is_dot ts ≡ false
test_has_no_dot ts e spelled =
    let a : IsActor NESTING (as_invariant ts) (actor_with e) = actor_in (one_of (IsDecl NESTING) spelled) in
    let i = invariant_in a.has_invariant in
    let us = i.0 in
    let whole : as_invariant ts ≡ actor_tokens [] [] (Key key.Invariant ∷ (us ++ Sign mark.Semicolon ∷ [])) [] =
    a.all
    ∙ ap (λ (x : List TokenView). actor_tokens x a.fields a.invariant a.methods) (none_on a.has_executor)
    ∙ ap (λ (x : List TokenView). actor_tokens [] x a.invariant a.methods) (none_of IsField a.has_fields)
    ∙ ap (λ (x : List TokenView). actor_tokens [] [] x a.methods) i.1
    ∙ ap (λ (x : List TokenView). actor_tokens [] [] (Key key.Invariant ∷ (us ++ Sign mark.Semicolon ∷ [])) x) (none_of (IsMethodDecl NESTING) a.has_methods) in
    let front = Key key.Actor ∷ Name [] ∷ Sign mark.OpenBrace ∷ Key key.Invariant ∷ [] in
    let end = Sign mark.Semicolon ∷ Sign mark.CloseBrace ∷ [] in
    let rest : ts ++ end ≡ us ++ end = append_cancel_left front (ts ++ end) (us ++ end) (whole ∙ ap (λ (x : List TokenView). front ++ x) (append_assoc us (Sign mark.Semicolon ∷ []) (Sign mark.CloseBrace ∷ []))) in
    let same : ts ≡ us = append_cancel_right ts us end rest in
    ap (list_any is_dot) same ∙ no_dot i.2.spelled

-- One list of joined tokens.

dot_stays : {ts us : List TokenView} → Joins (Sign mark.Dot ∷ ts) us → list_any is_dot us ≡ false → ⊥
dot_stays (kept t {ts} {us} d) e = absurd (cc e)

joins_one : {ts us : List TokenView} (vs : List TokenView) → Joins ts us → Joins ts vs → list_any is_dot us ≡ false → list_any is_dot vs ≡ false → us ≡ vs
joins_one vs none none left right = refl
joins_one vs (dotted a f {ts} {us} d) (dotted b g {ts = ts'} {us = ws} e) left right = ap (λ (x : List TokenView). Name (a ++ 46 ∷ f) ∷ x) (joins_one ws d e left right)
joins_one vs (dotted a f {ts} {us} d) (kept t {ts = ts'} {us = ws} e) left right = absurd (dot_stays e right)
joins_one vs (kept t {ts} {us} d) (dotted b g {ts = ts'} {us = ws} e) left right = absurd (dot_stays d left)
joins_one vs (kept t {ts} {us} d) (kept u {ts = ts'} {us = ws} e) left right = ap (λ (x : List TokenView). t ∷ x) (joins_one ws d e (or_parts _ _ left).1 (or_parts _ _ right).1)

-- the invariant of the first declaration; this one where there is none
abbrev test_in : ExprTree → List DeclTree → ExprTree
test_in other (Acts a ∷ ds) = unwrap_or a.invariant other
test_in other _ = other

pub one_expression : (text : List ℕ) (a b : ExprTree) → SpellsExpression text a → SpellsExpression text b → a ≡ b
one_expression text a b c d =
    let pieces : c.pieces ≡ d.pieces = unique d.pieces c.lexed d.lexed in
    let joined : Joins c.pieces d.tokens = subst (λ (x : List TokenView). Joins x d.tokens) (sym pieces) d.joined in
    let tokens : c.tokens ≡ d.tokens = joins_one d.tokens c.joined joined (test_has_no_dot c.tokens a c.spelled) (test_has_no_dot d.tokens b d.spelled) in
    let spelled : SpellsTest d.tokens a = subst (λ (x : List TokenView). SpellsTest x a) tokens c.spelled in
    ap (test_in a) (one NESTING NESTING (as_invariant d.tokens) (Acts (actor_with a) ∷ []) (Acts (actor_with b) ∷ []) spelled d.spelled)

-- One meaning of each name.

record IsFieldNamed (p : ScriptView) (n : List ℕ) (t : Term) : Type 0 where
  actor : ℕ
  place : ℕ
  there : actor < actor_count p
  within : place < length (actor_fields p actor)
  named : n ≡ actor_name p actor ++ 46 ∷ field_name p actor place
  is : t ≡ field (record { actor = actor; field = place })

record IsRootNamed (p : ScriptView) (n : List ℕ) (t : Term) : Type 0 where
  root : ℕ
  there : root < root_count p
  named : n ≡ root_name p root
  is : t ≡ variable root

name_cases : (p : ScriptView) {n : List ℕ} {t : Term} → Names p n t → IsFieldNamed p n t ⊎ IsRootNamed p n t
name_cases p (a_field k i there within) = inl (record { actor = k; place = i; there = there; within = within; named = refl; is = refl })
name_cases p (a_root r there) = inr (record { root = r; there = there; named = refl; is = refl })

-- a word has no dot
word_has_no_dot : (a f : List ℕ) → list_all is_name_byte (a ++ 46 ∷ f) ≡ true → ⊥
word_has_no_dot [] f h = absurd (cc h)
word_has_no_dot (x ∷ a) f h = word_has_no_dot a f (and_parts (is_name_byte x) _ h).1

dot_is_no_byte : (x : ℕ) → x ≡ 46 → is_name_byte x ≡ true → ⊥
dot_is_no_byte x is h = let at : is_name_byte 46 ≡ true = subst (λ (y : ℕ). is_name_byte y ≡ true) is h in absurd (cc at)

abbrev head_or : List ℕ → ℕ
head_or [] = 0
head_or (x ∷ xs) = x

abbrev tail_of : List ℕ → List ℕ
tail_of [] = []
tail_of (x ∷ xs) = xs

-- what stands before the first dot, and what after it
split_one : (a b f g : List ℕ) → list_all is_name_byte a ≡ true → list_all is_name_byte b ≡ true → a ++ 46 ∷ f ≡ b ++ 46 ∷ g → (a ≡ b) × (f ≡ g)
split_one [] [] f g left right e = (refl, ap tail_of e)
split_one [] (y ∷ b) f g left right e = absurd (dot_is_no_byte y (sym (ap head_or e)) (and_parts (is_name_byte y) _ right).0)
split_one (x ∷ a) [] f g left right e = absurd (dot_is_no_byte x (ap head_or e) (and_parts (is_name_byte x) _ left).0)
split_one (x ∷ a) (y ∷ b) f g left right e =
    let rest = split_one a b f g (and_parts (is_name_byte x) _ left).1 (and_parts (is_name_byte y) _ right).1 (ap tail_of e) in
    (ap₂ (λ (z : ℕ) (zs : List ℕ). z ∷ zs) (ap head_or e) rest.0, rest.1)

fields_same : (p : ScriptView) → AreApart p → (n : List ℕ) (s t : Term) → IsFieldNamed p n s → IsFieldNamed p n t → s ≡ t
fields_same p apart n s t x y =
    let parts = split_one (actor_name p x.actor) (actor_name p y.actor) (field_name p x.actor x.place) (field_name p y.actor y.place) (apart.actor_words x.actor x.there) (apart.actor_words y.actor y.there) (sym x.named ∙ y.named) in
    let actor : x.actor ≡ y.actor = apart.actors x.actor y.actor x.there y.there parts.0 in
    let within : y.place < length (actor_fields p x.actor) = subst (λ (k : ℕ). y.place < length (actor_fields p k)) (sym actor) y.within in
    let place : x.place ≡ y.place = apart.fields x.actor x.place y.place x.there x.within within (parts.1 ∙ ap (λ (k : ℕ). field_name p k y.place) (sym actor)) in
    x.is ∙ ap₂ (λ (k i : ℕ). field (record { actor = k; field = i })) actor place ∙ sym y.is

roots_same : (p : ScriptView) → AreApart p → (n : List ℕ) (s t : Term) → IsRootNamed p n s → IsRootNamed p n t → s ≡ t
roots_same p apart n s t x y = x.is ∙ ap variable (apart.roots x.root y.root x.there y.there (sym x.named ∙ y.named)) ∙ sym y.is

never_both : (p : ScriptView) → AreApart p → (n : List ℕ) (s t : Term) → IsFieldNamed p n s → IsRootNamed p n t → ⊥
never_both p apart n s t x y =
    word_has_no_dot (actor_name p x.actor) (field_name p x.actor x.place) (subst (λ (z : List ℕ). list_all is_name_byte z ≡ true) (sym y.named ∙ x.named) (apart.root_words y.root y.there))

names_same : (p : ScriptView) → AreApart p → (n : List ℕ) (s t : Term) → IsFieldNamed p n s ⊎ IsRootNamed p n s → IsFieldNamed p n t ⊎ IsRootNamed p n t → s ≡ t
names_same p apart n s t (inl x) (inl y) = fields_same p apart n s t x y
names_same p apart n s t (inl x) (inr y) = absurd (never_both p apart n s t x y)
names_same p apart n s t (inr x) (inl y) = absurd (never_both p apart n t s y x)
names_same p apart n s t (inr x) (inr y) = roots_same p apart n s t x y

read_one : (p : ScriptView) → AreApart p → {e : ExprTree} {s : Term} (t : Term) → IsRead p e s → IsRead p e t → s ≡ t
read_one p apart t (a_number n) (a_number m) = refl
read_one p apart t (a_name {n = n} {t = s} c) (a_name {n = m} {t = u} d) = names_same p apart n s u (name_cases p c) (name_cases p d)
read_one p apart t (a_minus {t = s} c) (a_minus {t = u} d) = ap opposite (read_one p apart u c d)
read_one p apart t (a_not {t = s} c) (a_not {t = u} d) = ap denial (read_one p apart u c d)
read_one p apart t (both o {s = s} {t = u} a b) (both q {s = v} {t = w} c d) = ap₂ (λ (x y : Term). binary o x y) (read_one p apart v a c) (read_one p apart w b d)

pub one_test : (p : ScriptView) (text : List ℕ) (s t : Term) → WasAccepted p → IsTest p text s → IsTest p text t → s ≡ t
one_test p text s t was c d =
    let same : d.tree ≡ c.tree = one_expression text d.tree c.tree d.spelled c.spelled in
    read_one p (accepted_apart was.0 p was.1) t c.read (subst (λ (e : ExprTree). IsRead p e t) same d.read)
