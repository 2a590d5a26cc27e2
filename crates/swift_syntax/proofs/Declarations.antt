-- What of declarations stays where more is read, and which expressions are literals.
use Rattle.std.proofs.Common.{◌≡◌, ℕ, ℤ, Bool, true, false, List, Option, Some, None, refl, sym, ap, subst, ◌∙◌}
use Rattle.std.specs.List.{slice_get}
use Rattle.swift_types.specs.declared.operator.Operator.{Operator}
use Rattle.swift_syntax.specs.declared.tree.Expr.{Expr}
use Rattle.swift_syntax.specs.declared.tree.ExprForm.{ExprForm}
use Rattle.swift_syntax.specs.declared.tree.ExprForm.TheVariants as form
use Rattle.swift_syntax.specs.Declarations.{IsLiteral, ReadsSuch, literal_below}
use Rattle.swift_syntax.specs.Expressions.{SwiftTree, StandsAt, Table, Leaf, Negated, SpellsAtom, SpellsCalled, SpellsChoice, SpellsExpr, SpellsNamed, SpellsOperands, SpellsPrefixed, SpellsSome, both_form, literal_of, leaf, negated, inverted, joined, chosen, awaited, tried, tried_optional}
use Rattle.swift_syntax.specs.Expressions as swift
use Rattle.std.proofs.lemmas.Bool.{false≢true}
use Rattle.swift_syntax.specs.declared.token.TokenKind.TheVariants as kind
use Rattle.swift_syntax.specs.declared.token.Token.{Token}
use Rattle.swift_syntax.specs.declared.word.Word.{Word}
use Rattle.swift_syntax.specs.declared.word.Word.TheVariants as word
use Rattle.swift_syntax.specs.declared.token.TokenKind.{TokenKind}
use Rattle.swift_syntax.specs.declared.tree.Receiver.{Receiver}
use Rattle.swift_syntax.specs.Statements.{Source}
use Rattle.swift_syntax.proofs.Grown.{stands_more}
use Rattle.swift_syntax.proofs.Statements.{IsMore}

-- what stands at a place has this form
abbrev pub HasForm : Table → ℕ → ExprForm → Type 0
HasForm x p f = (e : Expr) → slice_get x.exprs p ≡ Some e → f ≡ e.form

pub such_stays : (Such : SwiftTree → Type 0) (i j p : ℕ) → (s t : Source) → IsMore s t → ReadsSuch Such s i j p → ReadsSuch Such t i j p
such_stays Such i j p s t m d =
    record {
      value = d.value;
      such = d.such;
      spelled = subst (λ l. SpellsExpr l.tokens i j d.value) (sym m.lexed) d.spelled;
      stands = stands_more m.behind d.stands;
    }

-- the forms of expressions that have no parts
pub data IsLeaf : ExprForm → Type 0 where
  leaf_number : {n : ℤ} → IsLeaf (form.Number n)
  leaf_truth : {b : Bool} → IsLeaf (form.Truth b)
  leaf_name : IsLeaf form.Name

both_forms : (o : Option Operator) (q r : ℕ) {f : ExprForm} → IsLeaf f → f ≡ both_form o q r → ⊥
both_forms (Some o) q r leaf_number e = absurd cc
both_forms (Some o) q r leaf_truth e = absurd cc
both_forms (Some o) q r leaf_name e = absurd cc
both_forms None q r leaf_number e = absurd cc
both_forms None q r leaf_truth e = absurd cc
both_forms None q r leaf_name e = absurd cc

-- the tree of a leaf
pub leaf_tree : {xs : Table} {p : ℕ} {v : SwiftTree} (P : SwiftTree → Type 0) (f : ExprForm) → IsLeaf f → HasForm xs p f → ((t : ℕ) → P (Leaf f t)) → StandsAt xs p v → P v
leaf_tree P f l h k (leaf {t = t} e) = subst (λ g. P (Leaf g t)) (h _ e) (k t)
leaf_tree P f leaf_number h k (swift.called e gs) = let x = h _ e in absurd cc
leaf_tree P f leaf_truth h k (swift.called e gs) = let x = h _ e in absurd cc
leaf_tree P f leaf_name h k (swift.called e gs) = let x = h _ e in absurd cc
leaf_tree P f leaf_number h k (negated e d) = let x = h _ e in absurd cc
leaf_tree P f leaf_truth h k (negated e d) = let x = h _ e in absurd cc
leaf_tree P f leaf_name h k (negated e d) = let x = h _ e in absurd cc
leaf_tree P f leaf_number h k (inverted e d) = let x = h _ e in absurd cc
leaf_tree P f leaf_truth h k (inverted e d) = let x = h _ e in absurd cc
leaf_tree P f leaf_name h k (inverted e d) = let x = h _ e in absurd cc
leaf_tree P f l h k (joined {q = q} {r = r} {o = o} e a b) = absurd (both_forms o q r l (h _ e))
leaf_tree P f leaf_number h k (chosen e a b c) = let x = h _ e in absurd cc
leaf_tree P f leaf_truth h k (chosen e a b c) = let x = h _ e in absurd cc
leaf_tree P f leaf_name h k (chosen e a b c) = let x = h _ e in absurd cc
leaf_tree P f leaf_number h k (awaited e d) = let x = h _ e in absurd cc
leaf_tree P f leaf_truth h k (awaited e d) = let x = h _ e in absurd cc
leaf_tree P f leaf_name h k (awaited e d) = let x = h _ e in absurd cc
leaf_tree P f leaf_number h k (tried e d) = let x = h _ e in absurd cc
leaf_tree P f leaf_truth h k (tried e d) = let x = h _ e in absurd cc
leaf_tree P f leaf_name h k (tried e d) = let x = h _ e in absurd cc
leaf_tree P f leaf_number h k (tried_optional e d) = let x = h _ e in absurd cc
leaf_tree P f leaf_truth h k (tried_optional e d) = let x = h _ e in absurd cc
leaf_tree P f leaf_name h k (tried_optional e d) = let x = h _ e in absurd cc

pub literal_leaf : {xs : Table} {p : ℕ} {v : SwiftTree} (f : ExprForm) → IsLeaf f → HasForm xs p f → ((t : ℕ) → IsLiteral (Leaf f t)) → StandsAt xs p v → IsLiteral v
literal_leaf f l h k d = leaf_tree IsLiteral f l h k d

negated_number : {q : ℕ} {n : ℤ} {xs : Table} {a : SwiftTree} → HasForm xs q (form.Number n) → (t : ℕ) → StandsAt xs q a → IsLiteral (Negated t a)
negated_number {n = n} h t d = leaf_tree (λ a. IsLiteral (Negated t a)) (form.Number n) leaf_number h (λ u. literal_below) d

-- whether a leaf has a form that has a part
abbrev has_part : SwiftTree → Bool
has_part (Leaf (form.Negate q) t) = true
has_part _ = false

-- the same of the form of a literal, if there is one
abbrev part_in : Option ExprForm → Bool
part_in (Some (form.Negate q)) = true
part_in _ = false

key_whole : (w : Word) → part_in (literal_of (kind.Key w)) ≡ false
key_whole word.True = refl
key_whole word.False = refl
key_whole _ = refl

kind_whole : (k : TokenKind) → part_in (literal_of k) ≡ false
kind_whole (kind.Key w) = key_whole w
kind_whole _ = refl

literal_whole : (k : TokenKind) (f : ExprForm) (t : ℕ) → literal_of k ≡ Some f → has_part (Leaf f t) ≡ false
literal_whole k (form.Negate q) t e = absurd (false≢true (sym (subst (λ x. part_in x ≡ false) e (kind_whole k))))
literal_whole k _ t e = refl

called_whole : {ts : List Token} {r : Receiver} {f : ExprForm} {t i j : ℕ} {v : SwiftTree} → ((u : ℕ) → has_part (Leaf f u) ≡ false) → SpellsCalled ts r f t i j v → has_part v ≡ false
called_whole {t = t} h (swift.uncalled e) = h t
called_whole h (swift.call e gs) = refl

named_whole : {ts : List Token} {i j : ℕ} {v : SwiftTree} → SpellsNamed ts i j v → has_part v ≡ false
named_whole (swift.alone e c) = called_whole (λ u. refl) c
named_whole (swift.member e k c) = called_whole (λ u. refl) c

mutual
  atom_whole : {ts : List Token} {i j : ℕ} {v : SwiftTree} → SpellsAtom ts i j v → has_part v ≡ false
  atom_whole {ts} (swift.literal {i = i} {f = f} e) = literal_whole _ f i e
  atom_whole (swift.name e n) = named_whole n
  atom_whole (swift.own_member e f g c) = called_whole (λ u. refl) c
  atom_whole (swift.case e f c) = called_whole (λ u. refl) c
  atom_whole (swift.parenthesis e x f) = expr_whole x

  prefixed_whole : {ts : List Token} {i j : ℕ} {v : SwiftTree} → SpellsPrefixed ts i j v → has_part v ≡ false
  prefixed_whole (swift.negated e a) = refl
  prefixed_whole (swift.inverted e a) = refl
  prefixed_whole (swift.unprefixed a) = atom_whole a

  some_whole : {ts : List Token} {n i j : ℕ} {v : SwiftTree} → SpellsSome ts n i j v → has_part v ≡ false
  some_whole (swift.first a) = prefixed_whole a
  some_whole (swift.next found a e b) = refl

  choice_whole : {ts : List Token} {i j : ℕ} {v : SwiftTree} → SpellsChoice ts i j v → has_part v ≡ false
  choice_whole (swift.operands (swift.all a e) f) = some_whole a
  choice_whole (swift.choice a e b f c) = refl

  expr_whole : {ts : List Token} {i j : ℕ} {v : SwiftTree} → SpellsExpr ts i j v → has_part v ≡ false
  expr_whole (swift.tried e a) = refl
  expr_whole (swift.tried_optional e f a) = refl
  expr_whole (swift.awaited e a) = refl
  expr_whole (swift.uncovered a) = choice_whole a

-- a number below 0
below_tree : {xs : Table} {p q : ℕ} {n : ℤ} {v : SwiftTree} → HasForm xs p (form.Negate q) → HasForm xs q (form.Number n) → has_part v ≡ false → StandsAt xs p v → IsLiteral v
below_tree {xs} {q = i} {n = n} h k w (negated {t = t} {q = q} {a = a} e d) =
    let x = h _ e in
    let same : i ≡ q = cc in
    negated_number {n = n} (subst (λ o. HasForm xs o (form.Number n)) same k) t d
below_tree {q = i} h k w (leaf {t = t} {f = f} e) = absurd (false≢true (sym w ∙ ap (λ g. has_part (Leaf g t)) (sym (h _ e))))
below_tree h k w (swift.called e gs) = let x = h _ e in absurd cc
below_tree h k w (inverted e d) = let x = h _ e in absurd cc
below_tree h k w (joined {o = Some o} e a b) = let x = h _ e in absurd cc
below_tree h k w (joined {o = None} e a b) = let x = h _ e in absurd cc
below_tree h k w (chosen e a b c) = let x = h _ e in absurd cc
below_tree h k w (awaited e d) = let x = h _ e in absurd cc
below_tree h k w (tried e d) = let x = h _ e in absurd cc
below_tree h k w (tried_optional e d) = let x = h _ e in absurd cc

pub below_literal : {ts : List Token} {i j p q : ℕ} {xs : Table} {n : ℤ} {v : SwiftTree} → HasForm xs p (form.Negate q) → HasForm xs q (form.Number n) → SpellsExpr ts i j v → StandsAt xs p v → IsLiteral v
below_literal {n = n} h k x d = below_tree {n = n} h k (expr_whole x) d
