-- What expressions that are put behind others leave as it was.
use Rattle.std.proofs.Common.{◌≡◌, ℕ, ◌<◌, List, [], ◌∷◌, ◌++◌, length, Some, refl, sym, ap, ◌∙◌, subst, arith}
use Rattle.std.specs.List.{slice_get}
use Rattle.std.specs.Prelude.{IsNone}
use Rattle.std.proofs.lemmas.Option.{slice_get_within, slice_get-get_or, get_or_from_slice_get}
use Rattle.std.proofs.lemmas.List.{get_or_append_left, length-append, append_assoc, append-nil}
use Rattle.std.proofs.Math.Seq.{get_or-append_seam}
use Rattle.swift_syntax.specs.declared.reader.Reader.{Reader}
use Rattle.swift_syntax.specs.declared.tree.Argument.{Argument}
use Rattle.swift_syntax.specs.declared.tree.Expr.{Expr}
use Rattle.swift_syntax.specs.declared.tree.ExprForm.{ExprForm}
use Rattle.swift_syntax.specs.declared.tree.Tree.{Tree}
use Rattle.swift_syntax.specs.Expressions.{SwiftArguments, SwiftTree, StandFrom, StandsAt, Table, called, leaf, negated, no_argument, one_argument, table_of, inverted, joined, chosen, awaited, tried, tried_optional}
use Rattle.swift_syntax.specs.ReadersInside.{DeclaresAs, Extends, Grows, IsArgumentPut, IsBehind, IsPut}

pub get_more : {A : Type 0} (xs ys : List A) (p : ℕ) (x : A) → slice_get xs p ≡ Some x → slice_get (xs ++ ys) p ≡ Some x
get_more xs ys p x e =
    let within : p < length xs = slice_get_within xs p x e in
    let longer : p < length (xs ++ ys) = rw (length-append xs ys) (omega (arith, within)) in
    slice_get-get_or (xs ++ ys) p x longer ∙ ap Some (get_or_append_left xs ys x p within ∙ get_or_from_slice_get xs p x x e)

pub get_put : {A : Type 0} (xs : List A) (x : A) → slice_get (xs ++ x ∷ []) (length xs) ≡ Some x
get_put xs x =
    let within : length xs < length (xs ++ x ∷ []) = rw (length-append xs (x ∷ [])) (omega arith) in
    slice_get-get_or (xs ++ x ∷ []) (length xs) x within ∙ ap Some (get_or-append_seam xs x [] x)

pub behind_same : (x : Table) → IsBehind x x
behind_same x = record { more_exprs = []; exprs = sym (append-nil x.exprs); more_arguments = []; arguments = sym (append-nil x.arguments) }

pub behind_on : {x y z : Table} → IsBehind x y → IsBehind y z → IsBehind x z
behind_on {x} {y} {z} g h =
    record {
      more_exprs = g.more_exprs ++ h.more_exprs;
      exprs = h.exprs ∙ (ap (λ xs. xs ++ h.more_exprs) g.exprs ∙ append_assoc x.exprs g.more_exprs h.more_exprs);
      more_arguments = g.more_arguments ++ h.more_arguments;
      arguments = h.arguments ∙ (ap (λ xs. xs ++ h.more_arguments) g.arguments ∙ append_assoc x.arguments g.more_arguments h.more_arguments);
    }

pub get_behind : {x y : Table} (p : ℕ) {e : Expr} → IsBehind x y → slice_get x.exprs p ≡ Some e → slice_get y.exprs p ≡ Some e
get_behind {x} {y} p {e} b g = subst (λ xs. slice_get xs p ≡ Some e) (sym b.exprs) (get_more x.exprs b.more_exprs p e g)

pub argument_behind : {x y : Table} (p : ℕ) {a : Argument} → IsBehind x y → slice_get x.arguments p ≡ Some a → slice_get y.arguments p ≡ Some a
argument_behind {x} {y} p {a} b g = subst (λ xs. slice_get xs p ≡ Some a) (sym b.arguments) (get_more x.arguments b.more_arguments p a g)

mutual
  -- what stands in a table stands there still where more is put behind it
  pub stands_more : {x y : Table} {p : ℕ} {t : SwiftTree} → IsBehind x y → StandsAt x p t → StandsAt y p t
  stands_more b (leaf {p = p} e) = leaf (get_behind p b e)
  stands_more b (called {p = p} e gs) = called (get_behind p b e) (stand_more b gs)
  stands_more b (negated {p = p} e a) = negated (get_behind p b e) (stands_more b a)
  stands_more b (inverted {p = p} e a) = inverted (get_behind p b e) (stands_more b a)
  stands_more b (joined {p = p} {o = o} e l r) = joined {o = o} (get_behind p b e) (stands_more b l) (stands_more b r)
  stands_more b (chosen {p = p} e c l r) = chosen (get_behind p b e) (stands_more b c) (stands_more b l) (stands_more b r)
  stands_more b (awaited {p = p} e a) = awaited (get_behind p b e) (stands_more b a)
  stands_more b (tried {p = p} e a) = tried (get_behind p b e) (stands_more b a)
  stands_more b (tried_optional {p = p} e a) = tried_optional (get_behind p b e) (stands_more b a)

  pub stand_more : {x y : Table} {p : ℕ} {gs : SwiftArguments} → IsBehind x y → StandFrom x p gs → StandFrom y p gs
  stand_more b no_argument = no_argument
  stand_more b (one_argument {p = p} n e a gs) = one_argument n (argument_behind p b e) (stands_more b a) (stand_more b gs)

pub grows_same : (r : Reader) → Grows r r
grows_same r = record { refused = λ n. n; text = refl; tokens = refl; declared = refl; stmts = refl; more = []; exprs = sym (append-nil r.tree.value.exprs.items); more_arguments = []; arguments = sym (append-nil r.tree.value.arguments.items) }

declares_on : (a b c : Tree) → DeclaresAs b a → DeclaresAs c b → DeclaresAs c a
declares_on a b c e f =
    let as_c : Tree → Tree = λ t. record t { stmts = c.stmts; exprs = c.exprs; arguments = c.arguments } in
    f ∙ ap as_c e

pub grows_on : {r s t : Reader} → Grows r s → Grows s t → Grows r t
grows_on {r} {s} {t} g h =
    record {
      refused = λ n. g.refused (h.refused n);
      text = h.text ∙ g.text;
      tokens = h.tokens ∙ g.tokens;
      declared = declares_on r.tree.value s.tree.value t.tree.value g.declared h.declared;
      stmts = h.stmts ∙ g.stmts;
      more = g.more ++ h.more;
      exprs = h.exprs ∙ (ap (λ xs. xs ++ h.more) g.exprs ∙ append_assoc r.tree.value.exprs.items g.more h.more);
      more_arguments = g.more_arguments ++ h.more_arguments;
      arguments = h.arguments ∙ (ap (λ xs. xs ++ h.more_arguments) g.arguments ∙ append_assoc r.tree.value.arguments.items g.more_arguments h.more_arguments);
    }

pub extends_of : {r s : Reader} → Grows r s → Extends r s
extends_of g = record { refused = g.refused; text = g.text; tokens = g.tokens; declared = g.declared; more = g.more; exprs = g.exprs; more_arguments = g.more_arguments; arguments = g.arguments }

pub extends_same : (r : Reader) → Extends r r
extends_same r = extends_of (grows_same r)

-- statements alone are changed
pub extends_stmts : {r s : Reader} (t : Tree) → (IsNone s.refused → IsNone r.refused) → s.text ≡ r.text → s.tokens ≡ r.tokens → s.tree.value ≡ record t { stmts = s.tree.value.stmts } → t ≡ r.tree.value → Extends r s
extends_stmts {r} {s} t refused text tokens made same =
    let as_s : Tree → Tree = λ u. record u { stmts = s.tree.value.stmts; exprs = s.tree.value.exprs; arguments = s.tree.value.arguments } in
    record {
      refused = refused;
      text = text;
      tokens = tokens;
      declared = ap as_s made ∙ ap as_s same;
      more = [];
      exprs = ap (λ (u : Tree). u.exprs.items) made ∙ (ap (λ (u : Tree). u.exprs.items) same ∙ sym (append-nil r.tree.value.exprs.items));
      more_arguments = [];
      arguments = ap (λ (u : Tree). u.arguments.items) made ∙ (ap (λ (u : Tree). u.arguments.items) same ∙ sym (append-nil r.tree.value.arguments.items));
    }

pub extends_on : {r s t : Reader} → Extends r s → Extends s t → Extends r t
extends_on {r} {s} {t} g h =
    record {
      refused = λ n. g.refused (h.refused n);
      text = h.text ∙ g.text;
      tokens = h.tokens ∙ g.tokens;
      declared = declares_on r.tree.value s.tree.value t.tree.value g.declared h.declared;
      more = g.more ++ h.more;
      exprs = h.exprs ∙ (ap (λ xs. xs ++ h.more) g.exprs ∙ append_assoc r.tree.value.exprs.items g.more h.more);
      more_arguments = g.more_arguments ++ h.more_arguments;
      arguments = h.arguments ∙ (ap (λ xs. xs ++ h.more_arguments) g.arguments ∙ append_assoc r.tree.value.arguments.items g.more_arguments h.more_arguments);
    }

pub extended : {r s : Reader} → Extends r s → IsBehind (table_of r.tree.value) (table_of s.tree.value)
extended e = record { more_exprs = e.more; exprs = e.exprs; more_arguments = e.more_arguments; arguments = e.arguments }

pub grown : {r s : Reader} → Grows r s → IsBehind (table_of r.tree.value) (table_of s.tree.value)
grown g = extended (extends_of g)

-- what stood at a place stands there still
pub stands_on : {r s : Reader} {p : ℕ} {t : SwiftTree} → Grows r s → StandsAt (table_of r.tree.value) p t → StandsAt (table_of s.tree.value) p t
stands_on g d = stands_more (grown g) d

-- what was put has its place
pub put_there : {r s : Reader} {f : ExprForm} {t p : ℕ} → IsPut r s f t p → slice_get s.tree.value.exprs.items p ≡ Some (record { form = f; token = t })
put_there {r} {s} {f} {t} {p} d = rw (d.put, d.behind) (get_put r.tree.value.exprs.items (record { form = f; token = t }))

-- one expression more is put behind those that were there
pub put_behind : {r s : Reader} {f : ExprForm} {t p : ℕ} → IsPut r s f t p → IsBehind (table_of r.tree.value) (table_of s.tree.value)
put_behind {r} {f = f} {t = t} d = record { more_exprs = record { form = f; token = t } ∷ []; exprs = d.put; more_arguments = []; arguments = d.arguments ∙ sym (append-nil r.tree.value.arguments.items) }

-- one argument more is put behind those that were there
pub argument_put_behind : {r s : Reader} {a : Argument} {p : ℕ} → IsArgumentPut r s a p → IsBehind (table_of r.tree.value) (table_of s.tree.value)
argument_put_behind {r} {a = a} d = record { more_exprs = []; exprs = d.exprs ∙ sym (append-nil r.tree.value.exprs.items); more_arguments = a ∷ []; arguments = d.put }

-- and has its place
pub argument_there : {r s : Reader} {a : Argument} {p : ℕ} → IsArgumentPut r s a p → slice_get s.tree.value.arguments.items p ≡ Some a
argument_there {r} {s} {a} {p} d = rw (d.put, d.behind) (get_put r.tree.value.arguments.items a)

-- what stood at a place stands there still, behind one more
pub stands_put : {r s : Reader} {f : ExprForm} {t p q : ℕ} {a : SwiftTree} → IsPut r s f t p → StandsAt (table_of r.tree.value) q a → StandsAt (table_of s.tree.value) q a
stands_put d there = stands_more (put_behind d) there
