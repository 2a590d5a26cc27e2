-- What steps in order put.
use Rattle.std.proofs.Common.{◌≡◌, ◌<◌, ◌≤◌, ◌+◌, ℕ, Bool, true, false, Option, Some, None, IsNone, is_some, rules, List, [], ◌∷◌, ◌++◌, length, get_or, drop, sym, ap, subst, ◌∙◌, append_assoc}
use Rattle.std.proofs.lemmas.List.{drop_all, drop_more}
use Rattle.swift_syntax.specs.Expressions.{after}
use Rattle.swift_syntax.specs.declared.tree.MethodDecl.{MethodDecl}
use Rattle.swift_syntax.specs.declared.tree.ParamDecl.{ParamDecl}
use Rattle.swift_expressions.specs.Lowered.{Lowers, kind_in}
use Rattle.swift_expressions.specs.States.{Binds, IsDeclared, State, left_to, next_variable, put}
use Rattle.swift_expressions.specs.declared.code.Instruction.TheVariants as instruction
use Rattle.swift_expressions.specs.declared.code.Kind.{Kind}
use Rattle.swift_expressions.specs.declared.scope.Standing.TheVariants as standings
use Rattle.swift_expressions.specs.declared.typed.Typed.{Typed}
use Rattle.swift_lowering.specs.Alone.{IsLone}
use Rattle.swift_lowering.specs.Blocks.{DoesAll}
use Rattle.swift_lowering.specs.Files as files
use Rattle.swift_lowering.specs.Files.{AsksAll, InOrder, LowersBody, LowersMethod, TakesParam, in_method, is_returned, params_of}
use Rattle.swift_lowering.specs.Units.{with_bounds}

-- one step, before those for what is left of a list
pub one_ordered : {A : Type 0} (Step : ℕ → A → State → State → Type 0) {place next : ℕ} {s t u : State} (xs : List A) (i : ℕ) (d : A) → i < length xs → next ≡ after place → Step place (get_or xs i d) s t → InOrder A Step next (drop (i + 1) xs) t u → InOrder A Step place (drop i xs) s u
one_ordered {A} Step {place} {next} {s} {t} {u} xs i d lt e h rest =
    subst (λ (ys : List A). InOrder A Step place ys s u) (sym (drop_more xs i d lt))
    (files.one_more h (subst (λ (n : ℕ). InOrder A Step n (drop (i + 1) xs) t u) e rest))

-- no step, where nothing is left of it
pub none_ordered : {A : Type 0} (Step : ℕ → A → State → State → Type 0) (place i : ℕ) (xs : List A) (s : State) → length xs ≤ i → InOrder A Step place (drop i xs) s s
none_ordered {A} Step place i xs s le = subst (λ (ys : List A). InOrder A Step place ys s s) (sym (drop_all i xs le)) files.no_more

-- one value, before those that are left
pub one_asked : {A : Type 0} (Asks : A → State → State → ℕ → Type 0) {value : ℕ} {s t u : State} {values : List ℕ} (xs : List A) (i : ℕ) (d : A) → i < length xs → Asks (get_or xs i d) s t value → AsksAll A Asks (drop (i + 1) xs) t u values → AsksAll A Asks (drop i xs) s u (value ∷ values)
one_asked {A} Asks {value} {s} {t} {u} {values} xs i d lt h rest =
    subst (λ (ys : List A). AsksAll A Asks ys s u (value ∷ values)) (sym (drop_more xs i d lt)) (files.one_further h rest)

-- no value, where nothing is left
pub none_asked : {A : Type 0} (Asks : A → State → State → ℕ → Type 0) (i : ℕ) (xs : List A) (s : State) → length xs ≤ i → AsksAll A Asks (drop i xs) s s []
none_asked {A} Asks i xs s le = subst (λ (ys : List A). AsksAll A Asks ys s s []) (sym (drop_all i xs le)) files.none_left

-- values so far, with one more
pub one_kept : {kept : List ℕ} (so_far : List ℕ) (value : ℕ) (more : List ℕ) → kept ≡ so_far ++ value ∷ [] → kept ++ more ≡ so_far ++ value ∷ more
one_kept {kept} so_far value more e = ap (λ (vs : List ℕ). vs ++ more) e ∙ append_assoc so_far (value ∷ []) more

pub asked_on : {A : Type 0} (Asks : A → State → State → ℕ → Type 0) {s r q u t : State} {kept more : List ℕ} (xs : List A) (i : ℕ) (d : A) (so_far : List ℕ) (value : ℕ) → i < length xs → Asks (get_or xs i d) r q value → u ≡ q → kept ≡ so_far ++ value ∷ [] → ((vs : List ℕ) → AsksAll A Asks (drop i xs) r t vs → AsksAll A Asks xs s t (so_far ++ vs)) → AsksAll A Asks (drop (i + 1) xs) u t more → AsksAll A Asks xs s t (kept ++ more)
asked_on {A} Asks {s} {t = t} {more = more} xs i d so_far value lt h e k goes_on rest =
    subst (λ (vs : List ℕ). AsksAll A Asks xs s t vs) (sym (one_kept so_far value more k))
    (goes_on (value ∷ more) (one_asked Asks xs i d lt h (subst (λ (x : State). AsksAll A Asks (drop (i + 1) xs) x t more) e rest)))

-- a parameter, from what is put for it
pub param_taken : {s r u t : State} (place : ℕ) {v : ℕ} {kind : Kind} {p : ParamDecl} → r ≡ s → IsDeclared r p.name true u → v ≡ next_variable r → kind ≡ kind_in p.value_type → Binds u p.name standings.Constant v kind v t → TakesParam place p s t
param_taken {s} {u = u} {t = t} place {v} {p = p} e d at is b = record {
  u = u;
  declared = subst (λ (x : State). IsDeclared x p.name true u) e d;
  binds = subst (λ (n : ℕ). Binds u p.name standings.Constant n (kind_in p.value_type) n t) (at ∙ ap next_variable e) (subst (λ (k : Kind). Binds u p.name standings.Constant v k v t) is b);
}

-- a body, from what is put for it
pub value_body : {s u r t : State} {m : MethodDecl} {place : ℕ} {b : Bool} {found : Typed} → IsLone s m.body place → b ≡ is_returned m place → b ≡ true → Lowers s place u found → r ≡ u → t ≡ put (instruction.Return found.value) r → LowersBody m s t
value_body {found = found} lone is holds h e g = files.one_value lone (sym is ∙ holds) h (g ∙ ap (put (instruction.Return found.value)) e)

pub statements_body : {s u t : State} {m : MethodDecl} {place : ℕ} {b : Bool} → IsLone s m.body place → b ≡ is_returned m place → b ≡ false → DoesAll (length s.tree.stmts.items) s m.body u → t ≡ u → LowersBody m s t
statements_body {s} {m = m} lone is fails h e = files.statements lone (sym is ∙ fails) (subst (λ (x : State). DoesAll (length s.tree.stmts.items) s m.body x) (sym e) h)

-- a method, from what is put for it
pub method_lowered : {s r u v w t : State} {unit from to : ℕ} {m : MethodDecl} → r ≡ in_method unit m s → InOrder ParamDecl TakesParam 0 (params_of r.tree m) r u → LowersBody m u v → w ≡ left_to 0 v → from ≡ length s.instructions → to ≡ length w.instructions → t ≡ with_bounds unit from to m.end w → LowersMethod unit m s t
method_lowered {s} {r} {u} {v} {w} {unit = unit} {from} {to} {m = m} begins takes body leaves at_from at_to ends = record {
  u = u;
  v = v;
  takes = subst (λ (x : State). InOrder ParamDecl TakesParam 0 (params_of x.tree m) x u) begins takes;
  body = body;
  state = ends ∙ ap (λ (n : ℕ). with_bounds unit n to m.end w) at_from ∙ ap (λ (n : ℕ). with_bounds unit (length s.instructions) n m.end w) (at_to ∙ ap (λ (x : State). length x.instructions) leaves) ∙ ap (with_bounds unit (length s.instructions) (length v.instructions) m.end) leaves;
}

-- what is made of a value is none only where that is
pub none_before : {A B : Type 0} (a : Option A) (b : Option B) → is_some b ≡ is_some a → IsNone b → IsNone a
none_before None b e n = search rules
none_before (Some x) None e n = absurd (cc)
none_before (Some x) (Some y) e n = n

-- the same steps for the same list
pub ordered_of : {A : Type 0} (Step : ℕ → A → State → State → Type 0) {place : ℕ} {xs ys : List A} {r s t : State} → xs ≡ ys → r ≡ s → InOrder A Step place xs r t → InOrder A Step place ys s t
ordered_of {A} Step {place} {xs} {ys} {r} {s} {t} e same h = subst (λ (zs : List A). InOrder A Step place zs s t) e (subst (λ (x : State). InOrder A Step place xs x t) same h)

pub asked_of : {A : Type 0} (Asks : A → State → State → ℕ → Type 0) {xs ys : List A} {s t : State} {values : List ℕ} → xs ≡ ys → AsksAll A Asks xs s t values → AsksAll A Asks ys s t values
asked_of {A} Asks {xs} {ys} {s} {t} {values} e h = subst (λ (zs : List A). AsksAll A Asks zs s t values) e h
