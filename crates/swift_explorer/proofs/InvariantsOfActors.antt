-- Each invariant of an executor's actors is that of an actor which runs on it.
use Rattle.swift_explorer.proofs.Prelude.{◌≡◌, ℕ, zero, suc, ◌+◌, ◌<◌, Bool, true, false, Option, Some, None, List, [], ◌∷◌, ◌++◌, length, refl, sym, ap, subst, ◌∙◌, add-zero, arith, eqb, Contains, slice_get, if◌then◌else◌, eqb-true, Term, ActorView, compiled_by, actors_from, executors_from, members_from, members_of, members_if, own_executors, term_list, invariant_if, invariants_among}
use Rattle.script_grammar.specs.Tree.{ActorTree, ExecutorTree}
use Rattle.script_printing.specs.Script.{ScriptView}
use Rattle.script_compiler.specs.Plan.{PlanView, executor_at}
use Rattle.script_compiler.specs.Compiled.{executor_invariants}

there : {X : Type 0} (y : X) (xs : List X) (x : X) → Contains xs x → Contains (y ∷ xs) x
there y xs x (k, lt, is) = (suc k, omega (arith, lt), is)

nothing : {X : Type 0} (x : X) → Contains [] x → ⊥
nothing x (k, lt, is) = omega (arith, lt)

-- an invariant of some actors is that of one of them
abbrev IsOneOf : List ActorView → List ℕ → Term → Type 0
IsOneOf actors ms t = (m : ℕ) × Contains ms m × (invariant_if (slice_get actors m) ≡ Some t)

later : (actors : List ActorView) (m : ℕ) (ms : List ℕ) (t : Term) → IsOneOf actors ms t → IsOneOf actors (m ∷ ms) t
later actors m ms t (n, has, is) = (n, there m ms n has, is)

first_or_later : (actors : List ActorView) (m : ℕ) (ms : List ℕ) (t : Term) (o : Option Term) → invariant_if (slice_get actors m) ≡ o
    → (Contains (invariants_among actors ms) t → IsOneOf actors ms t) → Contains (term_list o ++ invariants_among actors ms) t → IsOneOf actors (m ∷ ms) t
first_or_later actors m ms t None is others has = later actors m ms t (others has)
first_or_later actors m ms t (Some x) is others (zero, lt, same) = (m, (zero, omega arith, refl), is ∙ ap Some same)
first_or_later actors m ms t (Some x) is others (suc k, lt, same) = later actors m ms t (others (k, omega (arith, lt), same))

among : (actors : List ActorView) (ms : List ℕ) (t : Term) → Contains (invariants_among actors ms) t → IsOneOf actors ms t
among actors [] t has = absurd (nothing t has)
among actors (m ∷ ms) t has = first_or_later actors m ms t (invariant_if (slice_get actors m)) refl (among actors ms t) has

-- a member of an executor is an actor that runs on it
abbrev RunsOn : PlanView → ℕ → ℕ → ℕ → ℕ → Type 0
RunsOn p e k count m = (i : ℕ) × (m ≡ k + i) × (i < count) × (executor_at p m ≡ e)

on_later : (p : PlanView) (e k count m : ℕ) → RunsOn p e (suc k) count m → RunsOn p e k (suc count) m
on_later p e k count m (i, is, lt, on) = (suc i, omega (arith, is), omega (arith, lt), on)

on_first : (p : PlanView) (e k : ℕ) (others : List ActorTree) (m : ℕ) (b : Bool) → eqb (executor_at p k) e ≡ b → (Contains (members_from p e (suc k) others) m → RunsOn p e (suc k) (length others) m)
    → Contains (if b then k ∷ members_from p e (suc k) others else members_from p e (suc k) others) m → RunsOn p e k (suc (length others)) m
on_first p e k others m true is rest (zero, lt, same) = (0, sym same ∙ sym (add-zero k), omega arith, subst (λ n. executor_at p n ≡ e) same (eqb-true (executor_at p k) e is))
on_first p e k others m true is rest (suc n, lt, same) = on_later p e k (length others) m (rest (n, omega (arith, lt), same))
on_first p e k others m false is rest has = on_later p e k (length others) m (rest has)

on : (p : PlanView) (e k : ℕ) (actors : List ActorTree) (m : ℕ) → Contains (members_from p e k actors) m → RunsOn p e k (length actors) m
on p e k [] m has = absurd (nothing m has)
on p e k (a ∷ others) m has = on_first p e k others m (eqb (executor_at p k) e) refl (on p e (suc k) others m) has

abbrev some_or : Option ActorView → ActorView → ActorView
some_or None a = a
some_or (Some x) a = x

-- the executor of an actor, by its place
runs_at : (p : PlanView) (k : ℕ) (actors : List ActorTree) (i : ℕ) (a : ActorView) → slice_get (actors_from p k actors) i ≡ Some a → a.executor ≡ executor_at p (k + i)
runs_at p k [] i a is = absurd cc
runs_at p k (x ∷ others) zero a is = ap (λ (y : ActorView). y.executor) (sym (ap (λ (o : Option ActorView). some_or o a) is)) ∙ ap (executor_at p) (sym (add-zero k))
runs_at p k (x ∷ others) (suc i) a is = runs_at p (suc k) others i a is ∙ ap (executor_at p) (omega arith)

as_many : (p : PlanView) (k : ℕ) (actors : List ActorTree) → length (actors_from p k actors) ≡ length actors
as_many p k [] = refl
as_many p k (a ∷ others) = ap suc (as_many p (suc k) others)

-- the members of an executor, by its place
members_at : (p : PlanView) (actors : List ActorTree) (j : ℕ) (xs : List ExecutorTree) (e m : ℕ) → Contains (members_if (slice_get (executors_from p actors j xs) e)) m → Contains (members_of p (j + e) actors) m
members_at p actors j [] e m has = absurd (nothing m has)
members_at p actors j (x ∷ xs) zero m has = subst (λ n. Contains (members_of p n actors) m) (sym (add-zero j)) has
members_at p actors j (x ∷ xs) (suc e) m has = subst (λ n. Contains (members_of p n actors) m) (omega arith) (members_at p actors (suc j) xs e m has)

zero_more : (m : ℕ) → 0 + m ≡ m
zero_more m = omega arith

-- an invariant of an executor's actors is that of an actor which runs on it
pub of_actor : (p : PlanView) (tree : ScriptView) (e : ℕ) (t : Term) → let c = compiled_by p tree in Contains (executor_invariants c e) t
    → (m : ℕ) × (m < length c.actors) × (invariant_if (slice_get c.actors m) ≡ Some t) × ((a : ActorView) → slice_get c.actors m ≡ Some a → a.executor ≡ e)
of_actor p tree e t has =
    let c = compiled_by p tree in
    let one = among c.actors (members_if (slice_get c.executors e)) t has in
    let zero_on : 0 + e ≡ e = omega arith in
    let runs = on p e 0 tree.actors one.0 (subst (λ n. Contains (members_of p n tree.actors) one.0) zero_on (members_at p tree.actors 0 (tree.executors ++ own_executors tree.actors) e one.0 one.1)) in
    let place : one.0 ≡ runs.0 = runs.1 ∙ zero_more runs.0 in (
      one.0,
      omega (arith, place, runs.2, as_many p 0 tree.actors),
      one.2,
      λ a is. runs_at p 0 tree.actors one.0 a is ∙ ap (executor_at p) (zero_more one.0) ∙ runs.3,
    )
