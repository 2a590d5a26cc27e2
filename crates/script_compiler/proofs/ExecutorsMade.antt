-- Executors, by how many actors there are and by the actors.
use Rattle.script_compiler.proofs.Prelude.{◌≡◌, ◌≤◌, ℕ, suc, ◌+◌, Option, Some, List, [], ◌∷◌, ◌++◌, length, map, take, refl, sym, ap, subst, ◌∙◌, take-append-le, ACTORS, add-zero, arith, ◌==◌, if◌then◌else◌, All, length-map, ExecutorTree, ActorTree, DeclTree, Decl, view_decl, PlanView, executor_at, Formula, Term, term_of, terms_of, term_if_lent, CompiledActor, CompiledExecutor, ActorView, ExecutorView, members_from, executors_from, actors_from, term_list, actor_view, executor_view, HasInvariants, members_below, executors_by}
use denote.Bor.{Bor}
use Rattle.script_compiler.specs.Plan.{executors_from as executor_list}

same_members : (p : PlanView) (e k : ℕ) (ts : List ActorTree) → members_below p e k (length ts) ≡ members_from p e k ts
same_members p e k [] = refl
same_members p e k (t ∷ ts) = ap (λ (ms : List ℕ). if executor_at p k == e then k ∷ ms else ms) (same_members p e (suc k) ts)

same_executors : (p : PlanView) (ts : List ActorTree) (e : ℕ) (xs : List ExecutorTree) → executors_by p (length ts) e xs ≡ executors_from p ts e xs
same_executors p ts e [] = refl
same_executors p ts e (x ∷ xs) =
    ap (λ (ms : List ℕ). record { name = x.name; kind = x.kind; actors = ms } ∷ executors_by p (length ts) (suc e) xs) (same_members p e 0 ts)
    ∙ ap (λ (vs : List ExecutorView). record { name = x.name; kind = x.kind; actors = members_from p e 0 ts } ∷ vs) (same_executors p ts (suc e) xs)

pub as_many : (p : PlanView) (k : ℕ) (ts : List ActorTree) → length (actors_from p k ts) ≡ length ts
as_many p k [] = refl
as_many p k (t ∷ ts) = ap suc (as_many p (suc k) ts)

-- the executors of a script whose actors are these
pub by_actors : (p : PlanView) (some actors : List CompiledActor) (ts : List ActorTree) (xs : List ExecutorTree) (vs : List ExecutorView) → some ≡ actors → map actor_view actors ≡ actors_from p 0 ts
    → vs ≡ executors_by p (length some) 0 xs → vs ≡ executors_from p ts 0 xs
by_actors p some actors ts xs vs same made is =
    let count : length actors ≡ length ts = sym (length-map actors actor_view) ∙ ap length made ∙ as_many p 0 ts in
    is ∙ ap (λ n. executors_by p n 0 xs) (ap length same ∙ count) ∙ same_executors p ts 0 xs

more : (e n : ℕ) → suc e + n ≡ e + suc n
more e n = omega arith

executors_then : (p : PlanView) (n e : ℕ) (xs ys : List ExecutorTree) → executors_by p n e (xs ++ ys) ≡ executors_by p n e xs ++ executors_by p n (e + length xs) ys
executors_then p n e [] ys = ap (λ k. executors_by p n k ys) (sym (add-zero e))
executors_then p n e (x ∷ xs) ys =
    ap (λ (vs : List ExecutorView). record { name = x.name; kind = x.kind; actors = members_below p e 0 n } ∷ vs) (executors_then p n (suc e) xs ys ∙ ap (λ k. executors_by p n (suc e) xs ++ executors_by p n k ys) (more e (length xs)))

length_executors : (p : PlanView) (n e : ℕ) (xs : List ExecutorTree) → length (executors_by p n e xs) ≡ length xs
length_executors p n e [] = refl
length_executors p n e (x ∷ xs) = ap suc (length_executors p n (suc e) xs)

-- the declared ones, and then those that actors have of their own
pub both_kinds : (p : PlanView) (n : ℕ) (some all : List CompiledExecutor) (xs ys : List ExecutorTree) → map executor_view some ≡ executors_by p n 0 xs
    → map executor_view all ≡ map executor_view some ++ executors_by p n (length some) ys
    → map executor_view all ≡ executors_by p n 0 (xs ++ ys)
both_kinds p n some all xs ys first then_own =
    let count : length some ≡ length xs = sym (length-map some executor_view) ∙ ap length first ∙ length_executors p n 0 xs in
    let zero_on : length xs ≡ 0 + length xs = omega arith in
    then_own
    ∙ ap (λ (vs : List ExecutorView). vs ++ executors_by p n (length some) ys) first
    ∙ ap (λ k. executors_by p n 0 xs ++ executors_by p n k ys) (count ∙ zero_on)
    ∙ sym (executors_then p n 0 xs ys)

pub same_invariants : (xs : List CompiledExecutor) (some actors : List CompiledActor) (vs : List ActorView) → some ≡ actors → map actor_view actors ≡ vs → All (HasInvariants (map actor_view some)) xs → All (HasInvariants vs) xs
same_invariants xs some actors vs same made h = subst (λ (ws : List ActorView). All (HasInvariants ws) xs) (ap (map actor_view) same ∙ made) h

pushed_term : (all : List Formula) (f : Formula) → terms_of (all ++ f ∷ []) ≡ terms_of all ++ term_of f ∷ []
pushed_term [] f = refl
pushed_term (x ∷ all) f = ap (λ (ts : List Term). term_of x ∷ ts) (pushed_term all f)

-- one formula more, which is a copy
pub copy_made : (all more : List Formula) (o : Option (Bor Formula)) (b : Bor Formula) (f : Formula) → o ≡ Some b → term_of f ≡ term_of b.now → more ≡ all ++ f ∷ []
    → terms_of more ≡ terms_of all ++ term_list (term_if_lent o)
copy_made all more o b f is same pushed =
    ap terms_of pushed
    ∙ pushed_term all f
    ∙ ap (λ (t : Term). terms_of all ++ t ∷ []) same
    ∙ ap (λ (p : Option (Bor Formula)). terms_of all ++ term_list (term_if_lent p)) (sym is)

-- where there are as many as there may be, the executor of one actor more does not count
pub executor_passed : (names : List (List ℕ)) (own : ℕ) (x : Decl) (rest : List DeclTree) (done whole : List ℕ) → ACTORS ≤ length done
    → take ACTORS (done ++ executor_list names own (view_decl x ∷ rest)) ≡ whole → take ACTORS (done ++ executor_list names own rest) ≡ whole
executor_passed names own x rest done whole many before = take-append-le ACTORS done _ many ∙ sym (take-append-le ACTORS done _ many) ∙ before
