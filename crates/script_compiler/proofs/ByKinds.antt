-- The plan of a script is that of its declarations by kinds.
use Rattle.script_compiler.proofs.Prelude.{◌≡◌, ◌≤◌, ℕ, suc, ◌+◌, ℤ, Bool, true, false, Option, Some, None, List, [], ◌∷◌, length, map, take, take_all, refl, sym, ap, ◌∙◌, arith, if◌then◌else◌, ACTORS, MethodTree, ActorTree, DeclTree, Executes, Binds, Acts, Roots, is_among, place_of, method_key, DirectoryView, with_method, with_methods, with_actor, with_names, with_decl, with_decls, nothing_declared, directory_of, executors_in, actors_in, names_error, PlanView, plan_of, defaults_in, on_executor, ScriptView, declarations_of, script_in, plan_in, executors_on}
use Rattle.script_compiler.specs.Plan.{executors_from}
use Rattle.script_printing.proofs.ByKind.{script_again}
use Rattle.script_compiler.proofs.LoweredInOrder.{actors_are_few, same_executors}

-- what a directory has beside actors
record Named : Type 0 where
  executors : List (List ℕ)
  locals : List (List ℕ)
  roots : List (List ℕ)

abbrev named : DirectoryView → Named
named d = record { executors = d.executors; locals = d.locals; roots = d.roots }

-- and what it has of actors
abbrev acting : DirectoryView → DirectoryView
acting d = record d { executors = []; locals = []; roots = [] }

named_if : (b : Bool) (x y : DirectoryView) (n : Named) → named x ≡ n → named y ≡ n → named (if b then x else y) ≡ n
named_if true x y n e f = e
named_if false x y n e f = f

acting_if : (b : Bool) (x y : DirectoryView) → acting (if b then x else y) ≡ (if b then acting x else acting y)
acting_if true x y = refl
acting_if false x y = refl

named_method : (k : ℕ) (m : MethodTree) (d : DirectoryView) → named (with_method k m d) ≡ named d
named_method k m d = named_if (is_among d.methods (method_key k m.name)) d _ (named d) refl refl

named_methods : (k : ℕ) (ms : List MethodTree) (d : DirectoryView) → named (with_methods k ms d) ≡ named d
named_methods k [] d = refl
named_methods k (m ∷ ms) d = named_methods k ms (with_method k m d) ∙ named_method k m d

named_actor : (a : ActorTree) (d : DirectoryView) → named (with_actor a d) ≡ named d
named_actor a d = named_if (is_among d.actors a.name) d _ (named d) refl (named_methods (length d.actors) a.methods _)

acting_method : (k : ℕ) (m : MethodTree) (d : DirectoryView) → acting (with_method k m d) ≡ with_method k m (acting d)
acting_method k m d = acting_if (is_among d.methods (method_key k m.name)) d _

acting_methods : (k : ℕ) (ms : List MethodTree) (d : DirectoryView) → acting (with_methods k ms d) ≡ with_methods k ms (acting d)
acting_methods k [] d = refl
acting_methods k (m ∷ ms) d = acting_methods k ms (with_method k m d) ∙ ap (with_methods k ms) (acting_method k m d)

acting_actor : (a : ActorTree) (d : DirectoryView) → acting (with_actor a d) ≡ with_actor a (acting d)
acting_actor a d =
    acting_if (is_among d.actors a.name) d _
    ∙ ap (λ (x : DirectoryView). if is_among d.actors a.name then acting d else x) (acting_methods (length d.actors) a.methods _)

abbrev with_actors : List ActorTree → DirectoryView → DirectoryView
with_actors [] d = d
with_actors (a ∷ others) d = with_actors others (with_actor a d)

-- the names that a script adds
abbrev names_after : ScriptView → Named → Named
names_after s n = record { executors = with_names n.executors (map (λ x. x.name) s.executors); locals = with_names n.locals (map (λ l. l.name) s.locals); roots = with_names n.roots (map (λ r. r.name) s.roots) }

acting_kinds : (xs : List DeclTree) (d : DirectoryView) → acting (with_decls xs d) ≡ with_actors (script_in xs).actors (acting d)
acting_kinds [] d = refl
acting_kinds (Executes x ∷ xs) d = acting_kinds xs (with_decl (Executes x) d)
acting_kinds (Binds l ∷ xs) d = acting_kinds xs (with_decl (Binds l) d)
acting_kinds (Acts a ∷ xs) d = acting_kinds xs (with_actor a d) ∙ ap (with_actors (script_in xs).actors) (acting_actor a d)
acting_kinds (Roots r ∷ xs) d = acting_kinds xs (with_decl (Roots r) d)

named_kinds : (xs : List DeclTree) (d : DirectoryView) → named (with_decls xs d) ≡ names_after (script_in xs) (named d)
named_kinds [] d = refl
named_kinds (Executes x ∷ xs) d = named_kinds xs (with_decl (Executes x) d)
named_kinds (Binds l ∷ xs) d = named_kinds xs (with_decl (Binds l) d)
named_kinds (Acts a ∷ xs) d = named_kinds xs (with_actor a d) ∙ ap (names_after (script_in xs)) (named_actor a d)
named_kinds (Roots r ∷ xs) d = named_kinds xs (with_decl (Roots r) d)

-- both together
abbrev whole : Named → DirectoryView → DirectoryView
whole n d = record d { executors = n.executors; locals = n.locals; roots = n.roots }

abbrev directory_by : ScriptView → DirectoryView
directory_by s = whole (names_after s (named nothing_declared)) (with_actors s.actors (acting nothing_declared))

directory_kinds : (xs : List DeclTree) → directory_of xs ≡ directory_by (script_in xs)
directory_kinds xs =
    ap (λ (n : Named). whole n (acting (directory_of xs))) (named_kinds xs nothing_declared)
    ∙ ap (whole (names_after (script_in xs) (named nothing_declared))) (acting_kinds xs nothing_declared)

defaults_kinds : (xs : List DeclTree) → defaults_in xs ≡ map (λ l. l.default) (script_in xs).locals
defaults_kinds [] = refl
defaults_kinds (Executes x ∷ xs) = defaults_kinds xs
defaults_kinds (Binds l ∷ xs) = ap (λ ds. l.default ∷ ds) (defaults_kinds xs)
defaults_kinds (Acts a ∷ xs) = defaults_kinds xs
defaults_kinds (Roots r ∷ xs) = defaults_kinds xs

pub names_kinds : (xs : List DeclTree) → executors_in xs ≡ map (λ x. x.name) (script_in xs).executors
names_kinds [] = refl
names_kinds (Executes x ∷ xs) = ap (λ ns. x.name ∷ ns) (names_kinds xs)
names_kinds (Binds l ∷ xs) = names_kinds xs
names_kinds (Acts a ∷ xs) = names_kinds xs
names_kinds (Roots r ∷ xs) = names_kinds xs

on_same : (declared : List (List ℕ)) (own : ℕ) (on : Option (List ℕ)) (f g : ℕ → List ℕ) → ((n : ℕ) → f n ≡ g n) → on_executor declared own on f ≡ on_executor declared own on g
on_same declared own None f g h = ap (λ ns. own ∷ ns) (h (own + 1))
on_same declared own (Some name) f g h = ap (λ ns. place_of declared name ∷ ns) (h own)

executors_kinds : (declared : List (List ℕ)) (own : ℕ) (xs : List DeclTree) → executors_from declared own xs ≡ executors_on declared own (script_in xs).actors
executors_kinds declared own [] = refl
executors_kinds declared own (Executes x ∷ xs) = executors_kinds declared own xs
executors_kinds declared own (Binds l ∷ xs) = executors_kinds declared own xs
executors_kinds declared own (Acts a ∷ xs) = on_same declared own a.executor _ _ (λ n. executors_kinds declared n xs)
executors_kinds declared own (Roots r ∷ xs) = executors_kinds declared own xs

abbrev plan_by : ScriptView → PlanView
plan_by s = let names = map (λ x. x.name) s.executors in record { directory = directory_by s; defaults = map (λ l. l.default) s.locals; executors = executors_on names (length names) s.actors }

plan_kinds : (xs : List DeclTree) → plan_of xs ≡ plan_by (script_in xs)
plan_kinds xs =
    let s = script_in xs in
    let here : List (List ℕ) → List ℕ = λ names. executors_on names (length names) s.actors in
    ap (λ (d : DirectoryView). record { directory = d; defaults = defaults_in xs; executors = executors_from (executors_in xs) (length (executors_in xs)) xs }) (directory_kinds xs)
    ∙ ap (λ (ds : List ℤ). record { directory = directory_by s; defaults = ds; executors = executors_from (executors_in xs) (length (executors_in xs)) xs }) (defaults_kinds xs)
    ∙ ap (λ (es : List ℕ). record { directory = directory_by s; defaults = map (λ l. l.default) s.locals; executors = es }) (executors_kinds (executors_in xs) (length (executors_in xs)) xs ∙ ap here (names_kinds xs))

-- declarations of different kinds commute
pub same_plan : (xs : List DeclTree) → plan_of xs ≡ plan_in (script_in xs)
same_plan xs = plan_kinds xs ∙ ap plan_by (sym (script_again (script_in xs))) ∙ sym (plan_kinds (declarations_of (script_in xs)))

on_length : (declared : List (List ℕ)) (own : ℕ) (on : Option (List ℕ)) (f : ℕ → List ℕ) (n : ℕ) → ((k : ℕ) → length (f k) ≡ n) → length (on_executor declared own on f) ≡ suc n
on_length declared own None f n h = ap suc (h (own + 1))
on_length declared own (Some name) f n h = ap suc (h own)

as_many : (declared : List (List ℕ)) (own : ℕ) (xs : List DeclTree) → length (executors_from declared own xs) ≡ length (actors_in xs)
as_many declared own [] = refl
as_many declared own (Executes x ∷ xs) = as_many declared own xs
as_many declared own (Binds l ∷ xs) = as_many declared own xs
as_many declared own (Acts a ∷ xs) = on_length declared own a.executor (λ next. executors_from declared next xs) (length (actors_in xs)) (λ k. as_many declared k xs)
as_many declared own (Roots r ∷ xs) = as_many declared own xs

-- the plan that is made of what is declared, and of the first actors, where the names of a script are in order
pub plan_made : (xs : List DeclTree) (p : PlanView) → names_error xs ≡ None → p.directory ≡ directory_of xs → p.defaults ≡ defaults_in xs
    → p.executors ≡ take ACTORS (executors_from (directory_of xs).executors (length (directory_of xs).executors) xs) → p ≡ plan_in (script_in xs)
plan_made xs p e declared defaults executors =
    let names : (directory_of xs).executors ≡ executors_in xs = same_executors (directory_of xs) xs refl e in
    let all = executors_from (executors_in xs) (length (executors_in xs)) xs in
    let few : length all ≤ ACTORS = omega (arith, as_many (executors_in xs) (length (executors_in xs)) xs, actors_are_few (directory_of xs) xs e) in
    let every : p.executors ≡ all = executors ∙ ap (λ (ns : List (List ℕ)). take ACTORS (executors_from ns (length ns) xs)) names ∙ take_all ACTORS all few in
    (λ i. record { directory = declared i; defaults = defaults i; executors = every i }) ∙ same_plan xs
