-- The actors of accepted scripts run on executors of the script.
use Rattle.swift_laws.proofs.Prelude.{◌≡◌, ℕ, zero, suc, ◌+◌, ◌<◌, ◌≤◌, Bool, true, false, cond, List, [], ◌∷◌, ◌++◌, length, refl, sym, subst, ap, ◌∙◌, arith, Option, Some, None, ◌||◌, not, unwrap_or, slice_get, false≢true, ExecutorTree, ActorTree, DeclTree, Executes, Binds, Acts, Roots, SeenView, at_name, on_error, repeat_error, decl_error, declarations_error, names_error, seen_after, past_decl, PlanView, on_executor, executors_from, script_in, plan_in, own_executor, own_executors, actors_from, methods_from, WasAccepted, no_actor, executor_count, method_count, root_count, actor_executor}
use Rattle.std.proofs.Common.{if◌then◌else◌, length-append}
use Rattle.std.specs.Str.{bytes_eq}
use Rattle.script_names.specs.Texts.{is_among, place_of}
use Rattle.script_names.specs.Directory.{DirectoryView, directory_of, executors_in}
use Rattle.script_names.specs.declared.error.NameErrorKind.TheVariants.{Unknown}
use Rattle.script_names.proofs.LeftOut.{nothing_left_out}
use Rattle.script_printing.specs.Script.{ScriptView}
use Rattle.script_compiler.specs.Compiled.{executors_from as views_from}
use Rattle.script_compiler.proofs.ByKinds.{same_plan}
use Rattle.swift_script.specs.Scripts.{parts_of}
use Rattle.swift_script.proofs.NamesAnywhere.{earlier_parts}
use Rattle.swift_script.proofs.Facts.{root_method_there}

-- numbers of executors

abbrev AllBelow : ℕ → List ℕ → Type 0
AllBelow n [] = Unit {0}
AllBelow n (x ∷ xs) = (x < n) × AllBelow n xs

below_at : (n : ℕ) (xs : List ℕ) (k : ℕ) → 0 < n → AllBelow n xs → unwrap_or (slice_get xs k) 0 < n
below_at n [] k some all = some
below_at n (x ∷ xs) zero some all = all.0
below_at n (x ∷ xs) (suc k) some all = below_at n xs k some all.1

-- each executor that an actor names is among these
abbrev NameIn : List (List ℕ) → Option (List ℕ) → Type 0
NameIn names None = Unit {0}
NameIn names (Some n) = is_among names n ≡ true

abbrev NamesIn : List (List ℕ) → List DeclTree → Type 0
NamesIn names [] = Unit {0}
NamesIn names (Acts a ∷ xs) = NameIn names a.executor × NamesIn names xs
NamesIn names (x ∷ xs) = NamesIn names xs

place_there : (b : Bool) (rest : Bool) (k n : ℕ) → (b || rest) ≡ true → (rest ≡ true → k < n) → cond (not b) (1 + k) 0 < suc n
place_there true rest k n e h = omega arith
place_there false rest k n e h = let lt = h e in omega (arith, lt)

place_within : (names : List (List ℕ)) (w : List ℕ) → is_among names w ≡ true → place_of names w < length names
place_within [] w e = absurd (false≢true e)
place_within (n ∷ names) w e = place_there (bytes_eq w n) (is_among names w) (place_of names w) (length names) e (place_within names w)

-- how many actors have an executor of their own
abbrev owners : List ActorTree → ℕ
owners [] = 0
owners (a ∷ others) = length (own_executor a a.executor) + owners others

count_owners : (actors : List ActorTree) → length (own_executors actors) ≡ owners actors
count_owners [] = refl
count_owners (a ∷ others) = let sum = length-append (own_executor a a.executor) (own_executors others) in let rest = count_owners others in omega (arith, sum, rest)

one_below : (names : List (List ℕ)) (a : ActorTree) (o : Option (List ℕ)) (own more bound : ℕ) (others : ℕ → List ℕ) → NameIn names o → length names ≤ own → own + (length (own_executor a o) + more) ≤ bound
    → ((next : ℕ) → length names ≤ next → next + more ≤ bound → AllBelow bound (others next)) → AllBelow bound (on_executor names own o others)
one_below names a None own more bound others is low high rest = (omega (arith, high), rest (own + 1) (omega (arith, low)) (omega (arith, high)))
one_below names a (Some n) own more bound others is low high rest = (let lt = place_within names n is in omega (arith, lt, low, high), rest own low (omega (arith, high)))

all_below : (names : List (List ℕ)) (own bound : ℕ) (ds : List DeclTree) → NamesIn names ds → length names ≤ own → own + owners (script_in ds).actors ≤ bound → AllBelow bound (executors_from names own ds)
all_below names own bound [] is low high = tt
all_below names own bound (Executes x ∷ ds) is low high = all_below names own bound ds is low high
all_below names own bound (Binds l ∷ ds) is low high = all_below names own bound ds is low high
all_below names own bound (Acts a ∷ ds) is low high =
    one_below names a a.executor own (owners (script_in ds).actors) bound (λ next. executors_from names next ds) is.0 low high (λ next l h. all_below names next bound ds is.1 l h)
all_below names own bound (Roots r ∷ ds) is low high = all_below names own bound ds is low high

-- the rules on names say that each is among the declared ones

named_of : (at : ℕ) (b : Bool) → at_name at (if b then None else Some Unknown) ≡ None → b ≡ true
named_of at true e = refl
named_of at false e = absurd cc

on_declared : (d : DirectoryView) (at : ℕ) (o : Option (List ℕ)) → on_error d at o ≡ None → NameIn d.executors o
on_declared d at None e = tt
on_declared d at (Some n) e = named_of at (is_among d.executors n) e

names_in : (d : DirectoryView) (seen : SeenView) (at : ℕ) (ds : List DeclTree) → declarations_error d seen at ds ≡ None → NamesIn d.executors ds
names_in d seen at [] e = tt
names_in d seen at (Executes x ∷ ds) e = names_in d (seen_after seen (Executes x)) (past_decl (Executes x) at) ds (earlier_parts (decl_error d seen at (Executes x)) _ e).1
names_in d seen at (Binds l ∷ ds) e = names_in d (seen_after seen (Binds l)) (past_decl (Binds l) at) ds (earlier_parts (decl_error d seen at (Binds l)) _ e).1
names_in d seen at (Acts a ∷ ds) e =
    let parts = earlier_parts (decl_error d seen at (Acts a)) _ e in
    let one = earlier_parts (repeat_error seen.places at a.name) _ parts.0 in
    let three = earlier_parts (on_error d (suc at) a.executor) _ (earlier_parts _ _ one.1).1 in
    (on_declared d (suc at) a.executor three.0, names_in d (seen_after seen (Acts a)) (past_decl (Acts a) at) ds parts.1)
names_in d seen at (Roots r ∷ ds) e = names_in d (seen_after seen (Roots r)) (past_decl (Roots r) at) ds (earlier_parts (decl_error d seen at (Roots r)) _ e).1

-- as many

declared_many : (ds : List DeclTree) → length (executors_in ds) ≡ length (script_in ds).executors
declared_many [] = refl
declared_many (Executes x ∷ ds) = ap suc (declared_many ds)
declared_many (Binds l ∷ ds) = declared_many ds
declared_many (Acts a ∷ ds) = declared_many ds
declared_many (Roots r ∷ ds) = declared_many ds

views_many : (p : PlanView) (actors : List ActorTree) (e : ℕ) (xs : List ExecutorTree) → length (views_from p actors e xs) ≡ length xs
views_many p actors e [] = refl
views_many p actors e (x ∷ xs) = ap suc (views_many p actors (suc e) xs)

plan_below : (ds : List DeclTree) → names_error ds ≡ None → AllBelow (length (executors_in ds) + owners (script_in ds).actors) (plan_in (script_in ds)).executors
plan_below ds e = grind (arith, directory_of, executors_in, nothing_left_out, names_in, length, owners, script_in, same_plan, all_below)

-- an actor's executor is the plan's, or 0 where there is no such actor
actor_on : (p : PlanView) (k : ℕ) (actors : List ActorTree) (a bound : ℕ) → 0 < bound → AllBelow bound p.executors → (unwrap_or (slice_get (actors_from p k actors) a) no_actor).executor < bound
actor_on p k [] a bound some all = some
actor_on p k (x ∷ others) zero bound some all = below_at bound p.executors k some all
actor_on p k (x ∷ others) (suc a) bound some all = actor_on p (suc k) others a bound some all

methods_none : (p : PlanView) (k : ℕ) (actors : List ActorTree) → 0 < length (methods_from p k actors) → 0 < length actors
methods_none p k [] some = some
methods_none p k (a ∷ others) some = omega arith

some_bound : (bound : ℕ) (xs : List ℕ) → 0 < length xs → AllBelow bound xs → 0 < bound
some_bound bound [] some all = absurd (omega (arith, some))
some_bound bound (x ∷ xs) some all = let lt = all.0 in omega (arith, lt)

one_longer : (names : List (List ℕ)) (own : ℕ) (o : Option (List ℕ)) (n : ℕ) (others : ℕ → List ℕ) → ((next : ℕ) → length (others next) ≡ n) → length (on_executor names own o others) ≡ suc n
one_longer names own None n others each = ap suc (each (own + 1))
one_longer names own (Some x) n others each = ap suc (each own)

executors_many : (names : List (List ℕ)) (own : ℕ) (ds : List DeclTree) → length (executors_from names own ds) ≡ length (script_in ds).actors
executors_many names own [] = refl
executors_many names own (Executes x ∷ ds) = executors_many names own ds
executors_many names own (Binds l ∷ ds) = executors_many names own ds
executors_many names own (Acts a ∷ ds) = one_longer names own a.executor (length (script_in ds).actors) (λ next. executors_from names next ds) (λ next. executors_many names next ds)
executors_many names own (Roots r ∷ ds) = executors_many names own ds

plan_many : (ds : List DeclTree) → length (plan_in (script_in ds)).executors ≡ length (script_in ds).actors
plan_many ds = ap (λ (p : PlanView). length p.executors) (sym (same_plan ds)) ∙ executors_many (executors_in ds) (length (executors_in ds)) ds

count_is : (ds : List DeclTree) → executor_count (script_in ds) ≡ length (executors_in ds) + owners (script_in ds).actors
unfolding parts_of
count_is ds = grind (arith, views_many, length-append, count_owners, declared_many)

some_actor : (script : ScriptView) → 0 < method_count script → 0 < length script.actors
unfolding parts_of
some_actor script some = methods_none (plan_in script) 0 script.actors some

on_executors : (ds : List DeclTree) (a : ℕ) → names_error ds ≡ None → 0 < length (script_in ds).actors → actor_executor (script_in ds) a < executor_count (script_in ds)
unfolding parts_of
on_executors ds a e some = grind (arith, plan_below, some_bound, plan_many, actor_on, count_is)

-- in an accepted script with a root each actor runs on an executor of the script
pub runs_on_executor : (script : ScriptView) → WasAccepted script → 0 < root_count script → (a : ℕ) → actor_executor script a < executor_count script
runs_on_executor script was some a =
    let actors : 0 < length script.actors = some_actor script (omega (arith, root_method_there script 0 was some)) in
    subst (λ (s : ScriptView). 0 < length s.actors → actor_executor s a < executor_count s) (sym was.1.is) (λ h. on_executors was.1.decls a was.1.names h) actors
