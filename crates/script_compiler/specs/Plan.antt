-- What lowering knows of a whole script beside its names: on which executor each actor runs, and the defaults of its task
-- locals.
use Rattle.std.specs.Prelude.{◌≡◌, ℕ, ℤ, ◌+◌, ◌<◌, ◌==◌, get_or, List, [], ◌∷◌, length, take, slice_get, unwrap_or, count_by, Option, Some, None}
use Rattle.script_grammar.specs.Tree.{DeclTree, Binds, Acts}
use Rattle.script_names.specs.Texts.{place_of}
use Rattle.script_names.specs.Directory.{DirectoryView, directory_of, executors_in}

-- the directory, the default of each task local, and the executor of each actor
pub record PlanView : Type 0 where
  pub directory : DirectoryView
  pub defaults : List ℤ
  pub executors : List ℕ

-- the defaults of the task locals, in text order
abbrev pub defaults_in : List DeclTree → List ℤ
defaults_in [] = []
defaults_in (Binds l ∷ xs) = l.default ∷ defaults_in xs
defaults_in (_ ∷ xs) = defaults_in xs

-- an actor's executor, and those of the actors after it, by the number that the next actor's own executor has
abbrev pub on_executor : List (List ℕ) → ℕ → Option (List ℕ) → (ℕ → List ℕ) → List ℕ
on_executor declared own None others = own ∷ others (own + 1)
on_executor declared own (Some name) others = place_of declared name ∷ others own

-- The executor of each actor, in text order. The declared ones have the first numbers, in text order, and an actor
-- without one has one of its own, after those and the actors' own before it.
abbrev pub executors_from : List (List ℕ) → ℕ → List DeclTree → List ℕ
executors_from declared own [] = []
executors_from declared own (Acts a ∷ xs) = on_executor declared own a.executor (λ next. executors_from declared next xs)
executors_from declared own (_ ∷ xs) = executors_from declared own xs

-- the plan of these declarations
abbrev pub plan_of : List DeclTree → PlanView
plan_of decls = record { directory = directory_of decls; defaults = defaults_in decls; executors = executors_from (executors_in decls) (length (executors_in decls)) decls }

-- the executor of the actor at a place
abbrev pub executor_at : PlanView → ℕ → ℕ
executor_at p actor = unwrap_or (slice_get p.executors actor) 0

-- the place of an actor among the actors of its executor, by the executor of each actor: how many of those stand before
-- it
abbrev pub actor_place_in : List ℕ → ℕ → ℕ
actor_place_in executors actor = count_by (λ e. e == unwrap_or (slice_get executors actor) 0) (take actor executors)

-- the place of an actor among the actors of its executor, by a plan
abbrev pub actor_place_of : PlanView → ℕ → ℕ
actor_place_of p actor = actor_place_in p.executors actor

-- the place of each actor among those of its executor
pub record AreActorPlaces (executors places : List ℕ) : Type 0 where
  pub as_many : length places ≡ length executors
  pub each : (k : ℕ) → k < length places → get_or places k 0 ≡ actor_place_in executors k
