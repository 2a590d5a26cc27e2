-- What is known of a plan while it is kept. No public clause names these words.
use Rattle.std.specs.Prelude.{ℕ, ◌≤◌, List, [], ◌∷◌, length}
use Rattle.swift_types.specs.declared.limits.TheConstants.{ACTORS}
use Rattle.script_grammar.specs.Tree.{ActorTree}
use Rattle.script_names.specs.Directory.{DirectoryView}
use Rattle.script_compiler.specs.Few.{HasFewNames}
use Rattle.script_compiler.specs.Plan.{on_executor, AreActorPlaces}

-- A script declares few names, its actors are as few as it may have, and each has its place among those of its executor.
pub record IsSmallPlan (d : DirectoryView) (executors places : List ℕ) : Type 0 where
  pub names : HasFewNames d
  pub are : AreActorPlaces executors places
  pub few : length executors ≤ ACTORS

-- the executor of each actor, by the actors alone
abbrev pub executors_on : List (List ℕ) → ℕ → List ActorTree → List ℕ
executors_on declared own [] = []
executors_on declared own (a ∷ others) = on_executor declared own a.executor (λ next. executors_on declared next others)
