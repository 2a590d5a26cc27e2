-- The actors of executors, by how many actors there are. Only contracts inside this crate name these.
use Rattle.std.specs.Prelude.{ℕ, zero, suc, ◌==◌, List, [], ◌∷◌, if◌then◌else◌}
use Rattle.script_grammar.specs.Tree.{ExecutorTree}
use Rattle.script_compiler.specs.Plan.{PlanView, executor_at}
use Rattle.script_compiler.specs.Compiled.{ExecutorView}

-- of as many actors as the last number says, from number k on, the numbers of those that run on executor e
abbrev pub members_below : PlanView → ℕ → ℕ → ℕ → List ℕ
members_below p e k zero = []
members_below p e k (suc n) = if executor_at p k == e then k ∷ members_below p e (suc k) n else members_below p e (suc k) n

-- executors from number e on, where there are n actors
abbrev pub executors_by : PlanView → ℕ → ℕ → List ExecutorTree → List ExecutorView
executors_by p n e [] = []
executors_by p n e (x ∷ xs) = record { name = x.name; kind = x.kind; actors = members_below p e 0 n } ∷ executors_by p n (suc e) xs
