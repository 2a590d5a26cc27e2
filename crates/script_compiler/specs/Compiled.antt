-- What a script is compiled to: all that a run needs of it, as a function of its tree, without where it lies in memory. (Own;
-- executors by SE-0392.)
use Rattle.std.specs.Prelude.{ℕ, suc, ◌==◌, ℤ, Option, Some, None, List, [], ◌∷◌, ◌++◌, length, map, slice_get, if◌then◌else◌}
use Rattle.swift_types.specs.declared.priority.Priority.{Priority}
use Rattle.swift_types.specs.declared.executor_kind.ExecutorKind.{ExecutorKind}
use Rattle.swift_types.specs.declared.executor_kind.ExecutorKind.TheVariants as kind
use Rattle.script_grammar.specs.Tree.{ExecutorTree, LocalTree, FieldTree, MethodTree, ActorTree, RootTree, block_tree}
use Rattle.script_names.specs.Directory.{method_place}
use Rattle.script_names.specs.Scope.{ScopeView, fields_alone}
use Rattle.script_names.specs.Rules.{with_parameters}
use Rattle.script_code.specs.Tree.{Term, Code}
use Rattle.script_compiler.specs.Plan.{PlanView, plan_of, executor_at}
use Rattle.script_compiler.specs.Lowered.{lowered_if, block_code}
use Rattle.script_compiler.specs.Counts.{counts_of, most_of}
use Rattle.script_compiler.specs.declared.lowering.counts.PlaceCounts.{PlaceCounts}
use Rattle.script_printing.specs.Script.{ScriptView, declarations_of}
use Rattle.script_compiler.specs.Methods.{method_scope, places_in}

-- An executor has a name, a kind, and the numbers of its actors, in text order.
pub record ExecutorView : Type 0 where
  pub name : List ℕ
  pub kind : ExecutorKind
  pub actors : List ℕ

-- An actor has a name, the number of its executor, fields with their start values, and perhaps an invariant.
pub record ActorView : Type 0 where
  pub name : List ℕ
  pub executor : ℕ
  pub fields : List FieldTree
  pub invariant : Option Term

-- A method has a name, the number of its actor, how many parameters, numbers and handles, and the statements of its block,
-- with places for names. Its parameters are the first of its numbers.
pub record MethodView : Type 0 where
  pub name : List ℕ
  pub actor : ℕ
  pub params : ℕ
  pub numbers : ℕ
  pub handles : ℕ
  pub code : Code

-- A root has a name, the number of its method, arguments and a priority.
pub record RootView : Type 0 where
  pub name : List ℕ
  pub method : ℕ
  pub args : List ℤ
  pub priority : Priority

-- Executors, task locals, actors and roots are numbered in text order: the declared executors first, then those that actors
-- have of their own. Methods are numbered actor by actor.
pub record CompiledView : Type 0 where
  pub executors : List ExecutorView
  pub locals : List LocalTree
  pub actors : List ActorView
  pub methods : List MethodView
  pub roots : List RootView

-- the plan of a script
abbrev pub plan_in : ScriptView → PlanView
plan_in tree = plan_of (declarations_of tree)

-- the numbers, from k on, of the actors that run on an executor
abbrev pub members_from : PlanView → ℕ → ℕ → List ActorTree → List ℕ
members_from p e k [] = []
members_from p e k (a ∷ others) = if executor_at p k == e then k ∷ members_from p e (suc k) others else members_from p e (suc k) others

-- the numbers of the actors that run on executor e, in text order
abbrev pub members_of : PlanView → ℕ → List ActorTree → List ℕ
members_of p e actors = members_from p e 0 actors

-- an actor's own executor, if it names none
abbrev pub own_executor : ActorTree → Option (List ℕ) → List ExecutorTree
own_executor a None = record { name = a.name; kind = kind.Priority } ∷ []
own_executor a (Some name) = []

-- the executors that actors have of their own
abbrev pub own_executors : List ActorTree → List ExecutorTree
own_executors [] = []
own_executors (a ∷ others) = own_executor a a.executor ++ own_executors others

-- executors from number e on
abbrev pub executors_from : PlanView → List ActorTree → ℕ → List ExecutorTree → List ExecutorView
executors_from p actors e [] = []
executors_from p actors e (x ∷ xs) = record { name = x.name; kind = x.kind; actors = members_of p e actors } ∷ executors_from p actors (suc e) xs

-- the actor with number k
abbrev pub actor_of : PlanView → ℕ → ActorTree → ActorView
actor_of p k a = record { name = a.name; executor = executor_at p k; fields = a.fields; invariant = lowered_if p (fields_alone p.directory k) a.invariant }

-- actors from number k on
abbrev pub actors_from : PlanView → ℕ → List ActorTree → List ActorView
actors_from p k [] = []
actors_from p k (a ∷ others) = actor_of p k a ∷ actors_from p (suc k) others

-- what a method of the actor at place k is compiled to
abbrev pub method_of : PlanView → ℕ → MethodTree → MethodView
method_of p k m = record {
  name = m.name;
  actor = k;
  params = length m.params;
  numbers = (places_in (method_scope p k m) m).numbers;
  handles = (places_in (method_scope p k m) m).handles;
  code = block_code p (method_scope p k m) (block_tree m.body);
}

-- the methods of actors from number k on
abbrev pub methods_from : PlanView → ℕ → List ActorTree → List MethodView
methods_from p k [] = []
methods_from p k (a ∷ others) = map (method_of p k) a.methods ++ methods_from p (suc k) others

-- what a root is compiled to: its method has a number in place of its name
abbrev pub root_of : PlanView → RootTree → RootView
root_of p r = record { name = r.name; method = method_place p.directory r.actor r.method; args = r.args; priority = r.priority }

-- what a script is compiled to, by a plan
abbrev pub compiled_by : PlanView → ScriptView → CompiledView
compiled_by p tree = record {
  executors = executors_from p tree.actors 0 (tree.executors ++ own_executors tree.actors);
  locals = tree.locals;
  actors = actors_from p 0 tree.actors;
  methods = methods_from p 0 tree.actors;
  roots = map (root_of p) tree.roots;
}

-- what a script is compiled to
abbrev pub compiled_of : ScriptView → CompiledView
compiled_of tree = compiled_by (plan_in tree) tree

-- the numbers of an executor's actors, if there is one
abbrev pub members_if : Option ExecutorView → List ℕ
members_if None = []
members_if (Some x) = x.actors

-- the invariant of an actor, if there is one
abbrev pub invariant_if : Option ActorView → Option Term
invariant_if None = None
invariant_if (Some a) = a.invariant

-- the one term, if there is one
abbrev pub term_list : Option Term → List Term
term_list None = []
term_list (Some t) = t ∷ []

-- the invariants of those of some actors that have one, in order
abbrev pub invariants_among : List ActorView → List ℕ → List Term
invariants_among actors [] = []
invariants_among actors (k ∷ others) = term_list (invariant_if (slice_get actors k)) ++ invariants_among actors others

-- the invariants of an executor's actors
abbrev pub executor_invariants : CompiledView → ℕ → List Term
executor_invariants c e = invariants_among c.actors (members_if (slice_get c.executors e))
