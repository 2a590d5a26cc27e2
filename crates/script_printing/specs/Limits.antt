-- Which scripts the grammar allows within a limit: expressions are no higher, no more blocks are open at once, and
-- each part is where it may be.
use Rattle.std.specs.Prelude.{◌≡◌, ℕ, ◌≤◌, ◌<◌, ◌-◌, true, Option, Some, None, ⊤}
use Rattle.std.specs.List.{All}
use Rattle.script_grammar.specs.declared.region.Atoms.{Atoms}
use Rattle.script_grammar.specs.declared.region.Atoms.TheVariants.{Plain}
use Rattle.script_grammar.specs.declared.region.Region.{Region}
use Rattle.script_grammar.specs.declared.region.Region.TheVariants as region
use Rattle.script_grammar.specs.Grammar.{has_every_atom, may_act, may_return}
use Rattle.script_grammar.specs.Tree.{ExprTree, Number, Named, Local, OwnPriority, IsCancelled, Negated, Inverted, Both, height_of, CallTree, AwaitedTree, Called, TaskOf, NextOf, WaitTree, ValueTree, Computed, Waited, MakeTree, Spawned, Detached, ActionTree, Let, LetTask, Assign, Await, Makes, Adds, Cancel, Return, Throw, Check, Yield, HeadTree, If, While, Bind, Group, Assume, StmtTree, Do, Headed, IfElse, BlockTree, nothing, first_then, block_tree, MethodTree, ActorTree}

-- an expression is no higher than the limit
abbrev pub IsLow : ℕ → ExprTree → Type 0
IsLow limit t = height_of t ≤ limit

-- an expression that is absent is within each limit
abbrev pub IsLowIfAny : ℕ → Option ExprTree → Type 0
IsLowIfAny limit None = ⊤
IsLowIfAny limit (Some t) = IsLow limit t

-- an expression has only atoms that are allowed
abbrev pub AtomsFit : Atoms → ExprTree → Type 0
AtomsFit atoms (Number n) = ⊤
AtomsFit atoms (Named w) = ⊤
AtomsFit atoms (Local w) = has_every_atom atoms ≡ true
AtomsFit atoms OwnPriority = has_every_atom atoms ≡ true
AtomsFit atoms IsCancelled = has_every_atom atoms ≡ true
AtomsFit atoms (Negated a) = AtomsFit atoms a
AtomsFit atoms (Inverted a) = AtomsFit atoms a
AtomsFit atoms (Both op a b) = AtomsFit atoms a × AtomsFit atoms b

-- the arguments of a call are within the limit
abbrev pub CallFits : ℕ → CallTree → Type 0
CallFits limit c = All (IsLow limit) c.args

-- what is waited for is within the limit
abbrev pub AwaitedFits : ℕ → AwaitedTree → Type 0
AwaitedFits limit (Called c) = CallFits limit c
AwaitedFits limit (TaskOf w) = ⊤
AwaitedFits limit (NextOf w) = ⊤

-- a wait is within the limit, with the value that stands in for a fault
pub record WaitFits (limit : ℕ) (w : WaitTree) : Type 0 where
  pub for : AwaitedFits limit w.for
  pub other : IsLowIfAny limit w.other

-- a value is within the limit, and waits only in a region where that may be
abbrev pub ValueFits : ℕ → Region → ValueTree → Type 0
ValueFits limit r (Computed t) = IsLow limit t
ValueFits limit r (Waited w) = (may_act r ≡ true) × WaitFits limit w

-- a task that is made is within the limit
abbrev pub MakeFits : ℕ → MakeTree → Type 0
MakeFits limit (Spawned c p) = CallFits limit c
MakeFits limit (Detached c p) = CallFits limit c

-- a statement without a block is within the limit, and may be in the region
abbrev pub ActionFits : ℕ → Region → ActionTree → Type 0
ActionFits limit r (Let x v) = ValueFits limit r v
ActionFits limit r (LetTask x m) = (may_act r ≡ true) × MakeFits limit m
ActionFits limit r (Assign x v) = ValueFits limit r v
ActionFits limit r (Await w) = (may_act r ≡ true) × WaitFits limit w
ActionFits limit r (Makes m) = (may_act r ≡ true) × MakeFits limit m
ActionFits limit r (Adds a) = (may_act r ≡ true) × CallFits limit a.call
ActionFits limit r (Cancel x) = may_act r ≡ true
ActionFits limit r (Return t) = (may_return r ≡ true) × IsLow limit t
ActionFits limit r (Throw t) = IsLow limit t
ActionFits limit r Check = ⊤
ActionFits limit r Yield = may_act r ≡ true

-- a block's head is within the limit, and may be in the region
abbrev pub HeadFits : ℕ → Region → HeadTree → Type 0
HeadFits limit r (If t) = IsLow limit t
HeadFits limit r (While t) = IsLow limit t
HeadFits limit r (Bind l t) = (may_act r ≡ true) × IsLow limit t
HeadFits limit r (Group g) = may_act r ≡ true
HeadFits limit r (Assume a) = ⊤

-- the region that a head's block is
abbrev pub region_in : Region → HeadTree → Region
region_in r (If t) = r
region_in r (While t) = r
region_in r (Bind l t) = r
region_in r (Group g) = region.Group
region_in r (Assume a) = region.Assume

abbrev mutual
  -- a statement, where at most `blocks` further blocks may be open at once
  pub StmtFits : ℕ → Region → ℕ → StmtTree → Type 0
  StmtFits limit r blocks (Do a) = ActionFits limit r a
  StmtFits limit r blocks (Headed h ss) = HeadFits limit r h × (0 < blocks) × BlockFits limit (region_in r h) (blocks - 1) ss
  StmtFits limit r blocks (IfElse t ss rs) = IsLow limit t × (0 < blocks) × BlockFits limit r (blocks - 1) ss × BlockFits limit r (blocks - 1) rs

  -- each statement of a block, where at most `blocks` further blocks may be open at once
  pub BlockFits : ℕ → Region → ℕ → BlockTree → Type 0
  BlockFits limit r blocks nothing = ⊤
  BlockFits limit r blocks (first_then s ss) = StmtFits limit r blocks s × BlockFits limit r blocks ss

-- the body of a method is a block
pub record MethodFits (limit : ℕ) (m : MethodTree) : Type 0 where
  pub room : 0 < limit
  pub body : BlockFits limit region.Method (limit - 1) (block_tree m.body)

-- an invariant has only plain atoms
abbrev pub InvariantFits : ℕ → Option ExprTree → Type 0
InvariantFits limit None = ⊤
InvariantFits limit (Some t) = IsLow limit t × AtomsFit Plain t

-- an actor's invariant and its methods are within the limit
pub record ActorFits (limit : ℕ) (a : ActorTree) : Type 0 where
  pub invariant : InvariantFits limit a.invariant
  pub methods : All (MethodFits limit) a.methods
