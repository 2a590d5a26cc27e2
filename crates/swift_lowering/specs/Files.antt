-- What the methods, invariants and expectations of a file become. (Our own.)
use Rattle.std.specs.Prelude.{ℕ, ◌≡◌, ◌==◌, ◌&&◌, if◌then◌else◌, Bool, true, false, not, List, [], ◌∷◌, length, nat_le, slice_range}
use Rattle.swift_syntax.specs.Expressions.{after}
use Rattle.swift_syntax.specs.declared.token.Token.{Token}
use Rattle.swift_syntax.specs.declared.tree.ExpectDecl.{ExpectDecl}
use Rattle.swift_syntax.specs.declared.tree.InvariantDecl.{InvariantDecl}
use Rattle.swift_syntax.specs.declared.tree.MethodDecl.{MethodDecl}
use Rattle.swift_syntax.specs.declared.tree.ParamDecl.{ParamDecl}
use Rattle.swift_syntax.specs.declared.tree.Tree.{Tree}
use Rattle.swift_expressions.specs.Lowered.{Lowers, kind_in}
use Rattle.swift_expressions.specs.States.{Binds, IsBegun, IsDeclared, State, left_to, next_variable, not_begun, put}
use Rattle.swift_expressions.specs.declared.code.Code.{Code}
use Rattle.swift_expressions.specs.declared.code.Instruction.TheVariants as instruction
use Rattle.swift_expressions.specs.declared.code.Kind.{Kind}
use Rattle.swift_expressions.specs.declared.code.Kind.TheVariants as kinds
use Rattle.swift_expressions.specs.declared.code.TheConstants.{NONE}
use Rattle.swift_expressions.specs.declared.code.UnitKind.TheVariants as unit_kinds
use Rattle.swift_expressions.specs.declared.lowering.Fallback.TheVariants as fallbacks
use Rattle.swift_expressions.specs.declared.lowering.Returns.TheVariants as returning
use Rattle.swift_expressions.specs.declared.scope.Standing.TheVariants as standings
use Rattle.swift_expressions.specs.declared.typed.Typed.{Typed}
use Rattle.swift_lowering.specs.Alone.{IsLone}
use Rattle.swift_lowering.specs.Blocks.{DoesAll}
use Rattle.swift_lowering.specs.Units.{with_bounds}

-- From one state to another one, by a step for each item of a list, in its order. Each step is told the item's place; the first one has this.
pub data InOrder (A : Type 0) (Step : ℕ → A → State → State → Type 0) : ℕ → List A → State → State → Type 0 where
  no_more : {place : ℕ} {s : State} → InOrder A Step place [] s s
  one_more : {place : ℕ} {x : A} {xs : List A} {s t u : State} → Step place x s t → InOrder A Step (after place) xs t u → InOrder A Step place (x ∷ xs) s u

-- A method gets its unit, at the place that it has among the methods.
abbrev pub BeginsMethod : ℕ → MethodDecl → State → State → Type 0
BeginsMethod place m s t = IsBegun s (unit_kinds.Method place) m.actor m.name m.name t

-- `main` gets its unit.
abbrev pub BeginsMain : ℕ → MethodDecl → State → State → Type 0
BeginsMain place m s t = IsBegun s unit_kinds.Main NONE NONE m.name t

-- what is lowered next stands in a unit and in an actor, under no `await`
abbrev pub placed : ℕ → ℕ → Bool → Bool → State → State
placed unit actor is_closure is_expectation s = record s { unit = unit; actor = actor; boundary = 0; is_closure = is_closure; is_expectation = is_expectation; is_awaited = false; fallback = fallbacks.None; returns = returning.Unit; groups = 0 }

-- a method begins, or `main`, as the unit at a place; where it stands in no actor, as a closure does
abbrev pub in_method : ℕ → MethodDecl → State → State
in_method unit m s = placed unit m.actor (m.actor == NONE) false s

-- the parameters of a method; none where there are no such places
abbrev pub params_of : Tree → MethodDecl → List ParamDecl
params_of tree m = if nat_le m.first_param m.params_end && nat_le m.params_end (length tree.params.items) then slice_range tree.params.items m.first_param m.params_end else []

-- A parameter is a variable of the unit, for which its name stands: a value that never changes.
pub record TakesParam (place : ℕ) (p : ParamDecl) (s t : State) : Type 0 where
  pub u : State
  pub declared : IsDeclared s p.name true u
  pub binds : Binds u p.name standings.Constant (next_variable s) (kind_in p.value_type) (next_variable s) t

-- whether something is returned
abbrev pub has_result : Kind → Bool
has_result kinds.Void = false
has_result kinds.Int = true
has_result kinds.Bool = true
has_result kinds.Urgency = true

-- whether a body is but a value, at this place where that is not 0, which is what its method returns
abbrev pub is_returned : MethodDecl → ℕ → Bool
is_returned m place = not (place == 0) && has_result (kind_in m.result)

-- What the body of a method becomes: its statements; a value that is all that it says is returned, where the method returns something.
pub data LowersBody (m : MethodDecl) (s t : State) : Type 0 where
  one_value : {place : ℕ} {u : State} {found : Typed} → IsLone s m.body place → is_returned m place ≡ true → Lowers s place u found → t ≡ put (instruction.Return found.value) u → LowersBody m s t
  statements : {place : ℕ} → IsLone s m.body place → is_returned m place ≡ false → DoesAll (length s.tree.stmts.items) s m.body t → LowersBody m s t

-- What a method becomes, or `main`, as the unit at a place: its parameters, in their order, then its body. Its names end with it, and the
-- unit's instructions are those of the body.
pub record LowersMethod (unit : ℕ) (m : MethodDecl) (s t : State) : Type 0 where
  pub u : State
  pub v : State
  pub takes : InOrder ParamDecl TakesParam 0 (params_of s.tree m) (in_method unit m s) u
  pub body : LowersBody m u v
  pub state : t ≡ with_bounds unit (length s.instructions) (length v.instructions) m.end (left_to 0 v)

-- An expression has a value, for which nothing has to be done before it.
pub record IsAsked (s : State) (test : ℕ) (t : State) (value : ℕ) : Type 0 where
  pub found : Typed
  pub lowers : Lowers s test t found
  pub is : value ≡ found.value
  pub alone : length t.instructions ≡ length s.instructions

-- An invariant becomes a value over the fields of its actor.
abbrev pub AsksInvariant : InvariantDecl → State → State → ℕ → Type 0
AsksInvariant i s t value = IsAsked (placed NONE i.actor false false s) i.test t value

-- An expectation becomes a value over the fields of instances at the end of a run.
abbrev pub AsksExpectation : ExpectDecl → State → State → ℕ → Type 0
AsksExpectation e s t value = IsAsked (placed NONE NONE false true s) e.test t value

-- From one state to another one, by a step for each item of a list, in its order; each gives a value, and these are in that order too.
pub data AsksAll (A : Type 0) (Asks : A → State → State → ℕ → Type 0) : List A → State → State → List ℕ → Type 0 where
  none_left : {s : State} → AsksAll A Asks [] s s []
  one_further : {x : A} {xs : List A} {s t u : State} {value : ℕ} {values : List ℕ} → Asks x s t value → AsksAll A Asks xs t u values → AsksAll A Asks (x ∷ xs) s u (value ∷ values)

-- Code has what was put, and these values for invariants and expectations. Where the values that `main` prints stand is left aside.
pub record HasPut (s : State) (code : Code) : Type 0 where
  pub instructions : code.instructions.items ≡ s.instructions
  pub values : code.values.items ≡ s.values
  pub operands : code.operands.items ≡ s.operands
  pub variables : code.variables.items ≡ s.variables
  pub units : code.units.items ≡ s.units

-- What a file with this text, these tokens and this tree becomes: the methods of all actors and the functions outside of actors, in the
-- tree's order, and `main` behind them; then the values of invariants, and those of expectations, each in the tree's order. All of these
-- have their units before the first of them is lowered, so that the unit of a method has the method's place.
pub record IsCodeOf (text : List ℕ) (tokens : List Token) (tree : Tree) (code : Code) : Type 0 where
  pub a : State
  pub b : State
  pub c : State
  pub d : State
  pub e : State
  pub f : State
  pub begins_methods : InOrder MethodDecl BeginsMethod 0 tree.methods.items (not_begun text tokens tree) a
  pub begins_main : InOrder MethodDecl BeginsMain 0 tree.mains.items a b
  pub methods : InOrder MethodDecl LowersMethod 0 tree.methods.items b c
  pub main : InOrder MethodDecl LowersMethod (length tree.methods.items) tree.mains.items c d
  pub invariants : AsksAll InvariantDecl AsksInvariant tree.invariants.items d e code.invariants.items
  pub expectations : AsksAll ExpectDecl AsksExpectation tree.expectations.items e f code.expectations.items
  pub is_put : HasPut f code
