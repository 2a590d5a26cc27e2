-- Which statements may return out of their unit, so that what follows them is done only where they did not. (Our own.)
use Rattle.std.specs.Prelude.{ℕ, zero, suc, ◌==◌, Bool, true, false, not, ◌&&◌, ◌||◌, Option, Some, None, length}
use Rattle.swift_syntax.specs.declared.tree.Into.TheVariants as goes
use Rattle.swift_syntax.specs.declared.tree.Stmt.{Stmt}
use Rattle.swift_syntax.specs.declared.tree.StmtForm.{StmtForm}
use Rattle.swift_syntax.specs.declared.tree.StmtForm.TheVariants as form
use Rattle.swift_expressions.specs.States.{State, stmt_at}
use Rattle.swift_expressions.specs.declared.effect.TheConstants.{DEPTH}
use Rattle.swift_expressions.specs.declared.lowering.Returns.{Returns}
use Rattle.swift_expressions.specs.declared.lowering.Returns.TheVariants as returning

-- whether a statement is such, or one that follows
abbrev pub or_next : (Stmt → Bool) → (ℕ → Bool) → Option Stmt → Bool
or_next test more None = false
or_next test more (Some stmt) = test stmt || more stmt.next

-- whether one of the statements of a block is such, from a place on; at most so many are looked at
unfoldable pub any_within : State → (Stmt → Bool) → ℕ → ℕ → Bool
any_within s test zero place = false
any_within s test (suc n) place = or_next test (any_within s test n) (stmt_at s place)

-- the same of all that there are
abbrev pub any_of : State → (Stmt → Bool) → ℕ → Bool
any_of s test first = any_within s test (length s.tree.stmts.items) first

-- whether a statement may return, by what it is; of its blocks by themselves
abbrev pub returns_by : (ℕ → Bool) → StmtForm → Bool
returns_by deeper form.Return = true
returns_by deeper (form.Value goes.Return place) = true
returns_by deeper (form.Value goes.Nothing place) = false
returns_by deeper (form.Value (goes.Let name wanted) place) = false
returns_by deeper (form.Value (goes.Var name wanted) place) = false
returns_by deeper (form.Value (goes.Assign name) place) = false
returns_by deeper (form.Group goes.Return found is_throwing body) = true
returns_by deeper (form.Group goes.Nothing found is_throwing body) = false
returns_by deeper (form.Group (goes.Let name wanted) found is_throwing body) = false
returns_by deeper (form.Group (goes.Var name wanted) found is_throwing body) = false
returns_by deeper (form.Group (goes.Assign name) found is_throwing body) = false
returns_by deeper (form.Bind goes.Return of given body) = true
returns_by deeper (form.Bind goes.Nothing of given body) = false
returns_by deeper (form.Bind (goes.Let name wanted) of given body) = false
returns_by deeper (form.Bind (goes.Var name wanted) of given body) = false
returns_by deeper (form.Bind (goes.Assign name) of given body) = false
returns_by deeper (form.If test held failed) = deeper held || deeper failed
returns_by deeper (form.DoCatch body caught) = deeper body || deeper caught
returns_by deeper (form.Guard test body) = deeper body
returns_by deeper (form.While test body) = deeper body
returns_by deeper (form.For from to is_closed body) = deeper body
returns_by deeper (form.ForAwait group is_tried body) = deeper body
returns_by deeper (form.WhileNext group is_tried body) = deeper body
returns_by deeper (form.Assign how is_own place) = false
returns_by deeper (form.Toggle is_own) = false
returns_by deeper (form.Throw place) = false
returns_by deeper (form.AsyncLet wanted place) = false
returns_by deeper (form.Task name what) = false
returns_by deeper (form.AddTask is_only what) = false

-- whether a statement of a block may return; one that nests deeper than this is taken to
unfoldable pub block_returns : State → ℕ → ℕ → Bool
block_returns s zero first = true
block_returns s (suc depth) first = any_of s (λ stmt. returns_by (block_returns s depth) stmt.form) first

-- whether a statement of a block may return
abbrev pub may_return : State → ℕ → Bool
may_return s first = block_returns s DEPTH first

-- whether a statement may return
abbrev pub stmt_may_return : State → Stmt → Bool
stmt_may_return s stmt = returns_by (block_returns s DEPTH) stmt.form

-- whether a `return` leaves the unit: one of a closure that stands in it does not
abbrev pub leaves_unit : Returns → Bool
leaves_unit returning.Unit = true
leaves_unit (returning.Closure variable blocks) = false

-- whether a statement may return out of the unit
abbrev pub returns_early : State → Stmt → Bool
returns_early s stmt = leaves_unit s.returns && stmt_may_return s stmt

-- whether something follows a statement that may return out of the unit
abbrev pub has_rest : State → Stmt → Bool
has_rest s stmt = not (stmt.next == 0) && returns_early s stmt

-- whether one of the statements from a place on that is not the last one may return out of the unit
abbrev pub leaves_early : State → ℕ → Bool
leaves_early s first = any_of s (has_rest s) first
