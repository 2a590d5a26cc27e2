-- What of a block is but a value. (Our own.)
use Rattle.std.specs.Prelude.{ℕ, ◌≡◌, ◌⊎◌, Bool, true, false, Option, Some, None, codes}
use Rattle.swift_syntax.specs.declared.tree.ExprForm.{ExprForm}
use Rattle.swift_syntax.specs.declared.tree.ExprForm.TheVariants as expr
use Rattle.swift_syntax.specs.declared.tree.Into.TheVariants as goes
use Rattle.swift_syntax.specs.declared.tree.Receiver.TheVariants as receiver
use Rattle.swift_syntax.specs.declared.tree.Stmt.{Stmt}
use Rattle.swift_syntax.specs.declared.tree.StmtForm.{StmtForm}
use Rattle.swift_syntax.specs.declared.tree.StmtForm.TheVariants as form
use Rattle.swift_expressions.specs.States.{State, bytes_at, expr_at, form_at, stmt_at}

-- what a statement says that is but a value, which goes back or is let go
abbrev pub value_of : StmtForm → Option ℕ
value_of (form.Value goes.Nothing place) = Some place
value_of (form.Value goes.Return place) = Some place
value_of _ = None

-- whether an expression is a `try?`
abbrev pub is_try_optional : ExprForm → Bool
is_try_optional (expr.TryOptional inner) = true
is_try_optional _ = false

-- whether an expression calls what nobody is named for
abbrev pub calls_nobody : ExprForm → Bool
calls_nobody (expr.Call receiver.Nobody first) = true
calls_nobody _ = false

-- A token is `print`, `precondition` or `assert`.
abbrev pub IsSayingWord : State → ℕ → Type 0
IsSayingWord s token = (bytes_at s token ≡ codes "print") ⊎ (bytes_at s token ≡ codes "precondition") ⊎ (bytes_at s token ≡ codes "assert")

-- A value is let go wherever it stands: of a `try?`, or where something is said.
abbrev pub IsLetGo : State → ℕ → Type 0
IsLetGo s place = (is_try_optional (form_at s place) ≡ true) ⊎ ((calls_nobody (form_at s place) ≡ true) × IsSayingWord s (expr_at s place).token)

-- The one value that a block says, if it is no more.
pub record SaysOne (s : State) (first place : ℕ) : Type 0 where
  pub stmt : Stmt
  pub there : stmt_at s first ≡ Some stmt
  pub alone : stmt.next ≡ 0
  pub is : value_of stmt.form ≡ Some place
  pub given : IsLetGo s place → ⊥

-- That value, or 0 where there is none.
pub data IsLone (s : State) (first : ℕ) : ℕ → Type 0 where
  one : {place : ℕ} → SaysOne s first place → IsLone s first place
  more : ((place : ℕ) → SaysOne s first place → ⊥) → IsLone s first 0
