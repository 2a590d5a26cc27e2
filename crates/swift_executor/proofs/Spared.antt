-- Before each turn of an executor all invariants of its actors hold.
use Rattle.swift_executor.proofs.Prelude.{◌≡◌, ℕ, ℤ, Some, List, [], ◌∷◌, sym, subst, IsTrue, holds, ScriptView, actor_executor, executor_invariants, method_actor, FrameView, BodyView, HasFirst, IfRunning, invariants_at, InvariantsStay, JobView, MaySpare, BelongsTo, ExecStateView, ExecInvariant}
use Rattle.swift_undo.specs.Laws.{AllHold}
use Rattle.swift_undo.specs.Rows.{HaveRows}
use Rattle.swift_executor.proofs.StartInvariants.{StartWell, start_each}

-- the invariants of an executor's actors hold of its fields
pub all_hold : (s : ExecStateView) → StartWell s.script → InvariantsStay → ExecInvariant s → AllHold (executor_invariants s.script s.executor) s.fields
all_hold s starts stays is t has =
    subst (λ (fs : List (List ℤ)). IsTrue (holds (Some t) fs)) (sym is.replayed) (stays s.script s.executor s.checkpoint.fields s.journal t is.runs has (is.kept t has (start_each s.script s.executor t starts has)))

-- what holds of the invariants of an executor's actors holds of those of a frame that runs there
at_first : (script : ScriptView) (executor : ℕ) (Q : List _ → Type 0) (frames : List FrameView) → HasFirst frames (λ f. actor_executor script (method_actor script f.method) ≡ executor) → Q (executor_invariants script executor)
    → IfRunning frames (λ p. Q (invariants_at script p))
at_first script executor Q [] top holds = absurd top
at_first script executor Q (f ∷ frames) top holds = subst (λ (e : ℕ). Q (executor_invariants script e)) (sym top) holds

-- so those of a job's frame need not be tested whose rows the turn does not set
pub may_spare : (script : ScriptView) (executor : ℕ) (rows : List ℕ) (fields : List (List ℤ)) (j : JobView BodyView) → BelongsTo script executor j → HaveRows rows (executor_invariants script executor) → AllHold (executor_invariants script executor) fields
    → MaySpare rows fields j.body
may_spare script executor rows fields j is have all =
    subst (λ (p : ScriptView). IfRunning j.body.task.frames (λ f. HaveRows rows (invariants_at p f)) × IfRunning j.body.task.frames (λ f. AllHold (invariants_at p f) fields)) (sym is.script_is)
    (at_first script executor (λ ts. HaveRows rows ts) j.body.task.frames is.top have, at_first script executor (λ ts. AllHold ts fields) j.body.task.frames is.top all)
