-- Roots that no line of a script names: no task waits for such a root, and none cancels it (our own).
use Rattle.std.specs.Prelude.{◌≡◌, ◌≢◌, ℕ, ℤ, ◌<◌, Bool, true, false, not, ◌==◌, All, None, List, [], ◌∷◌}
use Rattle.std.specs.List.{AllByRecursion}
use Rattle.script_code.specs.Tree.{Term, Wanted, Operation, Code}
use Rattle.script_code.specs.Tree as code
use Rattle.script_code.specs.Instructions.{FollowsCode}
use Rattle.script_code.specs.declared.instruction.Cancelled.{Cancelled}
use Rattle.script_code.specs.declared.instruction.Cancelled.TheVariants as subject
use Rattle.script_code.specs.declared.instruction.Instruction.{Instruction}
use Rattle.swift_types.specs.declared.env.Env.{Env}
use Rattle.swift_types.specs.declared.id.TaskId.{TaskId}
use Rattle.swift_types.specs.declared.outcome.Resume.{Resume}
use Rattle.swift_script.specs.Scripts.{ScriptView, method_code, root_count}
use Rattle.swift_interpreter.specs.Frames.{FrameView}
use Rattle.swift_interpreter.specs.declared.effect.TaskName.{TaskName}
use Rattle.swift_interpreter.specs.declared.effect.TaskName.TheVariants.{Root as RootName}
use Rattle.swift_interpreter.specs.Turn.{EffectView, cancelling_task, ExitView, waiting, returning, failing, Played}
use Rattle.swift_turn.specs.Body.{kept_turn}
use Rattle.swift_digest.specs.Digests.{Digest, parent_in}
use Rattle.swift_reordering.specs.Statements.{code_all, instruction_is}

-- what is waited for is not the root of this number
abbrev pub wanted_spares : ℕ → Wanted → Bool
wanted_spares t (code.root r) = not (r == t)
wanted_spares t _ = true

-- nor is what is cancelled
abbrev pub cancelled_spares : ℕ → Cancelled → Bool
cancelled_spares t (subject.Root r) = not (r.0 == t)
cancelled_spares t _ = true

-- A statement that neither waits for this root nor cancels it by its name.
abbrev pub operation_spares : ℕ → Operation → Bool
operation_spares t (code.wait w) = wanted_spares t w
operation_spares t (code.cancel c) = cancelled_spares t c
operation_spares t _ = true

-- no test does
abbrev pub term_spares : Term → Bool
term_spares x = true

-- Each statement is so.
abbrev pub code_spares : ℕ → Code → Bool
code_spares t c = code_all (operation_spares t) term_spares c

-- an instruction is so, wherever it goes on
abbrev pub instruction_spares : ℕ → Instruction → Bool
instruction_spares t line = instruction_is (operation_spares t) term_spares line

-- Each statement of a method is so where each of its instructions is: to see that, each is read once.
abbrev pub InstructionsSpare : Type 0
InstructionsSpare = (t : ℕ) (instructions : List Instruction) (body : Code) (at : ℕ → Code) → FollowsCode instructions body at → All (λ line. instruction_spares t line ≡ true) instructions → code_spares t body ≡ true

-- The task is a root that no statement of a script names.
pub record IsUnnamed (script : ScriptView) (t : ℕ) : Type 0 where
  pub root : t < root_count script
  pub spared : (m : ℕ) → code_spares t (method_code script m) ≡ true

-- another name than that of this root
abbrev pub name_spares : ℕ → TaskName → Bool
name_spares t (RootName r) = not (r.0 == t)
name_spares t _ = true

-- an effect that does not cancel it by its name
abbrev pub effect_spares : ℕ → EffectView → Bool
effect_spares t (cancelling_task name) = name_spares t name
effect_spares t _ = true

abbrev pub EffectSpares : ℕ → EffectView → Type 0
EffectSpares t e = effect_spares t e ≡ true

-- an exit that does not wait for it by its name
abbrev pub exit_spares : ℕ → ExitView → Bool
exit_spares t (waiting name) = name_spares t name
exit_spares t _ = true

-- what a turn does spares it
pub record PlaySpares (t : ℕ) (k : Played) : Type 0 where
  pub effects : AllByRecursion (EffectSpares t) k.state.effects
  pub exit : exit_spares t k.exit ≡ true

-- So is each turn of a method whose statements are so.
abbrev pub TurnsSpare : Type 0
TurnsSpare = (t : ℕ) (script : ScriptView) (p : FrameView) (outer : List (ℕ × ℤ)) (fields : List (List ℤ)) (resume : Resume) (env : Env)
    → code_spares t (method_code script p.method) ≡ true → PlaySpares t (kept_turn script p outer fields resume env)

-- no frame is left
abbrev pub is_last : List FrameView → Bool
is_last [] = true
is_last (q ∷ callers) = false

-- the task ends with such an exit, which leaves the last of its frames
abbrev pub ends_task : List FrameView → ExitView → Bool
ends_task callers (returning v) = is_last callers
ends_task callers (failing f) = is_last callers
ends_task callers exit = false

-- another task than this one
abbrev pub IsOther : ℕ → TaskId → Type 0
IsOther t u = u.0 ≢ t

-- Nobody has to do with the end of a task: none has waited for it, it is no child, and no task has made it.
pub record IsApart (t : ℕ) (d : Digest) : Type 0 where
  pub waiters : (d.cards t).waiters ≡ []
  pub parent : parent_in d t ≡ None
  pub children : (o g : ℕ) → AllByRecursion (IsOther t) (d.groups o g).children
  pub own : (u : ℕ) → AllByRecursion (IsOther t) (d.cards u).own
