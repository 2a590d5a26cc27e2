-- While silent turns run ahead. No public clause names these.
use Rattle.std.specs.Prelude.{◌≡◌, ◌||◌, ℕ, ℤ, true, false, Some, List, [], ◌∷◌, ◌++◌, slice_get}
use Rattle.std.specs.Arc.{arc_value}
use Rattle.swift_types.specs.declared.env.Env.{Env}
use Rattle.swift_types.specs.declared.id.TaskId.{TaskId}
use Rattle.swift_types.specs.declared.outcome.Resume.{Resume}
use Rattle.swift_types.specs.declared.priority.Priority.TheVariants.{Background}
use Rattle.swift_script.specs.Scripts.{ScriptView, executor_invariants}
use Rattle.swift_interpreter.specs.Frames.{FrameView}
use Rattle.swift_interpreter.specs.Turn.{ExitView, all_hold}
use Rattle.swift_turn.specs.Body.{kept_turn}
use Rattle.swift_history.specs.Histories.{Block, checkpoint_at}
use Rattle.swift_course.specs.Course.{starts}
use Rattle.swift_reordering.specs.RunAhead.{OneTurn, after_turn, after_turns, RunsSilently, AllRunSilently}
use Rattle.swift_reordering.specs.Silent.{goes_on_alone}
use Rattle.swift_reordering.specs.Unnamed.{IsUnnamed, ends_task}
use Rattle.swift_explorer.specs.declared.ahead.TurnAhead.{TurnAhead}
use Rattle.swift_explorer.specs.declared.ahead.TurnAhead.TheVariants.{Lost}
use Rattle.swift_explorer.specs.declared.moves.Move.{Move}
use Rattle.swift_explorer.specs.declared.moves.Move.TheVariants as step
use Rattle.swift_steps.specs.declared.next_turn.NextTurn.{NextTurn}
use Rattle.swift_explorer.specs.declared.history.SearchedHistory.{SearchedHistory}
use Rattle.swift_explorer.specs.FusedInside.{LooksAway}
use Rattle.swift_explorer.specs.MarksInside.{NextIs}
use Rattle.swift_explorer.specs.declared.marks.MarkKind.TheVariants.{Silent}
use Rattle.swift_steps.specs.NextTurns.{given_at}
use Rattle.swift_explorer.specs.HistoryInside.{IsHistory, rows_at}
use Rattle.swift_explorer.specs.Steps.{BreaksInvariant}

-- each invariant holds of the fields that executors start with
abbrev pub StartsHold : ScriptView → Type 0
StartsHold script = (e : ℕ) → all_hold (executor_invariants script e) (checkpoint_at (starts script) e).fields ≡ true

-- the next turn of a task is silent, and looks away
pub record IsQuietAt (x : SearchedHistory) (t : TaskId) : Type 0 where
  pub away : LooksAway x t
  pub silent : NextIs Silent x t

-- in which environment a turn is tried that looks at none
abbrev pub any_env : Env
any_env = record { priority = Background; cancelled = false; room = 0 }

-- Task `t` of a script, whose frame has these callers, goes on at once after a turn that ends so, or it has ended, and is a root that no
-- line names; and no invariant is broken by it.
abbrev pub GoesOnAtOnce : ScriptView → ℕ → List FrameView → ExitView → Type 0
GoesOnAtOnce script t callers exit = ((goes_on_alone callers exit || ends_task callers exit) ≡ true) × (ends_task callers exit ≡ true → IsUnnamed script t) × (BreaksInvariant exit → ⊥)

-- the next turn of a task with these frames, of body `own`, ends so on these fields
abbrev pub TurnGoesOn : ScriptView → ℕ → ScriptView → List FrameView → List (ℕ × ℤ) → List (List ℤ) → Resume → Type 0
TurnGoesOn script t own [] outer rows resume = Unit {0}
TurnGoesOn script t own (p ∷ callers) outer rows resume = GoesOnAtOnce script t callers (kept_turn own p outer rows resume any_env).exit

-- the next turn of a task ends so on the fields of executor `e`
abbrev pub GoesAlone : SearchedHistory → TaskId → ℕ → Type 0
GoesAlone x t e = (rows : List (List ℤ)) × (slice_get (rows_at x) e ≡ Some rows)
    × ((g : NextTurn) → given_at x.steps.tasks.items t.0 ≡ Some g → TurnGoesOn (arc_value x.steps.script) t.0 g.body.script g.body.task.frames g.body.task.outer rows g.resume)

-- what was followed before was followed now
pub record IsAsBefore (x y : SearchedHistory) : Type 0 where
  pub script_is : y.steps.script ≡ x.steps.script
  pub roots : y.steps.roots ≡ x.steps.roots
  pub is : (blocks : List Block) → IsHistory (arc_value x.steps.script) blocks x → IsHistory (arc_value x.steps.script) blocks y

-- a silent turn of a task was followed, after which it goes on at once
pub record RanTurn (script : ScriptView) (blocks : List Block) (x y : SearchedHistory) (t : TaskId) : Type 0 where
  pub turn : OneTurn
  pub runs : RunsSilently script (starts script) blocks turn
  pub is : IsHistory script (after_turn blocks turn) y
  pub task_is : turn.task ≡ t.0
  pub own : turn.turn.task ≡ t.0
  pub whole : BreaksInvariant turn.turn.exit → ⊥
  pub roots : y.steps.roots ≡ x.steps.roots

pub record RunsTurn (x y : SearchedHistory) (t : TaskId) : Type 0 where
  pub script_is : y.steps.script ≡ x.steps.script
  pub ran : (blocks : List Block) → IsHistory (arc_value x.steps.script) blocks x → RanTurn (arc_value x.steps.script) blocks x y t

-- none of these turns breaks an invariant
abbrev pub AllWhole : List OneTurn → Type 0
AllWhole [] = Unit {0}
AllWhole (x ∷ xs) = (BreaksInvariant x.turn.exit → ⊥) × AllWhole xs

-- the steps of these turns
abbrev pub AreTurns : List Move → List OneTurn → Type 0
AreTurns [] [] = Unit {0}
AreTurns (step.Begin t ∷ step.Run u ∷ ms) (x ∷ xs) = (x.task ≡ t.0) × (x.turn.task ≡ u.0) × AreTurns ms xs
AreTurns _ _ = ⊥

-- silent turns were followed after these blocks, by these steps
pub record RanAhead (script : ScriptView) (blocks : List Block) (x y : SearchedHistory) (moves : List Move) : Type 0 where
  pub turns : List OneTurn
  pub run : AllRunSilently script (starts script) blocks turns
  pub is : IsHistory script (after_turns blocks turns) y
  pub steps : AreTurns moves turns
  pub whole : AllWhole turns
  pub roots : y.steps.roots ≡ x.steps.roots

-- they were put to other steps
pub record RunsAhead (x y : SearchedHistory) (before after : List Move) : Type 0 where
  pub moves : List Move
  pub after_is : after ≡ before ++ moves
  pub script_is : y.steps.script ≡ x.steps.script
  pub ran : (blocks : List Block) → IsHistory (arc_value x.steps.script) blocks x → RanAhead (arc_value x.steps.script) blocks x y moves

-- a turn has run, or was none that may
abbrev pub IsNotLost : TurnAhead → Type 0
IsNotLost Lost = ⊥
IsNotLost _ = Unit {0}
