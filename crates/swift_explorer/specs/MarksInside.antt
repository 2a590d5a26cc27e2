-- What marks of instructions say. No public clause names these.
use Rattle.std.specs.Prelude.{◌≡◌, ◌||◌, ℕ, Bool, true, false, is_some, Some, List, [], ◌∷◌, slice_get}
use Rattle.std.specs.declared.alloc.Global.{Global}
use Rattle.std.specs.declared.vec.Vec.{Vec}
use Rattle.std.specs.Arc.{arc_value}
use Rattle.script_code.specs.Tree.{Term, Operation}
use Rattle.script_code.specs.Layout.{code_at}
use Rattle.swift_types.specs.declared.id.TaskId.{TaskId}
use Rattle.swift_script.specs.Scripts.{ScriptView, method_code}
use Rattle.swift_interpreter.specs.Frames.{FrameView}
use Rattle.swift_reordering.specs.Away.{operation_looks_away, term_looks_away}
use Rattle.swift_reordering.specs.Marks.{is_marked}
use Rattle.swift_reordering.specs.Silent.{operation_is_silent, term_is_own}
use Rattle.swift_reordering.specs.Statements.{turn_all}
use Rattle.swift_steps.specs.declared.next_turn.NextTurn.{NextTurn}
use Rattle.swift_steps.specs.NextTurns.{given_at}
use Rattle.swift_explorer.specs.declared.history.SearchedHistory.{SearchedHistory}
use Rattle.swift_explorer.specs.declared.marks.AwayMarks.{AwayMarks}
use Rattle.swift_explorer.specs.declared.marks.MarkKind.{MarkKind}
use Rattle.swift_explorer.specs.declared.marks.MarkKind.TheVariants.{Silent, Away, AwayCancelled}

-- what they say of a statement
abbrev pub operation_is : MarkKind → Operation → Bool
operation_is Silent = operation_is_silent
operation_is Away = operation_looks_away false
operation_is AwayCancelled = operation_looks_away true

-- what they say of a test
abbrev pub term_is : MarkKind → Term → Bool
term_is Silent = term_is_own
term_is Away = term_looks_away false
term_is AwayCancelled = term_looks_away true

-- the marks of methods say so of each statement up to each end of the turn
abbrev pub HaveMarks : MarkKind → ScriptView → List (Vec Bool Global) → Type 0
HaveMarks kind script marks = (m k : ℕ) (own : Vec Bool Global) → slice_get marks m ≡ Some own → is_marked own.items k ≡ true → turn_all (operation_is kind) (term_is kind) (code_at (method_code script m) k) true ≡ true

-- the next turn of a frame is so: a fault is pending, so that it runs no statement, or what comes next of its method is
abbrev pub frame_is : MarkKind → ScriptView → FrameView → Bool
frame_is kind script p = is_some p.pending || turn_all (operation_is kind) (term_is kind) (code_at (method_code script p.method) p.instruction) true

-- of a task with these frames, of which the first one runs
abbrev pub frames_are : MarkKind → ScriptView → List FrameView → Bool
frames_are kind script [] = false
frames_are kind script (p ∷ callers) = frame_is kind script p

-- the marks of methods say that turns are silent
abbrev pub HaveSilentMarks : ScriptView → List (Vec Bool Global) → Type 0
HaveSilentMarks script marks = HaveMarks Silent script marks

-- The marks of methods say that turns look away, those of any task and those of one that is cancelled.
abbrev pub AreTold : ScriptView → AwayMarks → Type 0
AreTold script away = HaveMarks Away script away.any.items × HaveMarks AwayCancelled script away.cancelled.items

-- the next turn of a task is so
abbrev pub NextIs : MarkKind → SearchedHistory → TaskId → Type 0
NextIs kind x t = (g : NextTurn) × (given_at x.steps.tasks.items t.0 ≡ Some g) × (frames_are kind (arc_value x.steps.script) g.body.task.frames ≡ true)
