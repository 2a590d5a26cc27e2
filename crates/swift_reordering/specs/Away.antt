-- Turns that do not look at what they are given of their task: not at its priority, and at whether it is cancelled only where it is so
-- already, since a task that is cancelled stays so (our own).
use Rattle.std.specs.Prelude.{ℕ, Bool, true, false, ◌&&◌, ◌||◌, is_some, Option, Some, None, List, [], ◌∷◌}
use Rattle.script_code.specs.Tree.{Term, CallTarget, Wanted, Operation, Code}
use Rattle.script_code.specs.Tree as code
use Rattle.script_code.specs.Layout.{code_at}
use Rattle.swift_script.specs.Scripts.{ScriptView, method_code}
use Rattle.swift_interpreter.specs.Frames.{FrameView}
use Rattle.swift_events.specs.Relations.{is_cancelled}
use Rattle.swift_history.specs.TurnEnds.{JobFacts}
use Rattle.swift_history.specs.Histories.{Standing}
use Rattle.swift_reordering.specs.Statements.{turn_all}

-- `priority` does not stand in the expression, and `cancelled` only where the task is cancelled already
abbrev pub term_looks_away : Bool → Term → Bool
term_looks_away cancelled code.priority = false
term_looks_away cancelled code.cancelled = cancelled
term_looks_away cancelled (code.opposite t) = term_looks_away cancelled t
term_looks_away cancelled (code.denial t) = term_looks_away cancelled t
term_looks_away cancelled (code.binary op a b) = term_looks_away cancelled a && term_looks_away cancelled b
term_looks_away cancelled _ = true

-- nor in any of these
abbrev pub terms_look_away : Bool → List Term → Bool
terms_look_away cancelled [] = true
terms_look_away cancelled (t ∷ ts) = term_looks_away cancelled t && terms_look_away cancelled ts

-- nor in this one, where there is one
abbrev pub term_if_looks_away : Bool → Option Term → Bool
term_if_looks_away cancelled None = true
term_if_looks_away cancelled (Some t) = term_looks_away cancelled t

-- nor in the arguments of what is waited for
abbrev pub wanted_looks_away : Bool → Wanted → Bool
wanted_looks_away cancelled (code.call c) = terms_look_away cancelled c.args
wanted_looks_away cancelled _ = true

-- A statement whose expressions look away, which is no `check` unless the task is cancelled already, and no `spawn` whose task gets the priority of its maker.
abbrev pub operation_looks_away : Bool → Operation → Bool
operation_looks_away cancelled (code.set_variable x t) = term_looks_away cancelled t
operation_looks_away cancelled (code.set_field p t) = term_looks_away cancelled t
operation_looks_away cancelled (code.return t) = term_looks_away cancelled t
operation_looks_away cancelled (code.throw t) = term_looks_away cancelled t
operation_looks_away cancelled code.check = cancelled
operation_looks_away cancelled (code.wait w) = wanted_looks_away cancelled w
operation_looks_away cancelled (code.receive place other) = term_if_looks_away cancelled other
operation_looks_away cancelled (code.spawn c p h) = is_some p && terms_look_away cancelled c.args
operation_looks_away cancelled (code.detach c p h) = terms_look_away cancelled c.args
operation_looks_away cancelled (code.add h unless c p) = terms_look_away cancelled c.args
operation_looks_away cancelled (code.bind l t) = term_looks_away cancelled t
operation_looks_away cancelled _ = true

-- From here to each end of the turn that comes next each statement looks away, and each test.
abbrev pub code_looks_away : Bool → Code → Bool
code_looks_away cancelled c = turn_all (operation_looks_away cancelled) (term_looks_away cancelled) c true

-- The next turn of a frame looks away: a fault is pending, so that it runs no statement, or what comes next of its method does.
abbrev pub frame_looks_away : ScriptView → Bool → FrameView → Bool
frame_looks_away script cancelled p = is_some p.pending || code_looks_away cancelled (code_at (method_code script p.method) p.instruction)

-- of a task with these frames, of which the first one runs
abbrev pub frames_look_away : ScriptView → Bool → List FrameView → Bool
frames_look_away script cancelled [] = false
frames_look_away script cancelled (p ∷ callers) = frame_looks_away script cancelled p

-- the turn of a task that has this job, if it has one
abbrev pub job_looks_away : ScriptView → Bool → Option JobFacts → Bool
job_looks_away script cancelled None = false
job_looks_away script cancelled (Some j) = frames_look_away script cancelled j.frames.frames

-- The next turn of task `t` looks away; it may look at whether the task is cancelled where it is so already.
abbrev pub turn_looks_away : ScriptView → Standing → ℕ → Bool
turn_looks_away script s t = job_looks_away script (is_cancelled t s.log) (s.jobs t)
