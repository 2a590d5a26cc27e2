-- Turns that touch nothing but their own task (our own).
use Rattle.std.specs.Prelude.{Bool, true, false, ◌&&◌, ◌||◌, is_some, Option, Some, None, List, [], ◌∷◌}
use Rattle.script_code.specs.Tree.{Term, Wanted, Operation, Code}
use Rattle.script_code.specs.Tree as code
use Rattle.script_code.specs.Layout.{code_at}
use Rattle.script_code.specs.declared.instruction.NumberPlace.{NumberPlace}
use Rattle.script_code.specs.declared.instruction.NumberPlace.TheVariants.{Field}
use Rattle.swift_script.specs.Scripts.{ScriptView, method_code}
use Rattle.swift_interpreter.specs.Frames.{FrameView}
use Rattle.swift_interpreter.specs.Turn.{ExitView, calling, yielding, returning, failing}
use Rattle.swift_turn.specs.Body.{callers_of}
use Rattle.swift_history.specs.TurnEnds.{JobFacts}
use Rattle.swift_reordering.specs.Statements.{turn_all}

-- the expression reads no field, and looks away
abbrev pub term_is_own : Term → Bool
term_is_own (code.field p) = false
term_is_own code.priority = false
term_is_own code.cancelled = false
term_is_own (code.opposite t) = term_is_own t
term_is_own (code.denial t) = term_is_own t
term_is_own (code.binary op a b) = term_is_own a && term_is_own b
term_is_own _ = true

-- so does each of these
abbrev pub terms_are_own : List Term → Bool
terms_are_own [] = true
terms_are_own (t ∷ ts) = term_is_own t && terms_are_own ts

-- so does this one, where there is one
abbrev pub term_if_is_own : Option Term → Bool
term_if_is_own None = true
term_if_is_own (Some t) = term_is_own t

-- what is waited for reads none
abbrev pub wanted_is_own : Wanted → Bool
wanted_is_own (code.call c) = terms_are_own c.args
wanted_is_own _ = true

-- a number goes to no field
abbrev pub place_is_own : Option NumberPlace → Bool
place_is_own (Some (Field p)) = false
place_is_own _ = true

-- A statement that neither reads nor sets a field, looks away, and has no effect on other tasks.
abbrev pub operation_is_silent : Operation → Bool
operation_is_silent (code.set_variable x t) = term_is_own t
operation_is_silent (code.set_field p t) = false
operation_is_silent (code.return t) = term_is_own t
operation_is_silent (code.throw t) = term_is_own t
operation_is_silent code.check = false
operation_is_silent (code.wait w) = wanted_is_own w
operation_is_silent (code.receive place other) = place_is_own place && term_if_is_own other
operation_is_silent (code.spawn c p h) = false
operation_is_silent (code.detach c p h) = false
operation_is_silent (code.add h unless c p) = false
operation_is_silent (code.cancel c) = false
operation_is_silent (code.open_group h) = false
operation_is_silent (code.bind l t) = term_is_own t
operation_is_silent _ = true

-- From here to each end of the turn that comes next each statement is so, and each test reads no field and looks away, where `after` says it
-- of what follows.
abbrev pub code_is_silent : Code → Bool → Bool
code_is_silent c after = turn_all operation_is_silent term_is_own c after

-- The task goes on at once after such an exit: it has called, given way, or left a frame for its caller.
abbrev pub goes_on_alone : List FrameView → ExitView → Bool
goes_on_alone callers (calling c) = true
goes_on_alone callers yielding = true
goes_on_alone (q ∷ callers) (returning v) = true
goes_on_alone (q ∷ callers) (failing f) = true
goes_on_alone callers exit = false

-- where the task has this job
abbrev pub job_goes_on : Option JobFacts → ExitView → Bool
job_goes_on None exit = false
job_goes_on (Some j) exit = goes_on_alone (callers_of j.frames.frames) exit

-- The turn of a frame is silent: a fault is pending, so that it runs no statement, or what comes next of its method is silent.
abbrev pub frame_is_silent : ScriptView → FrameView → Bool
frame_is_silent script p = is_some p.pending || code_is_silent (code_at (method_code script p.method) p.instruction) true
