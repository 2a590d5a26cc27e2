-- What callers see of a body, and what its calls do to it (SE-0304 for tasks, SE-0306 for calls, SE-0311 for bindings).
use Rattle.std.specs.Prelude.{◌≡◌, ℕ, ◌-◌, ◌<◌, nat_lt, if◌then◌else◌, ◌++◌, drop, replicate, ℤ, pos, Option, Some, None, IsSome, List, [], ◌∷◌, length}
use Rattle.std.specs.Arc.{arc_value}
use Rattle.futures.specs.declared.task.context.Context.{Context}
use Rattle.futures.specs.declared.task.waker.Waker.{Waker}
use Rattle.futures.specs.declared.task.Poll.{Poll}
use Rattle.futures.specs.declared.task.Poll.TheVariants.{Ready, Pending}
use Rattle.swift_types.specs.declared.limits.TheConstants.{FRAMES, STEPS}
use Rattle.swift_types.specs.declared.outcome.Fault.TheVariants.{Depth}
use Rattle.swift_types.specs.declared.outcome.Ending.{Ending}
use Rattle.swift_types.specs.declared.outcome.Ending.TheVariants.{Value, Fault}
use Rattle.swift_types.specs.declared.outcome.Resume.{Resume}
use Rattle.swift_types.specs.declared.outcome.Resume.TheVariants.{Start, Go, Value as GivenValue, Fault as Raise}
use Rattle.swift_types.specs.declared.env.Env.{Env}
use Rattle.script_code.specs.Layout.{code_at}
use Rattle.script_code.specs.Tree.{Term}
use Rattle.swift_script.specs.Scripts.{ScriptView, method_actor, method_code, method_count, method_numbers, method_handles, actor_executor, executor_invariants}
use Rattle.swift_interpreter.specs.Frames.{FrameView, state_in}
use Rattle.swift_interpreter.specs.Turn.{InvocationView, EffectView, ExitView, calling, waiting, asking_next, closing, yielding, returning, failing, TurnStateView, Played, kept}
use Rattle.swift_turn.specs.declared.step.Step.{Step}
use Rattle.swift_turn.specs.declared.step.Step.TheVariants.{Run, Ended, Await}

-- where a body is with its turn
pub data PhaseView : Type 0 where
  idle : PhaseView
  -- a turn on these fields, a list for each actor of the executor, is to be polled
  entered : List (List ℤ) → Resume → Env → PhaseView
  -- the fields, the effects and the exit that the turn has given
  left : List (List ℤ) → List EffectView → ExitView → PhaseView
  -- the fields from before a turn that ran out of memory
  out_of_memory : List (List ℤ) → PhaseView

-- a task that is polled, as wakers name it: its number in its queue, and the numbers of that queue
pub record PolledTask : Type 0 where
  pub task : ℕ
  pub executor : ℕ
  pub queue : ℕ

-- the task that a context polls
abbrev pub polled_in : Context → PolledTask
polled_in cx = record { task = cx.turn.task; executor = (arc_value cx.route.now).origin.executor; queue = (arc_value cx.route.now).origin.queue }

-- the task that the waker in a slot wakes, if there is one
abbrev pub woken_by : Option Waker → Option PolledTask
woken_by None = None
woken_by (Some w) = Some (record { task = w.owed.first.task; executor = (arc_value w.route).origin.executor; queue = (arc_value w.route).origin.queue })

-- A task has frames, the one that runs first and then its callers, the nearest first; none where it has ended. `outer` has
-- the bindings that stood when the frame that runs began: those of its callers, and those that the task was made with.
pub record TaskView : Type 0 where
  pub frames : List FrameView
  pub outer : List (ℕ × ℤ)

-- a body, as callers see it: its script, its task, where it is with its turn, and what it waits at
pub record BodyView : Type 0 where
  pub script : ScriptView
  pub task : TaskView
  pub phase : PhaseView
  -- the name of what it waits at
  pub source : ℕ
  -- the task whose waker lies in the slot of its source: there is none where the last turn that was played does not wait
  pub waker : Option PolledTask

-- the continuation that a frame of a script stands for
abbrev pub state_at : ScriptView → FrameView → List (List ℤ) → List EffectView → ℕ → TurnStateView
state_at script p = state_in (code_at (method_code script p.method)) p

-- the invariants of the actors that run on the executor of a frame's actor
abbrev pub invariants_at : ScriptView → FrameView → List Term
invariants_at script p = executor_invariants script (actor_executor script (method_actor script p.method))

-- the kept turn of a frame, by the bindings that stood when it began, the fields of its executor's actors, its resume and
-- its environment
abbrev pub kept_turn : ScriptView → FrameView → List (ℕ × ℤ) → List (List ℤ) → Resume → Env → Played
kept_turn script p outer fields resume env =
    kept (record { outer = outer; env = env }) STEPS (invariants_at script p) (state_at script p fields [] env.room) resume

-- After the poll of a turn the frame that runs and the phase are those of its kept turn; out of memory, the frame is as
-- before and the fields are handed back.
abbrev pub IsTurnOf : ScriptView → FrameView → List (ℕ × ℤ) → List (List ℤ) → Resume → Env → FrameView → PhaseView → Type 0
IsTurnOf script p outer fields resume env p' (left fields' effects exit) =
    let k = kept_turn script p outer fields resume env in
    (p'.method ≡ p.method) × (record { state = state_at script p' fields' effects k.state.room; exit = exit } ≡ k)
IsTurnOf script p outer fields resume env p' (out_of_memory fields') = (fields' ≡ fields) × (p' ≡ p)
IsTurnOf script p outer fields resume env p' _ = ⊥

-- the frame that runs has had its turn, and its callers are as before
abbrev pub TurnsTo : ScriptView → FrameView → List FrameView → List (ℕ × ℤ) → List (List ℤ) → Resume → Env → List FrameView → PhaseView → Type 0
TurnsTo script p callers outer fields resume env (p' ∷ callers') new = (callers' ≡ callers) × IsTurnOf script p outer fields resume env p' new
TurnsTo script p callers outer fields resume env [] new = ⊥

-- a poll runs one turn where one was entered in a task that has not ended, and else changes nothing
abbrev pub Polls : ScriptView → List (ℕ × ℤ) → List FrameView → PhaseView → List FrameView → PhaseView → Type 0
Polls script outer (p ∷ callers) (entered fields resume env) after new = TurnsTo script p callers outer fields resume env after new
Polls script outer before old after new = (after ≡ before) × (new ≡ old)

-- the ending of a task whose first frame is left so
abbrev pub ending_of : ExitView → Option Ending
ending_of (returning v) = Some (Value v)
ending_of (failing f) = Some (Fault f)
ending_of _ = None

-- an exit leaves the first frame only where no other is below it
abbrev pub ending_if : List FrameView → ExitView → Option Ending
ending_if [] e = ending_of e
ending_if (p ∷ ps) e = None

-- the ending that the entered turn gives, if it leaves the first frame
abbrev pub ends_by : ScriptView → List (ℕ × ℤ) → List FrameView → PhaseView → Option Ending
ends_by script outer (p ∷ callers) (entered fields resume env) = ending_if callers (kept_turn script p outer fields resume env).exit
ends_by script outer frames _ = None

-- the ending that the entered turn of a body gives, if it leaves the first frame
abbrev pub ends_with : BodyView → Option Ending
ends_with b = ends_by b.script b.task.outer b.task.frames b.phase

-- a poll is ready with an ending, and pending where there is none
abbrev pub poll_of : Option Ending → Poll Ending
poll_of None = Pending
poll_of (Some e) = Ready e

-- the frames below the one that runs
abbrev pub callers_of : List FrameView → List FrameView
callers_of [] = []
callers_of (p ∷ callers) = callers

-- what a poll answers: the ending, where the turn has left the first frame
abbrev pub answer_of : List FrameView → PhaseView → PhaseView → Poll Ending
answer_of frames (entered fields resume env) (left fields' effects exit) = poll_of (ending_if (callers_of frames) exit)
answer_of frames _ _ = Pending

-- an exit at which the body waits at its own source: for a task, for the next child of a group, or for all children
abbrev pub Registers : ExitView → Type 0
Registers (waiting t) = Unit {0}
Registers (asking_next g) = Unit {0}
Registers (closing g f) = Unit {0}
Registers _ = ⊥

-- the turn was played, and the body waits at its exit
abbrev pub WaitsIn : PhaseView → Type 0
WaitsIn (left fields effects exit) = Registers exit
WaitsIn _ = ⊥

-- from before a poll to after it: the turn that was entered has been played, and the body waits from now on
abbrev pub BeginsToWait : PhaseView → PhaseView → Type 0
BeginsToWait (entered fields resume env) new = WaitsIn new
BeginsToWait _ new = ⊥

-- the slot of its waker, before a poll and after it: a turn that was played empties it, and leaves a waker only where
-- it waits; a poll that played none leaves it as it is
abbrev pub KeepsSlot : PhaseView → PhaseView → Option PolledTask → Option PolledTask → Type 0
KeepsSlot (entered fields resume env) (left fields' effects exit) was is = IsSome is → Registers exit
KeepsSlot _ _ was is = is ≡ was

-- a turn was entered, and was polled
abbrev pub IsPolled : PhaseView → Type 0
IsPolled (left fields effects exit) = Unit {0}
IsPolled (out_of_memory fields) = Unit {0}
IsPolled _ = ⊥

-- the fields, the effects and the exit that a turn has given
abbrev pub Hands : PhaseView → List (List ℤ) → List EffectView → ExitView → Type 0
Hands (left fields effects exit) fields' effects' exit' = (fields' ≡ fields) × (effects' ≡ effects) × (exit' ≡ exit)
Hands _ fields' effects' exit' = ⊥

-- the same body with no turn under way
abbrev pub at_rest : BodyView → BodyView
at_rest b = record b { phase = idle }

-- the task with these frames has not ended
abbrev pub HasFrames : List FrameView → Type 0
HasFrames [] = ⊥
HasFrames (p ∷ callers) = Unit {0}

-- the task of the body has not ended
abbrev pub IsRunning : BodyView → Type 0
IsRunning b = HasFrames b.task.frames

-- the task has not ended, and this holds of the frame that runs
abbrev pub HasFirst : List FrameView → (FrameView → Type 0) → Type 0
HasFirst [] P = ⊥
HasFirst (p ∷ callers) P = P p

-- what holds of the frame that runs, if the task has not ended
abbrev pub IfRunning : List FrameView → (FrameView → Type 0) → Type 0
IfRunning [] P = Unit {0}
IfRunning (p ∷ callers) P = P p

-- the numbers of a frame that begins: its arguments, and 0 for each other
abbrev pub padded : List ℤ → ℕ → List ℤ
padded args numbers = args ++ replicate (numbers - length args) (pos 0)

-- a frame that begins, in a task with these counts
abbrev pub opening : ScriptView → ℕ → List ℤ → ℕ → ℕ → FrameView
opening script m args made opened = record {
  method = m;
  instruction = 0;
  variables = padded args (method_numbers script m);
  handles = replicate (method_handles script m) 0;
  own = [];
  groups = [];
  pending = None;
  made = made;
  opened = opened;
}

-- the task after the exit of a turn, and what comes next
pub record Advanced : Type 0 where
  pub task : TaskView
  pub step : Step

-- the next turn of this frame
abbrev pub runs : ScriptView → FrameView → List FrameView → List (ℕ × ℤ) → Resume → Advanced
runs script p callers outer resume =
    record { task = record { frames = p ∷ callers; outer = outer }; step = Run (record { 0 = method_actor script p.method }) resume }

-- This frame is left: the nearest caller goes on, with the counts of the task, and its own bindings are its own again.
-- Without a caller the task has ended.
abbrev pub resumed : ScriptView → FrameView → List FrameView → List (ℕ × ℤ) → Resume → Ending → Advanced
resumed script p [] outer resume ending = record { task = record { frames = []; outer = outer }; step = Ended ending }
resumed script p (q ∷ callers) outer resume ending =
    runs script (record q { made = p.made; opened = p.opened }) callers (drop (length q.own) outer) resume

-- A frame for the method that is called, if there is room for one. It finds the bindings that stand in its caller.
abbrev pub called : ScriptView → FrameView → List FrameView → List (ℕ × ℤ) → InvocationView → Advanced
called script p callers outer c =
    if nat_lt (length (p ∷ callers)) FRAMES
    then runs script (opening script c.method c.args p.made p.opened) (p ∷ callers) (p.own ++ outer) Start
    else runs script p callers outer (Raise Depth)

-- a call that begins a frame, since there is room for one
abbrev pub BeginsFrame : List FrameView → ExitView → Type 0
BeginsFrame frames (calling c) = length frames < FRAMES
BeginsFrame frames _ = ⊥

-- the body waits, and its frames are as they were
abbrev pub awaits : FrameView → List FrameView → List (ℕ × ℤ) → Advanced
awaits p callers outer = record { task = record { frames = p ∷ callers; outer = outer }; step = Await }

-- what follows from the exit of a turn
abbrev pub advanced : ScriptView → FrameView → List FrameView → List (ℕ × ℤ) → ExitView → Advanced
advanced script p callers outer (calling c) = called script p callers outer c
advanced script p callers outer (waiting t) = awaits p callers outer
advanced script p callers outer (asking_next g) = awaits p callers outer
advanced script p callers outer (closing g f) = awaits p callers outer
advanced script p callers outer yielding = runs script p callers outer Go
advanced script p callers outer (returning v) = resumed script p callers outer (GivenValue v) (Value v)
advanced script p callers outer (failing f) = resumed script p callers outer (Raise f) (Fault f)

-- what follows from the exit of a turn, where the task has not ended
abbrev pub AdvancesTo : ScriptView → List FrameView → List (ℕ × ℤ) → ExitView → Advanced → Type 0
AdvancesTo script [] outer e after = Unit {0}
AdvancesTo script (p ∷ callers) outer e after = after ≡ advanced script p callers outer e

-- the frame that runs is left
abbrev pub Resumes : ScriptView → List FrameView → List (ℕ × ℤ) → Resume → Ending → Advanced → Type 0
Resumes script [] outer resume ending after = Unit {0}
Resumes script (p ∷ callers) outer resume ending after = after ≡ resumed script p callers outer resume ending

-- a method that is called is one of the script
abbrev pub CanAdvance : ScriptView → ExitView → Type 0
CanAdvance script (calling c) = c.method < method_count script
CanAdvance script _ = Unit {0}

-- the task has not ended
abbrev pub GoesOn : Step → Type 0
GoesOn (Ended e) = ⊥
GoesOn _ = Unit {0}
