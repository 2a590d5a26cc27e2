-- A body that is written, instruction by instruction. (Our own.)
use Rattle.std.specs.Prelude.{ℕ, zero, suc, ◌+◌, ◌-◌, ◌^◌, ◌++◌, Bool, true, false, List, [], ◌∷◌, Option, Some, None, if◌then◌else◌, codes, length, max, min, nat_le, slice_get, take}
use Rattle.std.specs.List.{count_by}
use Rattle.swift_expressions.specs.declared.code.Instruction.{Instruction}
use Rattle.swift_expressions.specs.declared.code.Instruction.TheVariants as instruction
use Rattle.swift_expressions.specs.declared.code.Target.{Target}
use Rattle.swift_expressions.specs.declared.code.Unit as units
use Rattle.swift_expressions.specs.declared.code.UnitKind as units_kind
use Rattle.swift_expressions.specs.declared.code.UnitKind.TheVariants as kinds
use Rattle.swift_translation.specs.BlockTexts.{head_text, setting_text, task_text}
use Rattle.swift_translation.specs.MethodTexts.{begin_text, callee_frame, end_text, first_frame, moved, params_text}
use Rattle.swift_translation.specs.Sources.{instruction_at}
use Rattle.swift_translation.specs.StatementTexts.{word_line}
use Rattle.swift_translation.specs.declared.frame.Frame.{Frame}
use Rattle.swift_translation.specs.declared.source.Context.{Context}
use Rattle.swift_translation.specs.declared.source.Source.{Source}
use Rattle.swift_translation.specs.declared.step.StepKind.{StepKind}
use Rattle.swift_translation.specs.declared.step.StepKind.TheVariants as steps
use Rattle.swift_translation.specs.declared.walk.TheConstants.{MOST}

-- whether a unit is a closure
abbrev pub is_closure : units_kind.UnitKind → Bool
is_closure (kinds.Method m) = false
is_closure kinds.Closure = true
is_closure kinds.Main = false

-- How far a body is written: the methods that the one is put into that is written, the open blocks, each with whether its end is written,
-- and how many methods were put in. The innermost ones are the last.
pub record Progress : Type 0 where
  pub callers : List Frame
  pub blocks : List Bool
  pub serial : ℕ

-- nothing is written
abbrev pub fresh : Progress
fresh = record { callers = []; blocks = []; serial = 0 }

-- whether a block's end is written
abbrev pub is_written : Bool → Bool
is_written b = b

-- where a statement is written, of the method that was put in as the one of a number
abbrev pub context_of : Source → Progress → ℕ → Context
context_of s p serial = record { source = s; open_blocks = count_by is_written p.blocks; serial = serial }

-- the last of a list
abbrev pub last_of : {A : Type 0} → List A → Option A
last_of xs = slice_get xs (length xs - 1)

-- a list without its last one
abbrev pub but_last : {A : Type 0} → List A → List A
but_last xs = take (length xs - 1) xs

-- a block opens
abbrev pub opened : Bool → Progress → Progress
opened b p = record p { blocks = p.blocks ++ b ∷ [] }

-- the innermost block closes
abbrev pub popped : Progress → Progress
popped p = record p { blocks = but_last p.blocks }

-- a number and 1, as far as numbers go
abbrev pub next_of : ℕ → ℕ
next_of n = min (n + 1) (2 ^ 64 - 1)

-- a method is put in, out of another one
abbrev pub entered : Frame → Progress → Progress
entered caller p = record p { callers = p.callers ++ caller ∷ []; serial = next_of p.serial }

-- a method that was put in has ended
abbrev pub left : Progress → Progress
left p = record p { callers = but_last p.callers }

-- the end of a block that was open, where it is written
abbrev pub brace_text : Context → Option Bool → List ℕ
brace_text at None = []
brace_text at (Some false) = []
brace_text at (Some true) = word_line at (codes "}")

-- the end of the innermost block
unfoldable pub close_text : Source → Progress → List ℕ
close_text s p = brace_text (context_of s (popped p) 0) (last_of p.blocks)

-- `else` between two blocks
unfoldable pub turn_over_text : Source → Progress → List ℕ
turn_over_text s p = word_line (context_of s (popped p) 0) (codes "} else {")

-- an instruction that opens or closes a block
abbrev pub block_text : Source → Progress → Frame → Instruction → List ℕ
block_text s p f instruction.Else = turn_over_text s p
block_text s p f instruction.End = close_text s p
block_text s p f i = head_text (context_of s p f.serial) f.needs_done i

-- the blocks that are open then
abbrev pub block_progress : Progress → Frame → Instruction → Progress
block_progress p f instruction.Rest = opened f.needs_done p
block_progress p f instruction.Else = opened true (popped p)
block_progress p f instruction.End = popped p
block_progress p f i = opened true p

-- the method that is written, at the instruction behind this one
abbrev pub next_frame : Frame → Frame
next_frame f = moved f (next_of f.at)

-- a method that is put in: its parameters, and the variables that it begins with
unfoldable pub put_text : Source → Progress → Frame → Frame → ℕ → List ℕ
put_text s p f callee first = params_text (context_of s p callee.serial) callee.unit first f.serial ++ begin_text (context_of s p callee.serial) callee.result callee.needs_done

-- the same, if there is one
abbrev pub put_in_text : Source → Progress → Frame → Option Frame → ℕ → List ℕ
put_in_text s p f None first = []
put_in_text s p f (Some callee) first = put_text s p f callee first

-- the methods that stand in one another then
abbrev pub put_in_progress : Progress → Frame → Option Frame → Progress
put_in_progress p f None = p
put_in_progress p f (Some callee) = entered (next_frame f) p

-- the method that is put in, if there is one, or else the one that is written
abbrev pub or_next : Frame → Option Frame → Frame
or_next f None = next_frame f
or_next f (Some callee) = callee

-- the method of a unit that was looked for, as it is put in
abbrev pub callee_found : Progress → Frame → Target → ℕ → Option units.Unit → Option Frame
callee_found p f target unit None = None
callee_found p f target unit (Some u) = Some (callee_frame unit u (next_of p.serial) target f.serial)

-- the method that an instruction puts in, if there is one
abbrev pub callee_of : Source → Progress → Frame → Target → ℕ → Option Frame
callee_of s p f target unit = callee_found p f target unit (slice_get s.code.now.units.items unit)

-- an instruction that puts nothing in and opens and closes no block
abbrev pub plain_text : Context → Frame → Instruction → List ℕ
plain_text at f (instruction.Let variable value) = setting_text at (instruction.Let variable value)
plain_text at f (instruction.Set variable value) = setting_text at (instruction.Set variable value)
plain_text at f (instruction.SetField field value) = setting_text at (instruction.SetField field value)
plain_text at f (instruction.Print place value) = setting_text at (instruction.Print place value)
plain_text at f (instruction.Require value line) = setting_text at (instruction.Require value line)
plain_text at f i = task_text at f i

-- what an instruction does
abbrev pub kind_of : Instruction → StepKind
kind_of (instruction.Skip to) = steps.Skip to
kind_of (instruction.Inline target unit first token) = steps.Put target unit first token
kind_of (instruction.If value) = steps.Block
kind_of instruction.Else = steps.Block
kind_of (instruction.While value) = steps.Block
kind_of (instruction.Group variable) = steps.Block
kind_of (instruction.Bind local value) = steps.Block
kind_of instruction.Rest = steps.Block
kind_of instruction.End = steps.Block
kind_of i = steps.Plain

-- what is written of an instruction
abbrev pub text_by : Source → Progress → Frame → Instruction → StepKind → List ℕ
text_by s p f i (steps.Skip to) = []
text_by s p f i (steps.Put target unit first token) = put_in_text s p f (callee_of s p f target unit) first
text_by s p f i steps.Block = block_text s p f i
text_by s p f i steps.Plain = plain_text (context_of s p f.serial) f i

-- the methods and blocks that are open then
abbrev pub progress_by : Source → Progress → Frame → Instruction → StepKind → Progress
progress_by s p f i (steps.Skip to) = p
progress_by s p f i (steps.Put target unit first token) = put_in_progress p f (callee_of s p f target unit)
progress_by s p f i steps.Block = block_progress p f i
progress_by s p f i steps.Plain = p

-- the method that is written next, from its next instruction on
abbrev pub frame_by : Source → Progress → Frame → StepKind → Frame
frame_by s p f (steps.Skip to) = moved f (max to (next_of f.at))
frame_by s p f (steps.Put target unit first token) = or_next f (callee_of s p f target unit)
frame_by s p f steps.Block = next_frame f
frame_by s p f steps.Plain = next_frame f

-- what is written of an instruction of a method
unfoldable pub step_text : Source → Progress → Frame → Instruction → List ℕ
step_text s p f i = text_by s p f i (kind_of i)

-- the methods and blocks that are open then
unfoldable pub step_progress : Source → Progress → Frame → Instruction → Progress
step_progress s p f i = progress_by s p f i (kind_of i)

-- the method that is written next, from its next instruction on
unfoldable pub step_frame : Source → Progress → Frame → Instruction → Frame
step_frame s p f i = frame_by s p f (kind_of i)

-- what is written in a turn: an instruction, or the end of a method
abbrev pub turn_text : Source → Progress → Frame → List ℕ
turn_text s p f = if nat_le f.to f.at then end_text (context_of s p f.serial) f else step_text s p f (instruction_at s f.at)

-- the methods and blocks that are open then
abbrev pub turn_progress : Source → Progress → Frame → Progress
turn_progress s p f = if nat_le f.to f.at then left p else step_progress s p f (instruction_at s f.at)

-- the method that is written next, if the body goes on
abbrev pub turn_frame : Source → Progress → Frame → Option Frame
turn_frame s p f = if nat_le f.to f.at then last_of p.callers else Some (step_frame s p f (instruction_at s f.at))

-- How far a body is written, the method that is written next, unless the body has ended, and what is written so far.
pub record Course : Type 0 where
  pub progress : Progress
  pub next : Option Frame
  pub text : List ℕ

-- a turn of a method, behind a text
abbrev pub turned : Source → Progress → Frame → List ℕ → Course
turned s p f text = record { progress = turn_progress s p f; next = turn_frame s p f; text = text ++ turn_text s p f }

-- a turn, where the body goes on
abbrev pub course_by : Source → Course → Option Frame → Course
course_by s c None = c
course_by s c (Some f) = turned s c.progress f c.text

-- so many turns
unfoldable pub course : Source → Course → ℕ → Course
course s c zero = c
course s c (suc n) = course_by s (course s c n) (course s c n).next

-- a method that begins
abbrev pub starting : Progress → Frame → Course
starting p f = record { progress = p; next = Some f; text = [] }

-- what is written from a method on, in so many turns
unfoldable pub run_text : Source → Progress → Frame → ℕ → List ℕ
run_text s p f turns = (course s (starting p f) turns).text

-- the same source, for a closure or for something else
abbrev pub kind_source : Source → units.Unit → Source
kind_source s u = record s { is_closure = is_closure u.kind }

-- the statements of a unit: what it begins with, and at most 100,000 turns, since no longer one is written
unfoldable pub unit_body : Source → ℕ → units.Unit → List ℕ
unit_body s unit u = begin_text (context_of s fresh 0) (first_frame unit u).result (first_frame unit u).needs_done ++ run_text s fresh (first_frame unit u) MOST

-- the statements of a unit that was looked for, with the methods that are put into it
abbrev pub found_body : Source → ℕ → Option units.Unit → List ℕ
found_body s unit None = []
found_body s unit (Some u) = unit_body (kind_source s u) unit u

-- the statements of a unit, with the methods that are put into it
unfoldable pub body_text : Source → ℕ → List ℕ
body_text s unit = found_body s unit (slice_get s.code.now.units.items unit)
