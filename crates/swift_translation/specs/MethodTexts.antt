-- How methods begin and end, and what is handed to those that are put in. (Our own.)
use Rattle.std.specs.Prelude.{ℕ, zero, suc, ◌==◌, ◌&&◌, ◌++◌, Bool, List, [], Option, Some, None, codes, if◌then◌else◌, length, slice_get}
use Rattle.swift_expressions.specs.declared.code.Operand.{Operand}
use Rattle.swift_expressions.specs.declared.code.Target.{Target}
use Rattle.swift_expressions.specs.declared.code.Target.TheVariants.{Nothing, Declare}
use Rattle.swift_expressions.specs.declared.code.Unit as units
use Rattle.swift_expressions.specs.declared.code.Variable as variables
use Rattle.swift_translation.specs.Returns.{done_let, result_given}
use Rattle.swift_translation.specs.StatementTexts.{line_text, of_serial, result_text, set_head, word_line}
use Rattle.swift_translation.specs.ValueTexts.{value_text}
use Rattle.swift_translation.specs.declared.frame.Frame.{Frame}
use Rattle.swift_translation.specs.declared.frame.ResultPlace.{ResultPlace}
use Rattle.swift_translation.specs.declared.frame.ResultPlace.TheVariants.{Returned, Own, Variable}
use Rattle.swift_translation.specs.declared.source.Context.{Context}
use Rattle.swift_translation.specs.declared.source.Source.{Source}

-- the same method at another of its instructions
abbrev pub moved : Frame → ℕ → Frame
moved f at = record f { at = at }

-- where the value of a method goes that is not put in: to a variable where it returns out of a group's block
abbrev pub first_place : Bool → ResultPlace
first_place returns_inside = if returns_inside then Own else Returned

-- a method that is not put in, from its beginning on
abbrev pub first_frame : ℕ → units.Unit → Frame
first_frame unit u = record { unit = unit; at = u.from; to = u.to; serial = 0; result = first_place u.returns_inside; needs_done = u.returns_inside && u.needs_done }

-- where the value of a method goes that is put in: to the variable of its caller, if there is one
abbrev pub place_of : Target → ℕ → ResultPlace
place_of Nothing caller = Own
place_of (Declare variable) caller = Variable variable caller

-- a method that is put in as the one of a number, into that of another number, from its beginning on
abbrev pub callee_frame : ℕ → units.Unit → ℕ → Target → ℕ → Frame
callee_frame unit u serial target caller = record { unit = unit; at = u.from; to = u.to; serial = serial; result = place_of target caller; needs_done = u.needs_done }

-- the variable to which the value of a method goes begins at 0
unfoldable pub zero_text : Context → ResultPlace → List ℕ
zero_text at to = word_line at (codes "let ") ++ result_text at to ++ codes " = 0;"

-- that variable, unless the value is returned
abbrev pub begin_result : Context → ResultPlace → List ℕ
begin_result at Returned = []
begin_result at Own = zero_text at Own
begin_result at (Variable variable serial) = zero_text at (Variable variable serial)

-- the variable for whether a method has returned, where something asks for that
abbrev pub begin_done : Context → Bool → List ℕ
begin_done at needs_done = if needs_done then line_text at.open_blocks ++ done_let at.serial else []

-- the variables that a method begins with
unfoldable pub begin_text : Context → ResultPlace → Bool → List ℕ
begin_text at to needs_done = begin_result at to ++ begin_done at needs_done

-- a method whose value goes to a variable of its own gives that back, if it is not put in
abbrev pub end_by : Context → ℕ → ResultPlace → List ℕ
end_by at serial Returned = []
end_by at serial Own = if serial == 0 then line_text at.open_blocks ++ result_given at.serial else []
end_by at serial (Variable variable other) = []

-- the end of a method
abbrev pub end_text : Context → Frame → List ℕ
end_text at frame = end_by at frame.serial frame.result

-- a parameter of a method that is put in, with its value, which the caller has
unfoldable pub param_text : Context → ℕ → ℕ → ℕ → List ℕ
param_text at variable value caller = set_head at (codes "let ") variable ++ value_text (of_serial at caller) value ++ codes ";"

-- the operand for a variable that was looked for, if it is a parameter of a unit
abbrev pub handed_by : Source → ℕ → ℕ → Option variables.Variable → Option Operand
handed_by s unit operand None = None
handed_by s unit operand (Some v) = if (v.unit == unit) && v.is_param then slice_get s.code.now.operands.items operand else None

-- the operand for the variable at a place, if it is a parameter of a unit
abbrev pub handed : Source → ℕ → ℕ → ℕ → Option Operand
handed s unit place operand = handed_by s unit operand (slice_get s.code.now.variables.items place)

-- the variable at a place with its value, if there is one
abbrev pub handed_text : Context → ℕ → ℕ → Option Operand → List ℕ
handed_text at place caller None = []
handed_text at place caller (Some o) = param_text at place o.value caller

-- the place of the operand for the next parameter
abbrev pub handed_next : ℕ → Option Operand → ℕ
handed_next operand None = operand
handed_next operand (Some o) = o.next

-- the place of the operand for the first parameter of a unit from the variable at a place on; the operands begin at another place
abbrev pub operand_before : Source → ℕ → ℕ → ℕ → ℕ
operand_before s unit first zero = first
operand_before s unit first (suc place) = handed_next (operand_before s unit first place) (handed s unit place (operand_before s unit first place))

-- the parameters of a unit among the first variables, with their values
abbrev pub params_before : Context → ℕ → ℕ → ℕ → ℕ → List ℕ
params_before at unit first caller zero = []
params_before at unit first caller (suc place) = params_before at unit first caller place ++ handed_text at place caller (handed at.source unit place (operand_before at.source unit first place))

-- the parameters of a method that is put in, with their values
unfoldable pub params_text : Context → ℕ → ℕ → ℕ → List ℕ
params_text at unit first caller = params_before at unit first caller (length at.source.code.now.variables.items)
