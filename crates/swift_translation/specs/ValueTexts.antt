-- Names and values of the script as it has them. (Our own.)
use Rattle.std.specs.Prelude.{ℕ, zero, suc, ◌+◌, ◌-◌, ◌^◌, ◌==◌, ◌++◌, List, [], Option, Some, None, codes, if◌then◌else◌, length, min, slice_get}
use Rattle.std.specs.Fmt.{signed_decimal}
use Rattle.swift_syntax.specs.declared.tree.FieldDecl.{FieldDecl}
use Rattle.swift_syntax.specs.declared.tree.InstanceDecl.{InstanceDecl}
use Rattle.swift_syntax.specs.declared.tree.LocalDecl.{LocalDecl}
use Rattle.swift_expressions.specs.declared.code.Operand.{Operand}
use Rattle.swift_expressions.specs.declared.code.TheConstants.{NONE}
use Rattle.swift_expressions.specs.declared.code.Unit as units
use Rattle.swift_expressions.specs.declared.code.Value.{Value}
use Rattle.swift_expressions.specs.declared.code.Value.TheVariants as value
use Rattle.swift_expressions.specs.declared.code.Variable.{Variable}
use Rattle.swift_expressions.specs.declared.lines.Spot.{Spot}
use Rattle.swift_translation.specs.Names.{Named, Printed, Temporary, closure_in, closure_in_function, closure_in_main, file_name, spelled}
use Rattle.swift_translation.specs.Sources.{bytes_at, value_at}
use Rattle.swift_translation.specs.Starts.{start_number}
use Rattle.swift_translation.specs.Words.{operator_text}
use Rattle.swift_translation.specs.declared.source.Context.{Context}
use Rattle.swift_translation.specs.declared.source.Source.{Source}

-- the name of a token
unfoldable pub name_text : Source → ℕ → List ℕ
name_text s token = file_name (bytes_at s token)

-- the name of a field
unfoldable pub field_name_text : Source → ℕ → List ℕ
field_name_text s token = spelled (Named (bytes_at s token) 0 0)

-- the name of a variable at a place
abbrev pub declared_text : Context → ℕ → Variable → List ℕ
declared_text at place v = if v.token == 0 then spelled (Temporary place at.serial) else spelled (Named (bytes_at at.source v.token) v.duplicate at.serial)

-- the name of a variable that was looked for
abbrev pub found_variable : Context → ℕ → Option Variable → List ℕ
found_variable at place None = codes "_"
found_variable at place (Some v) = declared_text at place v

-- the name of the variable at a place
unfoldable pub variable_text : Context → ℕ → List ℕ
variable_text at place = found_variable at place (slice_get at.source.code.now.variables.items place)

-- the name of an instance that was looked for
abbrev pub found_instance : Source → Option InstanceDecl → List ℕ
found_instance s None = []
found_instance s (Some i) = name_text s i.name

-- the name of an instance
unfoldable pub instance_text : Source → ℕ → List ℕ
instance_text s instance = found_instance s (slice_get s.tree.now.value.instances.items instance)

-- which of its kind something is on its line, from 2 on; 0 is the first
abbrev pub which_of : Spot → ℕ
which_of spot = if spot.before == 0 then 0 else min (spot.before + 1) (2 ^ 64 - 1)

-- the name of the field that holds a printed value that was looked for
abbrev pub found_printed : Option Spot → List ℕ
found_printed None = []
found_printed (Some spot) = spelled (Printed spot.line (which_of spot))

-- the name of the field that holds a value that `main` prints
unfoldable pub printed_text : Source → ℕ → List ℕ
printed_text s place = found_printed (slice_get s.code.now.printed.items place)

-- the name of a closure in a method of an instance that was looked for
abbrev pub closure_of : Source → units.Unit → Option InstanceDecl → List ℕ
closure_of s u None = []
closure_of s u (Some i) = closure_in (bytes_at s i.name) (bytes_at s u.method) u.spot.line (which_of u.spot)

-- the name of a closure in a method of the instance that is written
abbrev pub own_closure_text : Source → units.Unit → List ℕ
own_closure_text s u = closure_of s u (slice_get s.tree.now.value.instances.items s.instance)

-- the name of a closure: by `main`, by a function, or by an instance and its method
abbrev pub closure_text : Source → units.Unit → List ℕ
closure_text s u = if u.method == NONE then closure_in_main u.spot.line (which_of u.spot) else if u.actor == NONE then closure_in_function (bytes_at s u.method) u.spot.line (which_of u.spot) else own_closure_text s u

-- the name of a closure that was looked for
abbrev pub found_unit : Source → Option units.Unit → List ℕ
found_unit s None = []
found_unit s (Some u) = closure_text s u

-- the name of the method that a closure became
unfoldable pub unit_text : Source → ℕ → List ℕ
unit_text s unit = found_unit s (slice_get s.code.now.units.items unit)

-- a field that was looked for: a `let` is its number
abbrev pub found_field : Source → Option FieldDecl → List ℕ
found_field s None = []
found_field s (Some f) = if f.is_var then field_name_text s f.name else signed_decimal (start_number s s.instance f)

-- a field of the own actor
unfoldable pub field_text : Source → ℕ → List ℕ
field_text s field = found_field s (slice_get s.tree.now.value.fields.items field)

-- the name of a field of an instance
unfoldable pub var_text : Source → ℕ → ℕ → List ℕ
var_text s instance token = instance_text s instance ++ codes "." ++ field_name_text s token

-- a field of an instance that was looked for: a `let` is its number
abbrev pub found_member : Source → ℕ → Option FieldDecl → List ℕ
found_member s instance None = []
found_member s instance (Some f) = if f.is_var then var_text s instance f.name else signed_decimal (start_number s instance f)

-- a field of an instance at the end of a run
unfoldable pub member_text : Source → ℕ → ℕ → List ℕ
member_text s instance field = found_member s instance (slice_get s.tree.now.value.fields.items field)

-- the name of a task local that was looked for
abbrev pub found_local : Source → Option LocalDecl → List ℕ
found_local s None = []
found_local s (Some l) = name_text s l.name

-- the name of a task local
unfoldable pub local_text : Source → ℕ → List ℕ
local_text s local = found_local s (slice_get s.tree.now.value.locals.items local)

-- a task local that is read
unfoldable pub read_text : Source → ℕ → List ℕ
read_text s local = codes "@" ++ local_text s local

-- a value, by the texts of its parts: in parentheses where it has an operator
abbrev pub form_text : Context → (ℕ → List ℕ) → Value → List ℕ
form_text at part (value.Number n) = signed_decimal n
form_text at part (value.Variable v) = variable_text at v
form_text at part (value.Field f) = field_text at.source f
form_text at part (value.Member i f) = member_text at.source i f
form_text at part (value.Local l) = read_text at.source l
form_text at part value.Priority = codes "priority"
form_text at part value.Cancelled = codes "cancelled"
form_text at part (value.Negate v) = codes "(-" ++ part v ++ codes ")"
form_text at part (value.Not v) = codes "(!" ++ part v ++ codes ")"
form_text at part (value.Binary operator v w) = codes "(" ++ part v ++ operator_text operator ++ part w ++ codes ")"

-- a value that nests at most so deep; nothing where it nests deeper, and then it is refused
unfoldable pub deep_text : Context → ℕ → ℕ → List ℕ
deep_text at zero place = []
deep_text at (suc depth) place = form_text at (deep_text at depth) (value_at at.source place)

-- the value at a place
unfoldable pub value_text : Context → ℕ → List ℕ
value_text at place = deep_text at 400 place

-- a value that stands alone: without parentheses around all of it
abbrev pub bare_form : Context → ℕ → Value → List ℕ
bare_form at place (value.Binary operator v w) = value_text at v ++ operator_text operator ++ value_text at w
bare_form at place v = value_text at place

-- the value at a place, that stands alone
abbrev pub bare_text : Context → ℕ → List ℕ
bare_text at place = bare_form at place (value_at at.source place)

-- an operand that was looked for, behind others, and what is behind it
abbrev pub found_more : Context → (ℕ → List ℕ) → Option Operand → List ℕ
found_more at rest None = []
found_more at rest (Some o) = codes ", " ++ value_text at o.value ++ rest o.next

-- operands behind others, from one on, at most so many
abbrev pub more_operands : Context → ℕ → ℕ → List ℕ
more_operands at zero place = []
more_operands at (suc most) place = found_more at (more_operands at most) (slice_get at.source.code.now.operands.items place)

-- an operand that was looked for, before all others
abbrev pub found_operands : Context → Option Operand → List ℕ
found_operands at None = []
found_operands at (Some o) = value_text at o.value ++ more_operands at (length at.source.code.now.operands.items) o.next

-- the operands from one on, with commas between them
unfoldable pub operands_text : Context → ℕ → List ℕ
operands_text at first = found_operands at (slice_get at.source.code.now.operands.items first)
