-- Instructions that open and close no block, as statements. (Our own.)
use Rattle.std.specs.Prelude.{ℕ, zero, suc, ◌==◌, ◌&&◌, ◌++◌, Bool, true, false, not, List, [], Option, Some, None, codes, decimal, if◌then◌else◌, slice_get}
use Rattle.swift_types.specs.declared.priority.Priority.{Priority}
use Rattle.swift_syntax.specs.declared.tree.FieldDecl.{FieldDecl}
use Rattle.swift_syntax.specs.declared.tree.MethodDecl.{MethodDecl}
use Rattle.swift_expressions.specs.declared.code.Callee.{Callee}
use Rattle.swift_expressions.specs.declared.code.Callee.TheVariants as callees
use Rattle.swift_expressions.specs.declared.code.Target.{Target}
use Rattle.swift_expressions.specs.declared.code.Target.TheVariants.{Nothing, Declare}
use Rattle.swift_expressions.specs.declared.code.TheConstants.{NONE}
use Rattle.swift_expressions.specs.declared.code.Wait.{Wait}
use Rattle.swift_expressions.specs.declared.code.Wait.TheVariants as waits
use Rattle.swift_translation.specs.Names.{Caught, Precondition, Result, spelled}
use Rattle.swift_translation.specs.Returns.{done_set}
use Rattle.swift_translation.specs.ValueTexts.{field_name_text, instance_text, name_text, operands_text, printed_text, unit_text, value_text, variable_text}
use Rattle.swift_translation.specs.Words.{urgency_text}
use Rattle.swift_translation.specs.declared.frame.ResultPlace.{ResultPlace}
use Rattle.swift_translation.specs.declared.frame.ResultPlace.TheVariants.{Returned, Own, Variable}
use Rattle.swift_translation.specs.declared.source.Context.{Context}
use Rattle.swift_translation.specs.declared.source.Source.{Source}

-- four spaces, so many times
abbrev pub indent_text : ℕ → List ℕ
indent_text zero = []
indent_text (suc many) = codes "    " ++ indent_text many

-- the end of a line, and the indentation of the next one, in a body in which so many blocks are open
unfoldable pub line_text : ℕ → List ℕ
line_text open_blocks = codes "\n        " ++ indent_text open_blocks

-- a line that begins with a word
unfoldable pub word_line : Context → List ℕ → List ℕ
word_line at word = line_text at.open_blocks ++ word

-- `let` or nothing, a variable, and `=`
unfoldable pub set_head : Context → List ℕ → ℕ → List ℕ
set_head at word variable = word_line at word ++ variable_text at variable ++ codes " = "

-- the name of a method that was looked for
abbrev pub found_method : Source → Option MethodDecl → List ℕ
found_method s None = []
found_method s (Some m) = name_text s m.name

-- the name of a method
unfoldable pub method_name_text : Source → ℕ → List ℕ
method_name_text s method = found_method s (slice_get s.tree.now.value.methods.items method)

-- a method of an instance
unfoldable pub method_text : Source → ℕ → ℕ → List ℕ
method_text s instance method = instance_text s instance ++ codes "." ++ method_name_text s method

-- the name of a field that was looked for
abbrev pub found_getter : Source → Option FieldDecl → List ℕ
found_getter s None = []
found_getter s (Some f) = field_name_text s f.name

-- a field of an instance
unfoldable pub getter_text : Source → ℕ → ℕ → List ℕ
getter_text s instance field = instance_text s instance ++ codes "." ++ found_getter s (slice_get s.tree.now.value.fields.items field)

-- the actor in which a method runs: an instance, or that of closures where it is a function outside of actors
abbrev pub home_text : Source → ℕ → MethodDecl → List ℕ
home_text s instance m = if m.actor == NONE then codes "Task" else instance_text s instance

-- a method of an instance, or a function outside of actors, whatever the instance
unfoldable pub call_text : Source → ℕ → MethodDecl → List ℕ
call_text s instance m = home_text s instance m ++ codes "." ++ name_text s m.name

-- the same of a method that was looked for
abbrev pub found_called : Source → ℕ → Option MethodDecl → List ℕ
found_called s instance None = []
found_called s instance (Some m) = call_text s instance m

-- the same of the method at a place
unfoldable pub called_text : Source → ℕ → ℕ → List ℕ
called_text s instance method = found_called s instance (slice_get s.tree.now.value.methods.items method)

-- what is handed over
unfoldable pub arguments_text : Context → ℕ → List ℕ
arguments_text at first = codes "(" ++ operands_text at first ++ codes ")"

-- a method that a closure became, and what is handed to it
unfoldable pub closure_call : Context → ℕ → ℕ → List ℕ
closure_call at unit first = codes "Task." ++ unit_text at.source unit ++ arguments_text at first

-- what is waited for
abbrev pub wait_text : Context → Wait → List ℕ
wait_text at (waits.Method instance method first) = method_text at.source instance method ++ arguments_text at first
wait_text at (waits.Getter instance field) = getter_text at.source instance field ++ codes "()"
wait_text at (waits.Own method first) = called_text at.source at.source.instance method ++ arguments_text at first
wait_text at (waits.Unit unit first) = closure_call at unit first
wait_text at (waits.Task variable) = codes "task " ++ variable_text at variable
wait_text at (waits.Next variable) = codes "next " ++ variable_text at variable

-- whether what is waited for is a call, which the waiting task does itself
abbrev pub is_call : Wait → Bool
is_call (waits.Method instance method first) = true
is_call (waits.Getter instance field) = true
is_call (waits.Own method first) = true
is_call (waits.Unit unit first) = true
is_call (waits.Task variable) = false
is_call (waits.Next variable) = false

-- the beginning of a statement whose result goes to a variable that begins there, unless it goes nowhere
abbrev pub target_text : Context → Target → List ℕ
target_text at Nothing = line_text at.open_blocks
target_text at (Declare variable) = set_head at (codes "let ") variable

-- the beginning of a statement that makes a task for a call whose error is caught; the instruction stands at a place
unfoldable pub caught_head : Context → ℕ → List ℕ
caught_head at place = word_line at (codes "let ") ++ spelled (Caught place at.serial) ++ codes " = spawn "

-- that statement
unfoldable pub caught_text : Context → ℕ → Wait → List ℕ
caught_text at place what = caught_head at place ++ wait_text at what ++ codes ";"

-- that task, and a wait for it
unfoldable pub apart_text : Context → ℕ → Target → Wait → List ℕ
apart_text at place target what = caught_text at place what ++ target_text at target ++ codes "await task " ++ spelled (Caught place at.serial)

-- a wait for a call or a task
unfoldable pub here_text : Context → Target → Wait → List ℕ
here_text at target what = target_text at target ++ codes "await " ++ wait_text at what

-- whether a call is a task of its own: its fault is caught, and nothing tells by cancelling that it is one
abbrev pub is_apart : Context → Wait → ℕ → Bool
is_apart at what otherwise = not (otherwise == NONE) && (is_call what && not at.source.may_ask_cancelled)

-- a wait
abbrev pub await_text : Context → ℕ → Target → Wait → ℕ → List ℕ
await_text at place target what otherwise = if is_apart at what otherwise then apart_text at place target what else here_text at target what

-- the value that stands for the result where a wait ends with a fault, if there is one
abbrev pub else_text : Context → ℕ → List ℕ
else_text at otherwise = if otherwise == NONE then [] else codes " else " ++ value_text at otherwise

-- a wait, with that value
unfoldable pub waited_text : Context → ℕ → Target → Wait → ℕ → List ℕ
waited_text at place target what otherwise = await_text at place target what otherwise ++ else_text at otherwise ++ codes ";"

-- what a task runs
abbrev pub callee_text : Context → Callee → List ℕ
callee_text at (callees.Method instance method first) = called_text at.source instance method ++ arguments_text at first
callee_text at (callees.Unit unit first) = closure_call at unit first

-- a value, and the end of a statement
unfoldable pub ended_text : Context → ℕ → List ℕ
ended_text at value = value_text at value ++ codes ";"

-- a variable gets a value, or begins with it
unfoldable pub set_text : Context → List ℕ → ℕ → ℕ → List ℕ
set_text at word variable value = set_head at word variable ++ ended_text at value

-- the name of a field of the own actor
unfoldable pub own_field_text : Context → ℕ → List ℕ
own_field_text at field = found_getter at.source (slice_get at.source.tree.now.value.fields.items field)

-- a field of the own actor gets a value
unfoldable pub field_set_text : Context → ℕ → ℕ → List ℕ
field_set_text at field value = line_text at.open_blocks ++ own_field_text at field ++ codes " = " ++ ended_text at value

-- a value is printed: a field of `main` gets it
unfoldable pub print_text : Context → ℕ → ℕ → List ℕ
print_text at place value = line_text at.open_blocks ++ printed_text at.source place ++ codes " = " ++ ended_text at value

-- what stands before a value that has to hold: it is the first one that does not
unfoldable pub require_head : Context → List ℕ
require_head at = word_line at (codes "if (") ++ spelled Precondition ++ codes " == 0 && (!"

-- the line of a value that does not hold is noted
unfoldable pub require_line : Context → ℕ → List ℕ
require_line at line = word_line at (codes "    ") ++ spelled Precondition ++ codes " = " ++ decimal line

-- the same in a block, behind the value
unfoldable pub require_block : Context → ℕ → List ℕ
require_block at line = codes ")) {" ++ require_line at line ++ codes ";" ++ word_line at (codes "}")

-- the first value that does not hold leaves its line
unfoldable pub require_text : Context → ℕ → ℕ → List ℕ
require_text at value line = require_head at ++ value_text at value ++ require_block at line

-- how a task begins: apart from the one that makes it, or as its child
abbrev pub making_text : Bool → List ℕ
making_text is_detached = if is_detached then codes "detach " else codes "spawn "

-- a task begins
unfoldable pub make_text : Context → ℕ → Bool → Callee → Option Priority → List ℕ
make_text at variable is_detached callee urgency = set_head at (codes "let ") variable ++ making_text is_detached ++ callee_text at callee ++ urgency_text urgency

-- between a group and its child: whether it begins only where the group is not cancelled
abbrev pub adding_text : Bool → List ℕ
adding_text is_only = if is_only then codes " unless " else codes " "

-- the beginning of a statement that adds a child to a group
unfoldable pub add_head : Context → ℕ → Bool → List ℕ
add_head at group is_only = word_line at (codes "add ") ++ variable_text at group ++ adding_text is_only

-- a child of a group begins
unfoldable pub add_text : Context → ℕ → Bool → Callee → Option Priority → List ℕ
add_text at group is_only callee urgency = add_head at group is_only ++ callee_text at callee ++ urgency_text urgency

-- a word and what is named
unfoldable pub word_text : Context → List ℕ → ℕ → List ℕ
word_text at word variable = word_line at word ++ variable_text at variable ++ codes ";"

-- the method ends with a fault
unfoldable pub throw_text : Context → ℕ → List ℕ
throw_text at value = word_line at (codes "throw ") ++ ended_text at value

-- a value, or 0 where there is none
abbrev pub or_zero_text : Context → ℕ → List ℕ
or_zero_text at value = if value == NONE then codes "0" else value_text at value

-- what a method returns
unfoldable pub return_text : Context → ℕ → List ℕ
return_text at value = word_line at (codes "return ") ++ or_zero_text at value ++ codes ";"

-- the same for the method that was put in as the one of a number
abbrev pub of_serial : Context → ℕ → Context
of_serial at serial = record at { serial = serial }

-- the variable to which the value of a method goes; none where it is returned
abbrev pub result_text : Context → ResultPlace → List ℕ
result_text at Returned = []
result_text at Own = spelled (Result at.serial)
result_text at (Variable variable serial) = variable_text (of_serial at serial) variable

-- the beginning of a statement that sets it
unfoldable pub given_head : Context → ResultPlace → List ℕ
given_head at to = line_text at.open_blocks ++ result_text at to ++ codes " = "

-- the value of a method goes to a variable
unfoldable pub given_text : Context → ResultPlace → ℕ → List ℕ
given_text at to value = given_head at to ++ or_zero_text at value ++ codes ";"

-- a method notes that it has returned, where something asks for that
abbrev pub done_text : Context → Bool → List ℕ
done_text at needs_done = if needs_done then line_text at.open_blocks ++ done_set at.serial else []

-- a value goes to where the value of the method goes
abbrev pub give_text : Context → ResultPlace → Bool → ℕ → List ℕ
give_text at Returned needs_done value = return_text at value
give_text at Own needs_done value = given_text at Own value ++ done_text at needs_done
give_text at (Variable variable serial) needs_done value = given_text at (Variable variable serial) value ++ done_text at needs_done
