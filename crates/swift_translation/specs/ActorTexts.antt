-- Actors of the script, with their fields, what has to hold of them, and their methods. (Our own.)
use Rattle.std.specs.Prelude.{ℕ, ℤ, zero, suc, ◌==◌, ◌&&◌, ◌||◌, ◌++◌, Bool, true, false, not, List, [], Option, Some, None, codes, drop, if◌then◌else◌, length, max, slice_get, take}
use Rattle.std.specs.Fmt.{signed_decimal}
use Rattle.std.specs.List.{list_any}
use Rattle.swift_syntax.specs.declared.tree.Access.{Access}
use Rattle.swift_syntax.specs.declared.tree.Access.TheVariants as access
use Rattle.swift_syntax.specs.declared.tree.ActorDecl.{ActorDecl}
use Rattle.swift_syntax.specs.declared.tree.FieldDecl.{FieldDecl}
use Rattle.swift_syntax.specs.declared.tree.InvariantDecl.{InvariantDecl}
use Rattle.swift_syntax.specs.declared.tree.MethodDecl.{MethodDecl}
use Rattle.swift_expressions.specs.declared.code.Instruction.{Instruction}
use Rattle.swift_expressions.specs.declared.code.Instruction.TheVariants as instruction
use Rattle.swift_expressions.specs.declared.code.TheConstants.{NONE}
use Rattle.swift_expressions.specs.declared.code.Unit as units
use Rattle.swift_expressions.specs.declared.code.UnitKind.{UnitKind}
use Rattle.swift_expressions.specs.declared.code.UnitKind.TheVariants as kinds
use Rattle.swift_expressions.specs.declared.code.Variable as variables
use Rattle.swift_translation.specs.Bodies.{body_text, is_closure}
use Rattle.swift_translation.specs.MethodPlaces.{line_of}
use Rattle.swift_translation.specs.Names.{Precondition, spelled}
use Rattle.swift_translation.specs.PlaceTexts.{lines_text}
use Rattle.swift_translation.specs.Sources.{of_instance, token_place}
use Rattle.swift_translation.specs.Starts.{actor_of, start_number}
use Rattle.swift_translation.specs.ValueTexts.{field_name_text, instance_text, name_text, printed_text, unit_text, value_text, variable_text}
use Rattle.swift_translation.specs.declared.source.Context.{Context}
use Rattle.swift_translation.specs.declared.source.Source.{Source}

-- the texts of the first places, one after another
abbrev pub each : (ℕ → List ℕ) → ℕ → List ℕ
each text zero = []
each text (suc place) = each text place ++ text place

-- whether none of the first places is one of these
abbrev pub none_before : (ℕ → Bool) → ℕ → Bool
none_before is zero = true
none_before is (suc place) = none_before is place && not (is place)

-- the texts of those of the first places that are some, each by whether it is the first one
abbrev pub each_of : (ℕ → Bool) → (Bool → ℕ → List ℕ) → Bool → ℕ → List ℕ
each_of is text is_first zero = []
each_of is text is_first (suc place) = each_of is text is_first place ++ text (is_first && none_before is place) place

-- from what something is written that stands in no body
abbrev pub outside : Source → Context
outside s = record { source = s; open_blocks = 0; serial = 0 }

-- the number of the line on which a token begins
unfoldable pub line_of_token : Source → ℕ → ℕ
line_of_token s token = line_of s.text.now (token_place s.text.now (slice_get s.tokens.now token))

-- from which lines a unit is; the first one alone, where it ends above it
unfoldable pub unit_lines : Source → units.Unit → List ℕ
unit_lines s u = codes "\n    // lines " ++ lines_text (line_of_token s u.token) (max (line_of_token s u.end) (line_of_token s u.token))

-- whether a variable that was looked for is a parameter of a unit
abbrev pub is_param_by : ℕ → Option variables.Variable → Bool
is_param_by unit None = false
is_param_by unit (Some v) = (v.unit == unit) && v.is_param

-- whether the variable at a place is a parameter of a unit
abbrev pub is_param : Source → ℕ → ℕ → Bool
is_param s unit place = is_param_by unit (slice_get s.code.now.variables.items place)

-- between two things, or before the first one
abbrev pub between : Bool → List ℕ → List ℕ → List ℕ
between is_first first other = if is_first then first else other

-- the variable at a place, if it is a parameter of a unit
abbrev pub param_listed : Source → ℕ → Bool → ℕ → List ℕ
param_listed s unit is_first place = if is_param s unit place then between is_first [] (codes ", ") ++ variable_text (outside s) place else []

-- the parameters of a unit, with commas between them
abbrev pub params_listed : Source → ℕ → List ℕ
params_listed s unit = each_of (is_param s unit) (param_listed s unit) true (length s.code.now.variables.items)

-- a unit as a method, behind its name
unfoldable pub rest_text : Source → ℕ → List ℕ
rest_text s place = codes "(" ++ params_listed s place ++ codes ") {" ++ body_text s place ++ codes "\n    }\n"

-- the lines of a unit that was looked for
abbrev pub found_lines : Source → Option units.Unit → List ℕ
found_lines s None = []
found_lines s (Some u) = unit_lines s u

-- the lines of the unit at a place
abbrev pub lines_at : Source → ℕ → List ℕ
lines_at s place = found_lines s (slice_get s.code.now.units.items place)

-- a method of an actor
unfoldable pub method_text : Source → ℕ → MethodDecl → List ℕ
method_text s place m = lines_at s place ++ codes "\n    func " ++ name_text s m.name ++ rest_text s place

-- a closure as a method
unfoldable pub closure_method : Source → ℕ → units.Unit → List ℕ
closure_method s place u = unit_lines s u ++ codes "\n    func " ++ unit_text s place ++ rest_text s place

-- a field with its start value
unfoldable pub declared_field : Source → FieldDecl → ℤ → List ℕ
declared_field s f number = codes "\n    var " ++ field_name_text s f.name ++ codes " = " ++ signed_decimal number ++ codes ";"

-- the same; a `let` is none
abbrev pub field_line : Source → FieldDecl → List ℕ
field_line s f = if f.is_var then declared_field s f (start_number s s.instance f) else []

-- a field that was looked for, if it is an actor's
abbrev pub own_field_by : Source → ℕ → Option FieldDecl → List ℕ
own_field_by s actor None = []
own_field_by s actor (Some f) = if f.actor == actor then field_line s f else []

-- the field at a place, if it is an actor's
abbrev pub own_field : Source → ℕ → ℕ → List ℕ
own_field s actor place = own_field_by s actor (slice_get s.tree.now.value.fields.items place)

-- the fields of an actor, in the order of the file
abbrev pub fields_text : Source → ℕ → List ℕ
fields_text s actor = each (own_field s actor) (length s.tree.now.value.fields.items)

-- whether an instruction says what has to hold
abbrev pub is_require : Instruction → Bool
is_require (instruction.Require value line) = true
is_require i = false

-- the instructions of a unit, with those of closures in it
unfoldable pub instructions_of : Source → units.Unit → List Instruction
instructions_of s u = drop u.from (take u.to s.code.now.instructions.items)

-- whether an instruction of a unit says what has to hold
abbrev pub requires : Source → units.Unit → Bool
requires s u = list_any is_require (instructions_of s u)

-- whether a unit is of an actor, or of the pool; a function may be put in anywhere
abbrev pub is_at_by : ℕ → ℕ → Bool → UnitKind → Bool
is_at_by at actor wants_closure (kinds.Method m) = (at == NONE) || (not wants_closure && (at == actor))
is_at_by at actor wants_closure kinds.Closure = wants_closure
is_at_by at actor wants_closure kinds.Main = not wants_closure && (at == actor)

abbrev pub is_at : units.Unit → ℕ → Bool → Bool
is_at u actor wants_closure = is_at_by u.actor actor wants_closure u.kind

-- whether a unit of an actor, or of the pool, has something that has to hold
abbrev pub has_requirement : Source → ℕ → Bool → Bool
has_requirement s actor wants_closure = list_any (λ u. is_at u actor wants_closure && requires s u) s.code.now.units.items

-- the field for the line of a precondition that fails
unfoldable pub precondition_field : List ℕ
precondition_field = codes "\n    var " ++ spelled Precondition ++ codes " = 0;"

-- none has failed
unfoldable pub precondition_test : List ℕ
precondition_test = codes "\n    invariant " ++ spelled Precondition ++ codes " == 0"

-- that field, and what has to hold of it
unfoldable pub precondition_text : List ℕ
precondition_text = precondition_field ++ precondition_test

-- the same, where something has to hold
abbrev pub required_text : Bool → List ℕ
required_text is_required = if is_required then precondition_text else []

-- the value of an invariant that was looked for
abbrev pub found_invariant : Source → Option ℕ → List ℕ
found_invariant s None = []
found_invariant s (Some value) = value_text (outside s) value

-- the value of the invariant at a place
abbrev pub value_of_invariant : Source → ℕ → List ℕ
value_of_invariant s place = found_invariant s (slice_get s.code.now.invariants.items place)

-- whether an invariant that was looked for is an actor's
abbrev pub is_invariant_by : ℕ → Option InvariantDecl → Bool
is_invariant_by actor None = false
is_invariant_by actor (Some i) = i.actor == actor

-- whether the invariant at a place is an actor's
abbrev pub is_invariant_of : Source → ℕ → ℕ → Bool
is_invariant_of s actor place = is_invariant_by actor (slice_get s.tree.now.value.invariants.items place)

-- the invariant at a place, if it is an actor's
abbrev pub invariant_at : Source → ℕ → Bool → ℕ → List ℕ
invariant_at s actor is_first place = if is_invariant_of s actor place then between is_first (codes "\n    invariant ") (codes " && ") ++ value_of_invariant s place else []

-- the invariants of an actor, behind that for preconditions if there is one
abbrev pub own_invariants : Source → ℕ → Bool → List ℕ
own_invariants s actor is_required = each_of (is_invariant_of s actor) (invariant_at s actor) (not is_required) (length s.tree.now.value.invariants.items)

-- whether nothing has to hold of an actor
abbrev pub has_none : Source → ℕ → Bool → Bool
has_none s actor is_required = not is_required && none_before (is_invariant_of s actor) (length s.tree.now.value.invariants.items)

-- the end of what has to hold, if something has
abbrev pub invariants_end : Bool → List ℕ
invariants_end is_none = if is_none then [] else codes ";"

-- what has to hold of an actor, with what was required in its methods
unfoldable pub invariants_text : Source → ℕ → Bool → List ℕ
invariants_text s actor is_required = required_text is_required ++ own_invariants s actor is_required ++ invariants_end (has_none s actor is_required)

-- the method that reads a field
unfoldable pub read_text : Source → FieldDecl → List ℕ
read_text s f = codes "\n    func " ++ field_name_text s f.name ++ codes "() { return " ++ field_name_text s f.name ++ codes "; }"

-- whether other actors read a field of an actor
abbrev pub is_read_by : FieldDecl → ℕ → Access → Bool
is_read_by f actor access.Open = (f.actor == actor) && f.is_var
is_read_by f actor access.Private = false

abbrev pub is_read : FieldDecl → ℕ → Bool
is_read f actor = is_read_by f actor f.access

-- the method that reads a field that was looked for, if other actors read that
abbrev pub read_by : Source → ℕ → Option FieldDecl → List ℕ
read_by s actor None = []
read_by s actor (Some f) = if is_read f actor then read_text s f else []

-- the method that reads the field at a place, if other actors read that
abbrev pub read_at : Source → ℕ → ℕ → List ℕ
read_at s actor place = read_by s actor (slice_get s.tree.now.value.fields.items place)

-- the methods that read the fields of an actor
abbrev pub reads_text : Source → ℕ → List ℕ
reads_text s actor = each (read_at s actor) (length s.tree.now.value.fields.items)

-- a method that was looked for, if it is an actor's
abbrev pub method_by : Source → ℕ → ℕ → Option MethodDecl → List ℕ
method_by s actor place None = []
method_by s actor place (Some m) = if m.actor == actor then method_text s place m else []

-- the method at a place, if it is an actor's
abbrev pub method_at : Source → ℕ → ℕ → List ℕ
method_at s actor place = method_by s actor place (slice_get s.tree.now.value.methods.items place)

-- the methods of an actor, in the order of the file
abbrev pub methods_text : Source → ℕ → List ℕ
methods_text s actor = each (method_at s actor) (length s.tree.now.value.methods.items)

-- the executor of an actor that was looked for, if it has one of its own
abbrev pub executor_by : Source → Option ActorDecl → List ℕ
executor_by s None = []
executor_by s (Some a) = if a.executor == 0 then [] else codes " on " ++ name_text s a.executor

-- the executor of an actor, if it has one of its own
abbrev pub executor_text : Source → ℕ → List ℕ
executor_text s actor = executor_by s (slice_get s.tree.now.value.actors.items actor)

-- what stands before the members of an actor
unfoldable pub actor_head : Source → ℕ → List ℕ
actor_head s actor = codes "\nactor " ++ instance_text s s.instance ++ executor_text s actor ++ codes " {"

-- the fields of an actor, and what has to hold of them
unfoldable pub opened_actor : Source → ℕ → List ℕ
opened_actor s actor = fields_text s actor ++ invariants_text s actor (has_requirement s actor false)

-- an instance, as an actor of its own: its fields, what has to hold of them, its methods, and those that read its fields
unfoldable pub actor_text : Source → ℕ → List ℕ
actor_text s actor = actor_head s actor ++ opened_actor s actor ++ methods_text s actor ++ reads_text s actor ++ codes "\n}\n"

-- an instance whose actor was looked for
abbrev pub own_actor_by : Source → ℕ → Option ℕ → List ℕ
own_actor_by s instance None = []
own_actor_by s instance (Some actor) = actor_text (of_instance s instance) actor

-- the instance at a place, if it is one of an actor
abbrev pub own_actor : Source → ℕ → List ℕ
own_actor s instance = own_actor_by s instance (actor_of s instance)

-- the instances of actors, each as an actor of its own
unfoldable pub actors_text : Source → List ℕ
actors_text s = each (own_actor s) (length s.tree.now.value.instances.items)

-- whether a unit is a closure in a method of an actor
abbrev pub is_closure_by : ℕ → ℕ → UnitKind → Bool
is_closure_by at actor (kinds.Method m) = false
is_closure_by at actor kinds.Closure = at == actor
is_closure_by at actor kinds.Main = false

abbrev pub is_closure_of : units.Unit → ℕ → Bool
is_closure_of u actor = is_closure_by u.actor actor u.kind

-- a unit that was looked for, if it is such a closure
abbrev pub closures_by : Source → ℕ → ℕ → Option units.Unit → List ℕ
closures_by s actor place None = []
closures_by s actor place (Some u) = if is_closure_of u actor then closure_method s place u else []

-- the unit at a place, if it is such a closure
abbrev pub closures_of : Source → ℕ → ℕ → List ℕ
closures_of s actor place = closures_by s actor place (slice_get s.code.now.units.items place)

-- the closures of an actor's methods
abbrev pub closures_text : Source → ℕ → List ℕ
closures_text s actor = each (closures_of s actor) (length s.code.now.units.items)

-- whether a method is a function outside of actors that runs as a method of its own
abbrev pub runs_alone : MethodDecl → Bool
runs_alone m = (m.actor == NONE) && m.is_async

-- a method that was looked for, if it is such a function
abbrev pub function_by : Source → ℕ → Option MethodDecl → List ℕ
function_by s place None = []
function_by s place (Some m) = if runs_alone m then method_text s place m else []

-- the method at a place, if it is such a function
abbrev pub function_at : Source → ℕ → List ℕ
function_at s place = function_by s place (slice_get s.tree.now.value.methods.items place)

-- the functions outside of actors that are `async`
abbrev pub functions_text : Source → List ℕ
functions_text s = each (function_at s) (length s.tree.now.value.methods.items)

-- the closures of an instance whose actor was looked for
abbrev pub own_closures_by : Source → ℕ → Option ℕ → List ℕ
own_closures_by s instance None = []
own_closures_by s instance (Some actor) = closures_text (of_instance s instance) actor

-- the closures of an instance's actor
abbrev pub own_closures : Source → ℕ → List ℕ
own_closures s instance = own_closures_by s instance (actor_of s instance)

-- the closures of all instances
abbrev pub all_closures : Source → List ℕ
all_closures s = each (own_closures s) (length s.tree.now.value.instances.items)

-- what has to hold of the pool, or of `main`: that no precondition has failed
abbrev pub requirement_text : Bool → List ℕ
requirement_text is_required = if is_required then precondition_text ++ codes ";" else []

-- whether there is a closure
unfoldable pub has_closure : Source → Bool
has_closure s = list_any (λ u. is_closure u.kind) s.code.now.units.items

-- whether there is a function outside of actors that is `async`
unfoldable pub has_function : Source → Bool
has_function s = list_any runs_alone s.tree.now.value.methods.items

-- whether something runs in the pool
abbrev pub has_pool : Source → Bool
has_pool s = has_closure s || has_function s

-- the methods of the pool: the closures of all instances, the functions, and the closures of `main`
unfoldable pub pool_methods : Source → List ℕ
pool_methods s = all_closures s ++ functions_text (of_instance s NONE) ++ closures_text (of_instance s NONE) NONE

-- the actor in which closures run, and functions outside of actors that are `async`
unfoldable pub pool_actor : Source → List ℕ
pool_actor s = codes "\n// Closures run here.\nactor Task {" ++ requirement_text (has_requirement s NONE true) ++ pool_methods s ++ codes "\n}\n"

-- the same, if there are some
unfoldable pub pool_text : Source → List ℕ
pool_text s = if has_pool s then pool_actor s else []

-- the field for a value that `main` prints
unfoldable pub printed_field : Source → ℕ → List ℕ
printed_field s place = codes "\n    var " ++ printed_text s place ++ codes " = 0;"

-- the fields for what `main` prints
abbrev pub printed_fields : Source → List ℕ
printed_fields s = each (printed_field s) (length s.code.now.printed.items)

-- what stands before the method of `main`
unfoldable pub main_head : Source → ℕ → List ℕ
main_head s name = codes "\nactor " ++ name_text s name ++ codes " {" ++ printed_fields s ++ requirement_text (has_requirement s NONE false)

-- the method of `main`
unfoldable pub main_method : Source → List ℕ
main_method s = lines_at s (length s.tree.now.value.methods.items) ++ codes "\n    func main" ++ rest_text s (length s.tree.now.value.methods.items)

-- the root task, which runs `main` of a type
unfoldable pub root_text : Source → ℕ → List ℕ
root_text s name = codes "}\nroot main = " ++ name_text s name ++ codes ".main();\n"

-- `main` of a type, and the root task, which runs it
unfoldable pub main_of : Source → ℕ → List ℕ
main_of s name = main_head s name ++ main_method s ++ root_text s name

-- the same of a `main` that was looked for
abbrev pub found_main : Source → Option MethodDecl → List ℕ
found_main s None = []
found_main s (Some m) = main_of (of_instance s NONE) m.name

-- `main`, as an actor with what it prints
unfoldable pub main_text : Source → List ℕ
main_text s = found_main s (slice_get s.tree.now.value.mains.items 0)
