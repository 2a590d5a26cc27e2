-- Calls, what is waited for, and tasks that are made. (Own.)
use Rattle.std.specs.Prelude.{◌++◌, ℕ, Bool, true, false, not, List, [], ◌∷◌, codes, bytes_eq, Option, Some, None}
use Rattle.std.specs.Fmt.{decimal}
use Rattle.std.specs.List.{list_any}
use Rattle.swift_types.specs.declared.priority.Priority.{Priority}
use Rattle.swift_types.specs.declared.priority.Priority.TheVariants as level
use Rattle.script_grammar.specs.Tree.{ExprTree, Number, Named, Local, OwnPriority, IsCancelled, Negated, Inverted, Both, CallTree, AwaitedTree, Called, TaskOf, NextOf, WaitTree, MakeTree, Spawned, Detached, AddTree, DeclTree}
use Rattle.plain_parts.specs.Expressions.{expr_bytes}
use Rattle.plain_parts.specs.Flow.{call_of}
use Rattle.plain_parts.specs.Names.{instance_name, method_name, pick}
use Rattle.plain_parts.specs.Names as names
use Rattle.plain_parts.specs.Pages.{indent, one_more}
use Rattle.swift_plain.specs.Places.{PlaceTree, value_name}
use Rattle.swift_plain.specs.Signatures.{call_throws, gives_number, task_throws}

-- the first of two texts where a flag says so, or else the second
abbrev pub either : Bool → List ℕ → List ℕ → List ℕ
either true v w = v
either false v w = w

-- the method that is called, behind the instance of its actor
abbrev pub called_text : List DeclTree → List ℕ → List ℕ → List ℕ
called_text ds a m = instance_name a ++ (codes "." ++ method_name ds a m)

-- a number as the file has it, with its names
abbrev pub number_text : List DeclTree → ExprTree → List ℕ
number_text ds e = expr_bytes (names.value_name ds) e 5

-- arguments behind others
abbrev pub more_arguments : List DeclTree → List ExprTree → List ℕ
more_arguments ds [] = []
more_arguments ds (e ∷ es) = codes ", " ++ (number_text ds e ++ more_arguments ds es)

-- all arguments
abbrev pub all_arguments : List DeclTree → List ExprTree → List ℕ
all_arguments ds [] = []
all_arguments ds (e ∷ es) = number_text ds e ++ more_arguments ds es

-- a call
abbrev pub call_text : PlaceTree → CallTree → List ℕ
call_text p c = called_text p.decls c.actor c.method ++ (codes "(" ++ (all_arguments p.decls c.args ++ codes ")"))

-- what is waited for
abbrev pub awaited_text : PlaceTree → AwaitedTree → List ℕ
awaited_text p (Called c) = call_text p c
awaited_text p (TaskOf w) = value_name p w ++ codes ".value"
awaited_text p (NextOf w) = value_name p w ++ codes ".next()"

-- whether what is waited for may end with an error
abbrev pub may_throw : PlaceTree → AwaitedTree → Bool
may_throw p (Called c) = call_throws p.throwers c
may_throw p (TaskOf w) = task_throws p.body p.throwers w
may_throw p (NextOf w) = p.group_throws

-- whether what is waited for gives a number
abbrev pub is_number : PlaceTree → AwaitedTree → Bool
is_number p (Called c) = gives_number p.decls c.actor c.method
is_number p (TaskOf w) = true
is_number p (NextOf w) = true

-- what stands before something that is waited for
abbrev pub awaiting : Bool → List ℕ
awaiting true = codes "try await "
awaiting false = codes "await "

-- what stands behind it: of a group's result a number in place of none
abbrev pub fallback : AwaitedTree → List ℕ
fallback (Called c) = []
fallback (TaskOf w) = []
fallback (NextOf w) = codes " ?? 0"

-- what is waited for, with a value in place of an error where there is one
abbrev pub waited_text : PlaceTree → AwaitedTree → Option ExprTree → List ℕ
waited_text p w None = awaiting (may_throw p w) ++ (awaited_text p w ++ fallback w)
waited_text p w (Some e) = codes "(try? await " ++ (awaited_text p w ++ (codes ") ?? " ++ expr_bytes (value_name p) e 0))

-- a wait as a number
abbrev pub wait_text : PlaceTree → WaitTree → List ℕ
wait_text p w = waited_text p w.for w.other

-- whether two names are one
abbrev pub is_named : List ℕ → List ℕ → Bool
is_named w v = bytes_eq v w

-- whether a name is among others
abbrev pub is_among : List (List ℕ) → List ℕ → Bool
is_among vs w = list_any (is_named w) vs

-- whether a name is a parameter of the method
abbrev pub is_param : PlaceTree → List ℕ → Bool
is_param p w = is_among p.params w

-- whether an argument of a task needs a name: it is no number, and no parameter
abbrev pub is_given : PlaceTree → ExprTree → Bool
is_given p (Number n) = false
is_given p (Named w) = not (is_param p w)
is_given p (Local w) = true
is_given p OwnPriority = true
is_given p IsCancelled = true
is_given p (Negated a) = true
is_given p (Inverted a) = true
is_given p (Both o a b) = true

-- the name that an argument of a task is given
abbrev pub given_name : ℕ → List ℕ
given_name n = codes "g_" ++ decimal n

-- the number of the last name, after that of an argument
abbrev pub after_argument : PlaceTree → ExprTree → ℕ → ℕ
after_argument p e g = pick (is_given p e) (one_more g) g

-- the number of the last name, after those of arguments
abbrev pub after_arguments : PlaceTree → List ExprTree → ℕ → ℕ
after_arguments p [] g = g
after_arguments p (e ∷ es) g = after_arguments p es (after_argument p e g)

-- the line that names an argument
abbrev pub name_line : PlaceTree → ℕ → ExprTree → ℕ → List ℕ
name_line p d e g = indent d ++ (codes "let " ++ (given_name (one_more g) ++ (codes " = " ++ (number_text p.decls e ++ codes "\n"))))

-- the same, where the argument needs a name
abbrev pub named_text : PlaceTree → ℕ → ExprTree → ℕ → List ℕ
named_text p d e g = either (is_given p e) (name_line p d e g) []

-- the lines that name the arguments of a task
abbrev pub all_named : PlaceTree → ℕ → List ExprTree → ℕ → List ℕ
all_named p d [] g = []
all_named p d (e ∷ es) g = named_text p d e g ++ all_named p d es (after_argument p e g)

-- an argument of a task: the name that it was given, or itself
abbrev pub task_argument : PlaceTree → ExprTree → ℕ → List ℕ
task_argument p e g = either (is_given p e) (given_name (one_more g)) (number_text p.decls e)

-- such arguments behind others
abbrev pub more_task_arguments : PlaceTree → List ExprTree → ℕ → List ℕ
more_task_arguments p [] g = []
more_task_arguments p (e ∷ es) g = codes ", " ++ (task_argument p e g ++ more_task_arguments p es (after_argument p e g))

-- all arguments of a task
abbrev pub task_arguments : PlaceTree → List ExprTree → ℕ → List ℕ
task_arguments p [] g = []
task_arguments p (e ∷ es) g = task_argument p e g ++ more_task_arguments p es (after_argument p e g)

-- the closure of a task, and the end of its line
abbrev pub closure_text : PlaceTree → CallTree → ℕ → List ℕ
closure_text p c g = codes " { " ++ (awaiting (call_throws p.throwers c) ++ (called_text p.decls c.actor c.method ++ (codes "(" ++ (task_arguments p c.args g ++ codes ") }\n"))))

-- the name of a priority
abbrev pub priority_text : Priority → List ℕ
priority_text level.Background = codes ".background"
priority_text level.Low = codes ".low"
priority_text level.Medium = codes ".medium"
priority_text level.High = codes ".high"

-- a priority that was given
unfoldable pub stated_priority : Priority → List ℕ
stated_priority q = codes "(priority: " ++ (priority_text q ++ codes ")")

-- the same, if one was
abbrev pub given_priority : Option Priority → List ℕ
given_priority None = []
given_priority (Some q) = stated_priority q

-- the priority of a detached task or a root, if it is not medium
abbrev pub given_of : Priority → Option Priority
given_of level.Background = Some level.Background
given_of level.Low = Some level.Low
given_of level.Medium = None
given_of level.High = Some level.High

-- a detached task, and the end of its line
unfoldable pub detached_text : PlaceTree → CallTree → Priority → ℕ → List ℕ
detached_text p c q g = codes "Task.detached" ++ (given_priority (given_of q) ++ closure_text p c g)

-- a task that is made, and the end of its line
abbrev pub make_text : PlaceTree → MakeTree → ℕ → List ℕ
make_text p (Spawned c q) g = codes "Task" ++ (given_priority q ++ closure_text p c g)
make_text p (Detached c q) g = detached_text p c q g

-- a child of a group, behind the lines that name its arguments
abbrev pub add_text : PlaceTree → ℕ → AddTree → ℕ → List ℕ
add_text p d a g = all_named p d a.call.args g ++ (indent d ++ (value_name p a.group ++ (codes ".addTask" ++ closure_text p a.call g)))

-- a task with a name, behind the lines that name its arguments
abbrev pub task_text : PlaceTree → ℕ → List ℕ → MakeTree → ℕ → List ℕ
task_text p d w m g = all_named p d (call_of m).args g ++ (indent d ++ (codes "let " ++ (value_name p w ++ (codes " = " ++ make_text p m g))))
