-- Whole files: actors, the errors that are thrown, instances, and `main`. (Own.)
use Rattle.std.specs.Prelude.{◌++◌, ℕ, ℤ, pos, Bool, true, false, List, [], ◌∷◌, codes, int_lt}
use Rattle.std.specs.Fmt.{signed_decimal}
use Rattle.script_grammar.specs.Tree.{DeclTree, Executes, Binds, Acts, Roots, RootTree}
use Rattle.plain_parts.specs.Names.{pick, value_name}
use Rattle.plain_parts.specs.Pages.{one_more}
use Rattle.swift_plain.specs.Actors.{actor_text, instance_text}
use Rattle.swift_plain.specs.Calls.{awaiting, called_text, either, given_name, given_of, given_priority}
use Rattle.swift_plain.specs.Failures.{failures_text}
use Rattle.swift_plain.specs.Signatures.{ThrowerTree, gives_number, method_throws}

-- the actor of a declaration, if it is one
abbrev pub declared_text : List DeclTree → List ThrowerTree → DeclTree → List ℕ
declared_text ds ts (Executes x) = []
declared_text ds ts (Binds l) = []
declared_text ds ts (Acts a) = actor_text ds ts a
declared_text ds ts (Roots r) = []

-- all actors
abbrev pub actors_text : List DeclTree → List ThrowerTree → List DeclTree → List ℕ
actors_text ds ts [] = []
actors_text ds ts (x ∷ xs) = declared_text ds ts x ++ actors_text ds ts xs

-- the instance of a declaration's actor, if it is one
abbrev pub instance_of : DeclTree → List ℕ
instance_of (Executes x) = []
instance_of (Binds l) = []
instance_of (Acts a) = instance_text a.name
instance_of (Roots r) = []

-- all instances
abbrev pub instances_text : List DeclTree → List ℕ
instances_text [] = []
instances_text (x ∷ xs) = instance_of x ++ instances_text xs

-- the number of the last name that was given, after an argument of a root: one below 0 needs a name
abbrev pub after_number : ℤ → ℕ → ℕ
after_number n g = pick (int_lt n (pos 0)) (one_more g) g

-- the same after arguments
abbrev pub after_numbers : List ℤ → ℕ → ℕ
after_numbers [] g = g
after_numbers (n ∷ ns) g = after_numbers ns (after_number n g)

-- what an argument is, and the end of its line
unfoldable pub number_text : ℤ → List ℕ
number_text n = codes " = " ++ (signed_decimal n ++ codes "\n")

-- the line that names an argument
unfoldable pub number_line : ℤ → ℕ → List ℕ
number_line n g = codes "        let " ++ (given_name (one_more g) ++ number_text n)

-- the same, where it needs a name
abbrev pub named_number : ℤ → ℕ → List ℕ
named_number n g = either (int_lt n (pos 0)) (number_line n g) []

-- the lines that name arguments
abbrev pub named_numbers : List ℤ → ℕ → List ℕ
named_numbers [] g = []
named_numbers (n ∷ ns) g = named_number n g ++ named_numbers ns (after_number n g)

-- an argument of a root: the name that it was given, or itself
abbrev pub root_argument : ℤ → ℕ → List ℕ
root_argument n g = either (int_lt n (pos 0)) (given_name (one_more g)) (signed_decimal n)

-- arguments behind others
abbrev pub more_root_arguments : List ℤ → ℕ → List ℕ
more_root_arguments [] g = []
more_root_arguments (n ∷ ns) g = codes ", " ++ (root_argument n g ++ more_root_arguments ns (after_number n g))

-- all arguments of a root
abbrev pub root_arguments : List ℤ → ℕ → List ℕ
root_arguments [] g = []
root_arguments (n ∷ ns) g = root_argument n g ++ more_root_arguments ns (after_number n g)

-- the line that makes the task of a root
unfoldable pub task_text : List DeclTree → List ThrowerTree → RootTree → ℕ → List ℕ
task_text ds ts r g = codes "        let " ++ (value_name ds r.name ++ (codes " = Task" ++ (given_priority (given_of r.priority) ++ (codes " { " ++ (awaiting (method_throws ts r.actor r.method) ++ (called_text ds r.actor r.method ++ (codes "(" ++ (root_arguments r.args g ++ codes ") }\n"))))))))

-- a root: the lines that name its arguments, and its task
unfoldable pub root_text : List DeclTree → List ThrowerTree → RootTree → ℕ → List ℕ
root_text ds ts r g = named_numbers r.args g ++ task_text ds ts r g

-- all roots
abbrev pub roots_text : List DeclTree → List ThrowerTree → List DeclTree → ℕ → List ℕ
roots_text ds ts [] g = []
roots_text ds ts (Executes x ∷ xs) g = roots_text ds ts xs g
roots_text ds ts (Binds l ∷ xs) g = roots_text ds ts xs g
roots_text ds ts (Acts a ∷ xs) g = roots_text ds ts xs g
roots_text ds ts (Roots r ∷ xs) g = root_text ds ts r g ++ roots_text ds ts xs (after_numbers r.args g)

-- what stands before a root that is waited for: its number and its error are let go
abbrev pub letting_go : Bool → Bool → List ℕ
letting_go true n = codes "        _ = try? await "
letting_go false true = codes "        _ = await "
letting_go false false = codes "        await "

-- the line that waits for a root
abbrev pub wait_text : List DeclTree → List ThrowerTree → RootTree → List ℕ
wait_text ds ts r = letting_go (method_throws ts r.actor r.method) (gives_number ds r.actor r.method) ++ (value_name ds r.name ++ codes ".value\n")

-- the same for a declaration, if it is a root
abbrev pub waited_text : List DeclTree → List ThrowerTree → DeclTree → List ℕ
waited_text ds ts (Executes x) = []
waited_text ds ts (Binds l) = []
waited_text ds ts (Acts a) = []
waited_text ds ts (Roots r) = wait_text ds ts r

-- for all declarations
abbrev pub waits_text : List DeclTree → List ThrowerTree → List DeclTree → List ℕ
waits_text ds ts [] = []
waits_text ds ts (x ∷ xs) = waited_text ds ts x ++ waits_text ds ts xs

-- The program makes all roots before it waits for the first one.
unfoldable pub main_text : List DeclTree → List ThrowerTree → List ℕ
main_text ds ts = codes "\n@main\nstruct Main {\n    static func main() async {\n" ++ (roots_text ds ts ds 0 ++ (waits_text ds ts ds ++ codes "    }\n}\n"))

-- the whole file of a script, of whose methods these throw
abbrev pub file_text : List DeclTree → List ThrowerTree → List ℕ
file_text ds ts = actors_text ds ts ds ++ (failures_text ds ++ (instances_text ds ++ main_text ds ts))
