-- The text of the script that a Swift file becomes. (Our own.)
use Rattle.std.specs.Prelude.{ℕ, ℤ, ◌≡◌, ◌++◌, List, [], Option, Some, None, bytes_eq, codes, length, position, slice_get}
use Rattle.std.specs.Fmt.{signed_decimal}
use Rattle.swift_syntax.specs.declared.token.Token.{Token}
use Rattle.swift_syntax.specs.declared.tree.ExecutorDecl.{ExecutorDecl}
use Rattle.swift_syntax.specs.declared.tree.ExecutorKindDecl.{ExecutorKindDecl}
use Rattle.swift_syntax.specs.declared.tree.ExecutorKindDecl.TheVariants as executors
use Rattle.swift_syntax.specs.declared.tree.ExpectDecl.{ExpectDecl}
use Rattle.swift_syntax.specs.declared.tree.InstanceDecl.{InstanceDecl}
use Rattle.swift_syntax.specs.declared.tree.LocalDecl.{LocalDecl}
use Rattle.swift_syntax.specs.declared.tree.Tree.{Tree}
use Rattle.swift_expressions.specs.declared.code.Code.{Code}
use Rattle.swift_translation.specs.ActorTexts.{actors_text, each, main_text, outside, pool_text}
use Rattle.swift_translation.specs.Sources.{IsSourceOf, bytes_at}
use Rattle.swift_translation.specs.Starts.{literal_number, or_zero}
use Rattle.swift_translation.specs.ValueTexts.{bare_text, instance_text, name_text}
use Rattle.swift_translation.specs.declared.source.Source.{Source}

-- the kind of an executor, and the end of its line
abbrev pub kind_text : ExecutorKindDecl → List ℕ
kind_text executors.Fifo = codes " fifo;\n"
kind_text executors.Priority = codes " priority;\n"
kind_text (executors.Pinned number) = codes " pinned " ++ signed_decimal number ++ codes ";\n"

-- the kind of an executor class that was looked for
abbrev pub kind_by : Option ExecutorDecl → Option ExecutorKindDecl
kind_by None = None
kind_by (Some e) = Some e.kind

-- the place of the executor class that a token names
unfoldable pub executor_named : Source → ℕ → Option ℕ
executor_named s of = position (λ e. bytes_eq (bytes_at s e.name) (bytes_at s of)) s.tree.now.value.executors.items

-- the kind of the executor class at a place
unfoldable pub kind_at : Source → ℕ → Option ExecutorKindDecl
kind_at s place = kind_by (slice_get s.tree.now.value.executors.items place)

-- the same, at a place that was looked for
abbrev pub kind_found : Source → Option ℕ → Option ExecutorKindDecl
kind_found s None = None
kind_found s (Some place) = kind_at s place

-- the kind of the executor class that a token names, if it names one
abbrev pub kind_of : Source → ℕ → Option ExecutorKindDecl
kind_of s of = kind_found s (executor_named s of)

-- an executor
unfoldable pub executor_of : Source → ℕ → ExecutorKindDecl → List ℕ
executor_of s instance kind = codes "executor " ++ instance_text s instance ++ kind_text kind

-- an instance, if it is one of an executor class
abbrev pub executor_if : Source → ℕ → Option ExecutorKindDecl → List ℕ
executor_if s instance None = []
executor_if s instance (Some kind) = executor_of s instance kind

-- an instance that was looked for, if it is an executor
abbrev pub executor_by : Source → ℕ → Option InstanceDecl → List ℕ
executor_by s instance None = []
executor_by s instance (Some i) = executor_if s instance (kind_of s i.of)

-- the instance at a place, if it is an executor
abbrev pub executor_at : Source → ℕ → List ℕ
executor_at s instance = executor_by s instance (slice_get s.tree.now.value.instances.items instance)

-- the executors, in the order of the file
unfoldable pub executors_text : Source → List ℕ
executors_text s = each (executor_at s) (length s.tree.now.value.instances.items)

-- the number of a literal, or 0
abbrev pub literal_or_zero : Source → ℕ → ℤ
literal_or_zero s place = or_zero (literal_number s place)

-- a task local, with its default
unfoldable pub local_of : Source → LocalDecl → List ℕ
local_of s l = codes "local " ++ name_text s l.name ++ codes " = " ++ signed_decimal (literal_or_zero s l.value) ++ codes ";\n"

-- a task local that was looked for
abbrev pub local_by : Source → Option LocalDecl → List ℕ
local_by s None = []
local_by s (Some l) = local_of s l

-- the task local at a place
abbrev pub local_at : Source → ℕ → List ℕ
local_at s place = local_by s (slice_get s.tree.now.value.locals.items place)

-- the task locals, in the order of the file
unfoldable pub locals_text : Source → List ℕ
locals_text s = each (local_at s) (length s.tree.now.value.locals.items)

-- what is expected, in a comment
unfoldable pub expectation_of : Source → ℕ → List ℕ
expectation_of s value = codes "//: expect " ++ bare_text (outside s) value ++ codes "\n"

-- what is expected, where both it and its value were found
abbrev pub expectation_by : Source → Option ExpectDecl → Option ℕ → List ℕ
expectation_by s None value = []
expectation_by s (Some e) None = []
expectation_by s (Some e) (Some value) = expectation_of s value

-- what is expected at a place
abbrev pub expectation_at : Source → ℕ → List ℕ
expectation_at s place = expectation_by s (slice_get s.tree.now.value.expectations.items place) (slice_get s.code.now.expectations.items place)

-- what is expected of the end of each run
unfoldable pub expectations_text : Source → List ℕ
expectations_text s = each (expectation_at s) (length s.tree.now.value.expectations.items)

-- what stands before the actors: what is expected, the executors, and the task locals
unfoldable pub declared_text : Source → List ℕ
declared_text s = expectations_text s ++ executors_text s ++ locals_text s

-- a script: what stands before the actors, the actors, that of closures, and that of `main`
unfoldable pub script_text : Source → List ℕ
script_text s = declared_text s ++ actors_text s ++ pool_text s ++ main_text s

-- What is written of a text, its tokens, its tree and its instructions.
pub record IsWrittenOf (text : List ℕ) (tokens : List Token) (tree : Tree) (code : Code) (s : List ℕ) : Type 0 where
  pub source : Source
  pub from : IsSourceOf text tokens tree code source
  pub is : s ≡ script_text source
