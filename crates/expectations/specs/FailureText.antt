-- What is said of an expectation that fails, as bytes (the format is our own).
use Rattle.std.specs.Prelude.{ℕ, ℤ, zero, suc, ◌==◌, ◌&&◌, Bool, false, if◌then◌else◌, Option, Some, None, List, [], ◌∷◌, ◌++◌, codes, slice_get}
use Rattle.std.specs.List.{list_any}
use Rattle.std.specs.Fmt.{signed_decimal}
use Rattle.swift_types.specs.declared.outcome.Ending.{Ending}
use Rattle.swift_events.specs.declared.life.Origin.{Origin}
use Rattle.script_code.specs.Tree.{Term, number, variable, field, local, priority, cancelled, opposite, denial, binary, term_of}
use Rattle.script_code.specs.Value.{number_at}
use Rattle.swift_script.specs.Scripts.{ScriptView, actor_name, field_name, root_count, root_name}
use Rattle.expectations.specs.declared.expectation.Expectation.{Expectation}
use Rattle.expectations.specs.declared.expectation.Expectation.TheVariants as expect
use Rattle.expectations.specs.declared.expectation.Verdict.{Verdict}
use Rattle.expectations.specs.declared.expectation.Verdict.TheVariants as verdict
use Rattle.expectations.specs.declared.reads.Read.{Read}
use Rattle.expectations.specs.declared.reads.Read.TheVariants as read
use Rattle.expectations.specs.Meaning.{has_value, row_of, value_in}

-- two are the same field, or the same root
abbrev pub same : Read → Read → Bool
same (read.Field a f) (read.Field b g) = a == b && f == g
same (read.Field a f) (read.Root s) = false
same (read.Root r) (read.Field b g) = false
same (read.Root r) (read.Root s) = r == s

-- one more after the others, unless it is among them
abbrev pub added : Read → List Read → List Read
added r rs = if list_any (same r) rs then rs else rs ++ r ∷ []

-- the fields and roots that an expression names, after others, each once
abbrev pub reads_after : List Read → Term → List Read
reads_after rs (number n) = rs
reads_after rs (variable root) = added (read.Root root) rs
reads_after rs (field p) = added (read.Field p.actor p.field) rs
reads_after rs (local l default) = rs
reads_after rs priority = rs
reads_after rs cancelled = rs
reads_after rs (opposite t) = reads_after rs t
reads_after rs (denial t) = reads_after rs t
reads_after rs (binary op a b) = reads_after (reads_after rs a) b

-- the roots among the first n that have not ended with a value
abbrev pub faulted : List (Origin × Ending) → ℕ → List Read
faulted endings zero = []
faulted endings (suc n) = if has_value endings n then faulted endings n else faulted endings n ++ read.Root n ∷ []

-- what an expectation reads: the fields and roots that it names, or the roots that have ended with a fault
abbrev pub reads_of : ScriptView → List (Origin × Ending) → Expectation → List Read
reads_of p endings (expect.Test said test) = reads_after [] (term_of test)
reads_of p endings expect.NoFault = faulted endings (root_count p)

-- the value that a root has ended with, or the word `fault`
abbrev pub root_text : Option ℤ → List ℕ
root_text None = codes "fault"
root_text (Some v) = signed_decimal v

-- the value that a task has ended with, if it is there and ended with one
abbrev pub value_at : Option (Origin × Ending) → Option ℤ
value_at None = None
value_at (Some t) = value_in t.1

-- a field or a root by its name, with its value
abbrev pub read_text : ScriptView → List (Origin × Ending) → List (List (List ℤ)) → Read → List ℕ
read_text p endings fields (read.Field a f) = actor_name p a ++ codes "." ++ field_name p a f ++ codes " " ++ signed_decimal (number_at (row_of p fields a) f)
read_text p endings fields (read.Root r) = root_name p r ++ codes " " ++ root_text (value_at (slice_get endings r))

-- one with a comma before it
abbrev pub next_text : ScriptView → List (Origin × Ending) → List (List (List ℤ)) → Read → List ℕ
next_text p endings fields r = codes ", " ++ read_text p endings fields r

-- each with a comma before it
abbrev pub more_text : ScriptView → List (Origin × Ending) → List (List (List ℤ)) → List Read → List ℕ
more_text p endings fields [] = []
more_text p endings fields (r ∷ rs) = next_text p endings fields r ++ more_text p endings fields rs

-- a line of them, where there are any
abbrev pub reads_text : ScriptView → List (Origin × Ending) → List (List (List ℤ)) → List Read → List ℕ
reads_text p endings fields [] = []
reads_text p endings fields (r ∷ rs) = codes "with " ++ read_text p endings fields r ++ more_text p endings fields rs ++ codes "\n"

-- an expectation: its text
abbrev pub said_text : Expectation → List ℕ
said_text (expect.Test said test) = said.items
said_text expect.NoFault = codes "no fault"

-- that a value on the way is too large
abbrev pub overflow_text : Verdict → List ℕ
overflow_text verdict.Holds = []
overflow_text verdict.IsFalse = []
overflow_text verdict.Overflows = codes "a value on the way leaves 64 bits\n"
overflow_text verdict.HasFault = []

-- An expectation that fails where the tasks have ended so: its text, and the values that it reads.
abbrev pub failure_text : ScriptView → List (Origin × Ending) → List (List (List ℤ)) → Expectation → Verdict → List ℕ
failure_text p endings fields e v = said_text e ++ codes "\n" ++ reads_text p endings fields (reads_of p endings e) ++ overflow_text v
