-- Faults, resumes and exits as they are stored. Only proofs use these.
use Rattle.std.specs.Prelude.{◌≡◌, ℕ, ℤ, pos, Option, Some, None, List, [], ◌∷◌, take, drop, length}
use Rattle.swift_types.specs.declared.outcome.Fault.{Fault}
use Rattle.swift_types.specs.declared.outcome.Fault.TheVariants as fault
use Rattle.swift_types.specs.declared.outcome.Resume.{Resume}
use Rattle.swift_types.specs.declared.outcome.Resume.TheVariants as resume
use Rattle.swift_interpreter.specs.Turn.{ExitView, InvocationView, calling, waiting, asking_next, closing, yielding, returning, failing}
use Rattle.swift_interpreter.specs.declared.effect.TaskName.TheVariants as name
use Rattle.swift_interpreter.specs.declared.exit.Exit.{Exit}
use Rattle.swift_interpreter.specs.declared.exit.Exit.TheVariants as exit
use Rattle.swift_journal.specs.Words.{first_word, narrowed, number_at}
use Rattle.swift_journal.specs.declared.stored.StoredFault.{StoredFault}
use Rattle.swift_journal.specs.declared.stored.StoredFault.TheVariants as kind
use Rattle.swift_journal.specs.declared.stored.StoredResume.{StoredResume}
use Rattle.swift_journal.specs.declared.stored.StoredResume.TheVariants as start
use Rattle.swift_journal.specs.declared.stored.StoredExit.{StoredExit}
use Rattle.swift_journal.specs.declared.stored.StoredExit.TheVariants as end

-- the fault of a kind, with the value that a throw has; where there is none, it is not asked
abbrev pub fault_of : StoredFault → ℤ → Fault
fault_of kind.Absent v = fault.Cancelled
fault_of kind.Thrown v = fault.Thrown v
fault_of kind.Cancelled v = fault.Cancelled
fault_of kind.Invariant v = fault.Invariant
fault_of kind.Overflow v = fault.Overflow
fault_of kind.Steps v = fault.Steps
fault_of kind.Turns v = fault.Turns
fault_of kind.Depth v = fault.Depth
fault_of kind.Tasks v = fault.Tasks
fault_of kind.Empty v = fault.Empty
fault_of kind.Isolation v = fault.Isolation

abbrev pub fault_kind : Fault → StoredFault
fault_kind (fault.Thrown v) = kind.Thrown
fault_kind fault.Cancelled = kind.Cancelled
fault_kind fault.Invariant = kind.Invariant
fault_kind fault.Overflow = kind.Overflow
fault_kind fault.Steps = kind.Steps
fault_kind fault.Turns = kind.Turns
fault_kind fault.Depth = kind.Depth
fault_kind fault.Tasks = kind.Tasks
fault_kind fault.Empty = kind.Empty
fault_kind fault.Isolation = kind.Isolation

abbrev pub fault_words : Fault → List ℤ
fault_words (fault.Thrown v) = v ∷ []
fault_words _ = []

abbrev pub fault_size : StoredFault → ℕ
fault_size kind.Thrown = 1
fault_size _ = 0

-- a fault that may be pending, of its stored kind and its words
abbrev pub pending_of : StoredFault → List ℤ → Option Fault
pending_of kind.Absent ws = None
pending_of k ws = Some (fault_of k (first_word ws))

abbrev pub pending_kind : Option Fault → StoredFault
pending_kind None = kind.Absent
pending_kind (Some f) = fault_kind f

abbrev pub pending_words : Option Fault → List ℤ
pending_words None = []
pending_words (Some f) = fault_words f

abbrev pub skip_pending : StoredFault → List ℤ → List ℤ
skip_pending k ws = drop (fault_size k) ws

-- what a turn begins with, of its stored kind and its words
abbrev pub resume_of : StoredResume → List ℤ → Resume
resume_of start.Start ws = resume.Start
resume_of start.Go ws = resume.Go
resume_of start.Value ws = resume.Value (first_word ws)
resume_of (start.Fault k) ws = resume.Fault (fault_of k (first_word ws))

abbrev pub resume_kind : Resume → StoredResume
resume_kind resume.Start = start.Start
resume_kind resume.Go = start.Go
resume_kind (resume.Value v) = start.Value
resume_kind (resume.Fault f) = start.Fault (fault_kind f)

abbrev pub resume_words : Resume → List ℤ
resume_words (resume.Value v) = v ∷ []
resume_words (resume.Fault f) = fault_words f
resume_words _ = []

abbrev pub resume_size : StoredResume → ℕ
resume_size start.Value = 1
resume_size (start.Fault k) = fault_size k
resume_size _ = 0

abbrev pub skip_resume : StoredResume → List ℤ → List ℤ
skip_resume k ws = drop (resume_size k) ws

-- what is called, with its arguments
abbrev pub call_of : List ℤ → InvocationView
call_of ws = record { actor = number_at ws 0; method = number_at ws 1; args = take (number_at ws 2) (drop 3 ws) }

-- how a turn ends, of its stored kind and its words
abbrev pub exit_of : StoredExit → List ℤ → ExitView
exit_of end.Call ws = calling (call_of ws)
exit_of end.Root ws = waiting (name.Root (record { 0 = number_at ws 0 }))
exit_of end.Own ws = waiting (name.Own (number_at ws 0))
exit_of end.Next ws = asking_next (number_at ws 0)
exit_of (end.Close k) ws = closing (number_at ws 0) (pending_of k (drop 1 ws))
exit_of end.Yield ws = yielding
exit_of end.Return ws = returning (first_word ws)
exit_of (end.Fault k) ws = failing (fault_of k (first_word ws))

abbrev pub exit_kind : Exit → StoredExit
exit_kind (exit.Call i) = end.Call
exit_kind (exit.Wait (name.Root r)) = end.Root
exit_kind (exit.Wait (name.Own n)) = end.Own
exit_kind (exit.Next g) = end.Next
exit_kind (exit.Close g f) = end.Close (pending_kind f)
exit_kind exit.Yield = end.Yield
exit_kind (exit.Return v) = end.Return
exit_kind (exit.Fault f) = end.Fault (fault_kind f)

abbrev pub exit_words : Exit → List ℤ
exit_words (exit.Call i) = pos i.actor.0 ∷ pos i.method.0 ∷ pos (length i.args.items) ∷ i.args.items
exit_words (exit.Wait (name.Root r)) = pos r.0 ∷ []
exit_words (exit.Wait (name.Own n)) = pos n ∷ []
exit_words (exit.Next g) = pos g ∷ []
exit_words (exit.Close g f) = pos g ∷ pending_words f
exit_words exit.Yield = []
exit_words (exit.Return v) = v ∷ []
exit_words (exit.Fault f) = fault_words f

-- the numbers that are written of how a turn ends have 32 bits
abbrev pub IsNarrowExit : Exit → Type 0
IsNarrowExit (exit.Call i) = (narrowed (pos i.actor.0) ≡ i.actor.0) × (narrowed (pos i.method.0) ≡ i.method.0) × (narrowed (pos (length i.args.items)) ≡ length i.args.items)
IsNarrowExit (exit.Wait (name.Root r)) = narrowed (pos r.0) ≡ r.0
IsNarrowExit (exit.Wait (name.Own n)) = narrowed (pos n) ≡ n
IsNarrowExit (exit.Next g) = narrowed (pos g) ≡ g
IsNarrowExit (exit.Close g f) = narrowed (pos g) ≡ g
IsNarrowExit exit.Yield = Unit {0}
IsNarrowExit (exit.Return v) = Unit {0}
IsNarrowExit (exit.Fault f) = Unit {0}

abbrev pub skip_exit : StoredExit → List ℤ → List ℤ
skip_exit end.Call ws = drop (number_at ws 2) (drop 3 ws)
skip_exit end.Root ws = drop 1 ws
skip_exit end.Own ws = drop 1 ws
skip_exit end.Next ws = drop 1 ws
skip_exit (end.Close k) ws = skip_pending k (drop 1 ws)
skip_exit end.Yield ws = ws
skip_exit end.Return ws = drop 1 ws
skip_exit (end.Fault k) ws = drop (fault_size k) ws
