-- The replay of a journal, and when a journal is lawful (SE-0392 for executors that run one job at a time; the rest is our
-- own).
use Rattle.std.specs.Prelude.{◌≡◌, ℕ, ℤ, IsTrue, Option, Some, None, List, [], ◌∷◌, ◌++◌, Contains}
use Rattle.script_code.specs.Tree.{Term}
use Rattle.script_code.specs.Value.{holds}
use Rattle.swift_script.specs.Scripts.{ScriptView, actor_executor, executor_invariants, method_actor}
use Rattle.swift_interpreter.specs.Frames.{FrameView}
use Rattle.swift_interpreter.specs.Turn.{TurnStateView, ExitView, returning, failing, Played}
use Rattle.swift_turn.specs.Body.{kept_turn, state_at}
use Rattle.swift_journal.specs.Records.{RecordView}

-- the kept turn of a record's frame, on these fields of its executor's actors
abbrev pub turn_of : ScriptView → List (List ℤ) → RecordView → Played
turn_of script fields r = kept_turn script r.frame r.outer fields r.resume r.env

-- the fields after a record's turn
abbrev pub fields_after : ScriptView → List (List ℤ) → RecordView → List (List ℤ)
fields_after script fields r = (turn_of script fields r).state.fields

-- what replaying records on one thread gives, from these fields on
abbrev pub replay : ScriptView → List (List ℤ) → List RecordView → List (List ℤ)
replay script fields [] = fields
replay script fields (r ∷ rs) = replay script (fields_after script fields r) rs

-- there is a frame of this method, which stands for what a turn leaves to do
abbrev pub StandsFor : ScriptView → ℕ → TurnStateView → Option FrameView → Type 0
StandsFor script method s None = ⊥
StandsFor script method s (Some p) = (p.method ≡ method) × (state_at script p s.fields s.effects s.room ≡ s)

-- the frame after a turn that ends so: none where it was left, else the frame as the turn leaves it
abbrev pub IsAfter : ScriptView → ℕ → TurnStateView → ExitView → Option FrameView → Type 0
IsAfter script method s (returning v) after = after ≡ None
IsAfter script method s (failing f) after = after ≡ None
IsAfter script method s _ after = StandsFor script method s after

-- A record's exit, effects and frame after the turn are those of the kept turn. This does not say that its frame is the one which the
-- task's turn before it left.
pub record IsLawfulRecord (script : ScriptView) (fields : List (List ℤ)) (r : RecordView) : Type 0 where
  pub exit : r.exit ≡ (turn_of script fields r).exit
  pub effects : r.effects ≡ (turn_of script fields r).state.effects
  pub after : IsAfter script r.frame.method (turn_of script fields r).state r.exit r.after

-- Each record is lawful on the fields that those before it give.
abbrev pub AreLawful : ScriptView → List (List ℤ) → List RecordView → Type 0
AreLawful script fields [] = Unit {0}
AreLawful script fields (r ∷ rs) = IsLawfulRecord script fields r × (AreLawful script (fields_after script fields r) rs)

-- the frame of each record is one of an actor of this executor
abbrev pub RunOn : ScriptView → ℕ → List RecordView → Type 0
RunOn script executor [] = Unit {0}
RunOn script executor (r ∷ rs) = (actor_executor script (method_actor script r.frame.method) ≡ executor) × RunOn script executor rs

-- A lawful journal that gains a lawful record is lawful, and its replay is that of the record's turn.
pub record LawfulGrows (script : ScriptView) (fields : List (List ℤ)) (rs : List RecordView) (r : RecordView) : Type 0 where
  pub lawful : AreLawful script fields rs → IsLawfulRecord script (replay script fields rs) r → AreLawful script fields (rs ++ r ∷ [])
  pub replayed : replay script fields (rs ++ r ∷ []) ≡ fields_after script (replay script fields rs) r

-- An invariant of an executor's actors that holds of their fields holds after the turns of records of that executor.
abbrev pub InvariantsStay : Type 0
InvariantsStay = (script : ScriptView) (executor : ℕ) (fields : List (List ℤ)) (rs : List RecordView) (t : Term) →
    RunOn script executor rs → Contains (executor_invariants script executor) t → IsTrue (holds (Some t) fields) → IsTrue (holds (Some t) (replay script fields rs))
