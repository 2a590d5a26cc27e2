-- What an expectation says of how a run has ended (our own).
use Rattle.std.specs.Prelude.{ℕ, ℤ, pos, zero, suc, ◌==◌, ◌&&◌, Bool, true, false, if◌then◌else◌, Option, Some, None, List, [], ◌∷◌, ◌++◌, map, slice_get, unwrap_or}
use Rattle.swift_types.specs.declared.outcome.Ending.{Ending}
use Rattle.swift_types.specs.declared.outcome.Ending.TheVariants.{Value, Fault}
use Rattle.swift_types.specs.declared.priority.Priority.TheVariants.{Background}
use Rattle.swift_events.specs.declared.life.Origin.{Origin}
use Rattle.script_code.specs.Tree.{Term, number, variable, field, local, priority, cancelled, opposite, denial, binary, term_of}
use Rattle.script_code.specs.Value.{Scene, ev, is_zero}
use Rattle.swift_script.specs.Scripts.{ScriptView, actor_count, actor_executor, executor_actors, root_count}
use Rattle.expectations.specs.declared.expectation.Expectation.{Expectation}
use Rattle.expectations.specs.declared.expectation.Expectation.TheVariants as expect
use Rattle.expectations.specs.declared.expectation.Verdict.{Verdict}
use Rattle.expectations.specs.declared.expectation.Verdict.TheVariants as verdict

-- the value that a task has ended with, if it ended with one
abbrev pub value_in : Ending → Option ℤ
value_in (Value v) = Some v
value_in (Fault f) = None

-- the number that a task has ended with; 0 where it ended with a fault
abbrev pub number_in : Origin × Ending → ℤ
number_in t = unwrap_or (value_in t.1) (pos 0)

-- a task has ended with a value
abbrev pub is_value : Option (Origin × Ending) → Bool
is_value None = false
is_value (Some t) = is_value_of (value_in t.1)
  where
    is_value_of : Option ℤ → Bool
    is_value_of None = false
    is_value_of (Some v) = true

-- the root of this number has ended with a value: it has the task of the same number
abbrev pub has_value : List (Origin × Ending) → ℕ → Bool
has_value endings root = is_value (slice_get endings root)

-- each root that an expression names has ended with a value
abbrev pub have_values : List (Origin × Ending) → Term → Bool
have_values endings (number n) = true
have_values endings (variable root) = has_value endings root
have_values endings (field p) = true
have_values endings (local l default) = true
have_values endings priority = true
have_values endings cancelled = true
have_values endings (opposite t) = have_values endings t
have_values endings (denial t) = have_values endings t
have_values endings (binary op a b) = have_values endings a && have_values endings b

-- each of the first n roots has ended with a value
abbrev pub first_have_values : List (Origin × Ending) → ℕ → Bool
first_have_values endings zero = true
first_have_values endings (suc n) = first_have_values endings n && has_value endings n

-- the fields of an actor, among those of the actors of its executor
abbrev pub row_among : List ℕ → List (List ℤ) → ℕ → List ℤ
row_among [] rows actor = []
row_among (a ∷ actors) [] actor = []
row_among (a ∷ actors) (row ∷ rows) actor = if a == actor then row else row_among actors rows actor

-- the fields of an actor, where those of the actors of each executor are given
abbrev pub row_of : ScriptView → List (List (List ℤ)) → ℕ → List ℤ
row_of p fields actor = row_among (executor_actors p (actor_executor p actor)) (unwrap_or (slice_get fields (actor_executor p actor)) []) actor

-- the fields of each of the first n actors, in text order
abbrev pub first_rows : ScriptView → List (List (List ℤ)) → ℕ → List (List ℤ)
first_rows p fields zero = []
first_rows p fields (suc n) = first_rows p fields n ++ row_of p fields n ∷ []

-- what an expression is read against that sees these variables and the fields of these actors alone
abbrev pub scene_of : List ℤ → List (List ℤ) → Scene
scene_of variables rows = record { variables = variables; fields = rows; bindings = []; env = record { priority = Background; cancelled = false; room = 0 } }

-- What an expectation is read against: in its expression a variable is a root, and stands for the value that this has ended with, and a
-- field is one of all actors of the script, which are numbered in text order.
abbrev pub end_scene : ScriptView → List (Origin × Ending) → List (List (List ℤ)) → Scene
end_scene p endings fields = scene_of (map number_in endings) (first_rows p fields (actor_count p))

-- what a value says: a number other than 0 that it is so
abbrev pub verdict_on : Option ℤ → Verdict
verdict_on None = verdict.Overflows
verdict_on (Some v) = if is_zero v then verdict.IsFalse else verdict.Holds

-- an expression, where each root that it names has ended with a value
abbrev pub judged : Term → List (Origin × Ending) → Scene → Verdict
judged t endings scene = if have_values endings t then verdict_on (ev t scene) else verdict.HasFault

-- What comes of an expectation where the tasks have ended so, and the fields of the actors of each executor are these: an expression
-- holds where its value is a number other than 0. It does not where a value on the way leaves 64 bits, nor where a root that it names has
-- ended with a fault.
abbrev pub verdict_of : ScriptView → List (Origin × Ending) → List (List (List ℤ)) → Expectation → Verdict
verdict_of p endings fields (expect.Test said test) = judged (term_of test) endings (end_scene p endings fields)
verdict_of p endings fields expect.NoFault = if first_have_values endings (root_count p) then verdict.Holds else verdict.HasFault
