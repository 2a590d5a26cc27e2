-- In what two outcomes differ, as bytes (the format is our own).
use Rattle.std.specs.Prelude.{ℕ, ◌-◌, ◌==◌, Bool, List, [], ◌∷◌, ◌++◌, codes, count_by, decimal, drop, length, take}
use Rattle.swift_script.specs.Scripts.{ScriptView}
use Rattle.swift_explorer.specs.declared.outcome.RunOutcome.{RunOutcome}
use Rattle.swift_explorer.specs.FoundText.{ended_text, many_text, schedule_text}
use Rattle.explorer_differences.specs.Words.{shared_words}
use Rattle.explorer_differences.specs.Lines.{after_line, after_lines, lines_difference}
use Rattle.explorer_differences.specs.Names.{names_difference, names_of}

abbrev pub is_space : ℕ → Bool
is_space b = b == 32

-- for how many steps two schedules agree, each of which has a space before it
abbrev pub many_steps_text : List ℕ → List ℕ
many_steps_text steps = codes "the schedules agree for " ++ many_text (count_by is_space steps) (codes "step") (codes "steps")

-- the steps for which they do
abbrev pub shared_text : List ℕ → List ℕ
shared_text steps = many_steps_text steps ++ codes ":" ++ steps ++ codes "\n"

-- the steps that two schedules begin with, if any
abbrev pub agreement_text : List ℕ → List ℕ
agreement_text [] = codes "the schedules part at the first step\n"
agreement_text (b ∷ bs) = shared_text (b ∷ bs)

-- the steps that the schedule of outcome n goes on with
abbrev pub then_text : ℕ → List ℕ → List ℕ
then_text n steps = codes "then " ++ decimal n ++ codes ":" ++ steps

-- Up to where the lines of the schedules of outcomes a and b agree, and how each goes on. A line begins with a word of 8 bytes, `schedule`.
abbrev pub steps_difference : ℕ → ℕ → List ℕ → List ℕ → List ℕ
steps_difference a b x y =
    agreement_text (drop 8 (take (shared_words x y 0 0) x)) ++ then_text a (drop (shared_words x y 0 0) x) ++ then_text b (drop (shared_words x y 0 0) y)

-- the lines of fields, in a text that has those of n tasks before them, and a line before these
abbrev pub fields_of : ℕ → List ℕ → List ℕ
fields_of n text = after_lines n (after_line text)

-- the lines before these
abbrev pub tasks_of : ℕ → List ℕ → List ℕ
tasks_of n text = take (length text - length (fields_of n text)) text

-- which of the m tasks of outcome a and the n tasks of outcome b end otherwise, and which fields have other values
abbrev pub ended_difference : ℕ → ℕ → List ℕ → List ℕ → ℕ → ℕ → List ℕ
ended_difference a b x y m n = lines_difference a b (tasks_of m x) (tasks_of n y) ++ lines_difference a b (fields_of m x) (fields_of n y)

-- the same of two outcomes
abbrev pub ends_difference : ScriptView → ℕ → ℕ → RunOutcome → RunOutcome → List ℕ
ends_difference p a b o q = ended_difference a b (ended_text p o) (ended_text p q) (length o.endings.items) (length q.endings.items)

-- In what outcomes a and b differ: where their schedules part, how tasks end, and the values of fields. Steps, tasks and fields are told as in
-- the list of outcomes. Below the steps stands what the tasks are called.
abbrev pub difference_text : ScriptView → ℕ → ℕ → RunOutcome → RunOutcome → List ℕ
difference_text p a b o q =
    steps_difference a b (schedule_text o.schedule.items) (schedule_text q.schedule.items)
    ++ names_difference a b (names_of p o) (names_of p q)
    ++ ends_difference p a b o q
