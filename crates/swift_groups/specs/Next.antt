-- What a wait for the next result gives (SE-0304).
use Rattle.std.specs.Prelude.{ℕ, ◌+◌, List, [], ◌∷◌}
use Rattle.swift_types.specs.declared.id.TaskId.{TaskId}
use Rattle.swift_types.specs.declared.outcome.Ending.{Ending}
use Rattle.swift_groups.specs.declared.answer.NextResult.{NextResult}
use Rattle.swift_groups.specs.declared.answer.NextResult.TheVariants.{Result, Wait, Empty}
use Rattle.swift_groups.specs.Groups.{GroupView, waiting, unfinished}

-- Of the endings that were not handed out and of the unfinished children: the first such ending; where there is none,
-- `Wait` if a child is unfinished, and `Empty` if none is.
abbrev pub next_among : List (TaskId × Ending) → List TaskId → NextResult
next_among (e ∷ es) ts = Result e.0 e.1
next_among [] (t ∷ ts) = Wait
next_among [] [] = Empty

-- What `next` answers of a group that is open.
abbrev pub next_of : GroupView → NextResult
next_of g = next_among (waiting g) (unfinished g)

-- How many were handed out, after one more was where there is one.
abbrev pub handed_after : List (TaskId × Ending) → ℕ → ℕ
handed_after (e ∷ es) n = n + 1
handed_after [] n = n

-- The group after `next`.
abbrev pub handed_on : GroupView → GroupView
handed_on g = record g { handed = handed_after (waiting g) g.handed }
