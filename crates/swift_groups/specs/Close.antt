-- What closing a group gives (SE-0304).
use Rattle.std.specs.Prelude.{List, [], ◌∷◌}
use Rattle.swift_types.specs.declared.id.TaskId.{TaskId}
use Rattle.swift_groups.specs.declared.answer.Close.{Close}
use Rattle.swift_groups.specs.declared.answer.Close.TheVariants.{Done, Wait}
use Rattle.swift_groups.specs.declared.group.GroupStage.{GroupStage}
use Rattle.swift_groups.specs.declared.group.GroupStage.TheVariants.{Closing, Done as Ended}
use Rattle.swift_groups.specs.Groups.{GroupView, unfinished}

-- Of the unfinished children: `Wait` where there is one, and `Done` where there is none.
abbrev pub close_among : List TaskId → Close
close_among (t ∷ ts) = Wait
close_among [] = Done

-- What `close` answers of a group that is not done.
abbrev pub close_of : GroupView → Close
close_of g = close_among (unfinished g)

-- How far a group is after `close`, by its unfinished children.
abbrev pub stage_among : List TaskId → GroupStage
stage_among (t ∷ ts) = Closing
stage_among [] = Ended

-- The group after `close`.
abbrev pub closed_on : GroupView → GroupView
closed_on g = record g { stage = stage_among (unfinished g) }
