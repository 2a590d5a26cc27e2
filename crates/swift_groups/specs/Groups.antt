-- Groups of child tasks, as callers see them (SE-0304).
use Rattle.std.specs.Prelude.{ℕ, Bool, true, false, not, ◌==◌, List, [], ◌∷◌, ◌++◌, drop}
use Rattle.std.specs.List.{list_any, filter}
use Rattle.swift_types.specs.declared.id.TaskId.{TaskId}
use Rattle.swift_types.specs.declared.outcome.Ending.{Ending}
use Rattle.swift_groups.specs.declared.group.GroupStage.{GroupStage}
use Rattle.swift_groups.specs.declared.group.GroupStage.TheVariants.{Open}

-- A group: the task that opened it, the children added, those that ended with their endings, in order of ending, how
-- many of these were handed out, whether it was cancelled, and how far it is.
pub record GroupView : Type 0 where
  pub owner : TaskId
  pub added : List TaskId
  pub ended : List (TaskId × Ending)
  pub handed : ℕ
  pub cancelled : Bool
  pub stage : GroupStage

-- All groups in order of opening, and how many more calls of `open` and `add` find memory for sure.
pub record GroupsView : Type 0 where
  pub groups : List GroupView
  pub reserved : ℕ

-- Whether the task is among these children.
abbrev pub is_among : List TaskId → TaskId → Bool
is_among added t = list_any (λ u. u.0 == t.0) added

-- Whether the task is among those that ended.
abbrev pub has_ended : List (TaskId × Ending) → TaskId → Bool
has_ended ended t = list_any (λ e. e.0.0 == t.0) ended

-- Those of the children that are not among those that ended.
abbrev pub unfinished_of : List TaskId → List (TaskId × Ending) → List TaskId
unfinished_of added ended = filter (λ t. not (has_ended ended t)) added

-- The group's children that have not ended.
abbrev pub unfinished : GroupView → List TaskId
unfinished g = unfinished_of g.added g.ended

-- The endings that were not handed out, in order of ending.
abbrev pub waiting : GroupView → List (TaskId × Ending)
waiting g = drop g.handed g.ended

-- A group as it is opened.
abbrev pub opened_by : TaskId → GroupView
opened_by owner = record { owner = owner; added = []; ended = []; handed = 0; cancelled = false; stage = Open }

-- The group with one more child.
abbrev pub with_child : TaskId → GroupView → GroupView
with_child t g = record g { added = g.added ++ t ∷ [] }

-- The group with one more child that ended.
abbrev pub with_ending : TaskId → Ending → GroupView → GroupView
with_ending t ending g = record g { ended = g.ended ++ (t, ending) ∷ [] }

-- The group as it is cancelled.
abbrev pub as_cancelled : GroupView → GroupView
as_cancelled g = record g { cancelled = true }
