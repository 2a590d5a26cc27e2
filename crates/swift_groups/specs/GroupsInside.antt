-- What the fields of all groups keep. No public clause names these.
use Rattle.std.specs.Prelude.{◌≡◌, ℕ, suc, Bool, true, false, if◌then◌else◌, ◌==◌, ◌+◌, ◌≤◌, List, Option, None, Some, [], ◌∷◌, length, slice_get, vec_len, vec_capacity}
use Rattle.std.specs.List.{count_by, sum_by}
use Rattle.std.specs.HashMap.{get, spare}
use Rattle.swift_types.specs.declared.id.TaskId.{TaskId}
use Rattle.swift_types.specs.declared.outcome.Ending.{Ending}
use Rattle.swift_groups.specs.declared.group.Group.{Group}
use Rattle.swift_groups.specs.declared.group.Child.{Child}
use Rattle.swift_groups.specs.declared.group.ChildEnding.{ChildEnding}
use Rattle.swift_groups.specs.Groups.{GroupView, GroupsView, is_among, has_ended, unfinished_of}
use Rattle.swift_groups.specs.Inside.{added_of, ended_of, places_of, last_of, AreLinked}
use Rattle.swift_groups.specs.KeysInside.{same_key}
use Rattle.swift_groups.specs.declared.groups.Groups.TheInside.{Inside}

-- A group with its children and endings.
abbrev pub group_is : Group → List TaskId → List (TaskId × Ending) → GroupView
group_is g added ended = record { owner = g.owner; added = added; ended = ended; handed = g.handed; cancelled = g.cancelled; stage = g.stage }

-- The groups from a number on, where the first has the children and endings of the number 0.
abbrev pub groups_from : List Group → (ℕ → List TaskId) → (ℕ → List (TaskId × Ending)) → List GroupView
groups_from [] added ended = []
groups_from (g ∷ gs) added ended = group_is g (added 0) (ended 0) ∷ groups_from gs (λ i. added (suc i)) (λ i. ended (suc i))

abbrev pub groups_view : Inside → GroupsView
groups_view w = record { groups = groups_from w.groups.items (added_of w.children.items) (ended_of w.endings.items); reserved = w.room }

-- Whether a task is no child, an unfinished one, or one that ended.
abbrev pub mark_of : List TaskId → List (TaskId × Ending) → TaskId → Option Bool
mark_of added ended t = if has_ended ended t then Some true else (if is_among added t then Some false else None)

-- A group's numbers and places are those of its children and endings.
pub record IsGroup (g : Group) (added : List TaskId) (ended : List (TaskId × Ending)) (places : List ℕ) : Type 0 where
  pub unfinished : g.unfinished ≡ length (unfinished_of added ended)
  pub handed : g.handed ≤ length places
  pub first : g.first ≡ slice_get places g.handed
  pub last : g.last ≡ last_of places
  pub known : (t : TaskId) → has_ended ended t ≡ true → is_among added t ≡ true
  pub once : (t : TaskId) → count_by (λ u. u.0 == t.0) added ≤ 1

pub record AreGroups (groups : List Group) (children : List Child) (endings : List ChildEnding) (mark : ℕ → TaskId → Option Bool) : Type 0 where
  pub each : (i : ℕ) (g : Group) → slice_get groups i ≡ Some g → IsGroup g (added_of children i) (ended_of endings i) (places_of endings i)
  pub none_added : (i : ℕ) → length groups ≤ i → added_of children i ≡ []
  pub none_ended : (i : ℕ) → length groups ≤ i → ended_of endings i ≡ []
  pub marks : (i : ℕ) (t : TaskId) → mark i t ≡ mark_of (added_of children i) (ended_of endings i) t
  pub total : length endings + sum_by (λ g. g.unfinished) groups ≡ length children

pub record IsGroups (w : Inside) : Type 0 where
  pub are_groups : AreGroups w.groups.items w.children.items w.endings.items (λ i t. get same_key w.marks (i, t))
  pub linked : AreLinked w.endings.items w.after.items
  pub groups_room : vec_len w.groups + w.room ≤ vec_capacity w.groups
  pub children_room : vec_len w.children + w.room ≤ vec_capacity w.children
  pub marks_room : w.room ≤ spare w.marks
  pub endings_room : vec_len w.children + w.room ≤ vec_capacity w.endings
  pub after_room : vec_len w.children + w.room ≤ vec_capacity w.after
