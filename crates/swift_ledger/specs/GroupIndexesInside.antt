-- What the index of groups keeps of a log.
use Rattle.std.specs.Prelude.{◌≡◌, ℕ, ◌+◌, ◌<◌, ◌≤◌, min, Bool, true, false, if◌then◌else◌, ◌==◌, ◌&&◌, nat_eq, nat_lt, nat_le, is_some, Option, Some, None, IsTrue, List, [], ◌∷◌, length, slice_get, vec_len, vec_capacity}
use Rattle.std.specs.HashMap.{get, spare}
use Rattle.swift_types.specs.declared.limits.TheConstants.{TASKS}
use Rattle.swift_types.specs.declared.id.TaskId.{TaskId}
use Rattle.swift_types.specs.declared.outcome.Ending.{Ending}
use Rattle.swift_groups.specs.Groups.{GroupView, is_among, unfinished, unfinished_of, with_ending}
use Rattle.swift_groups.specs.Next.{handed_on}
use Rattle.swift_groups.specs.Close.{closed_on}
use Rattle.swift_events.specs.declared.event.Event.{Event}
use Rattle.swift_events.specs.declared.event.Event.TheVariants.{Root, Free, Open, Child, CancelGroup, Next, Close, End}
use Rattle.swift_events.specs.Events.{events_of}
use Rattle.swift_events.specs.Lives.{life_of}
use Rattle.swift_events.specs.Relations.{opened_by, is_open_group, children_of, endings_of, asked_of, is_closed, is_named_group, stage_of, parent_of, of_parent}
use Rattle.swift_ledger.specs.CountsInside.{count_at, HasPlaces}
use Rattle.swift_ledger.specs.declared.group_index.GroupNotes.{GroupNotes}
use Rattle.swift_ledger.specs.declared.group_index.GroupIndex.{GroupIndex}

-- An event that fits the groups of a log: a task that is made has no events yet, or is a root that was not added; a group
-- that is named is open, or is the next one that its owner opens, whose number is that of a task; a task that ends has not ended.
abbrev pub FitsGroups : List Event → Event → Type 0
FitsGroups log (Root t p) = (life_of t.0 log).origin ≡ None
FitsGroups log (Free t by p detached) = events_of t.0 log ≡ []
FitsGroups log (Open o g) = (g ≡ opened_by o.0 log) × (o.0 < TASKS)
FitsGroups log (Child t o g p) = (events_of t.0 log ≡ []) × IsTrue (is_open_group o.0 g log)
FitsGroups log (CancelGroup o g) = IsTrue (is_open_group o.0 g log)
FitsGroups log (Next o g) = IsTrue (is_open_group o.0 g log)
FitsGroups log (Close o g) = IsTrue (is_open_group o.0 g log)
FitsGroups log (End t ending) = (life_of t.0 log).ending ≡ None
FitsGroups log _ = Unit {0}

-- the owner and the group of a child, as the code has them
abbrev pub plain_parent : Option (TaskId × ℕ) → Option (ℕ × ℕ)
plain_parent None = None
plain_parent (Some x) = Some (x.0.0, x.1)

-- where an event is an ending, what is passed beside it is the parent of its task
abbrev pub IsParentIn : List Event → Event → Option (TaskId × ℕ) → Type 0
IsParentIn log (End t ending) parent = plain_parent parent ≡ parent_of t.0 log
IsParentIn log _ parent = Unit {0}

-- keys are the same where owner and number are
abbrev pub same_number : TaskId × ℕ → TaskId × ℕ → Bool
same_number x y = nat_eq x.0.0 y.0.0 && nat_eq x.1 y.1

-- what a log says of one group
pub record GroupFacts : Type 0 where
  pub children : List TaskId
  pub endings : List (TaskId × Ending)
  pub asked : ℕ
  pub closed : Bool
  pub named : Bool

abbrev pub facts_of : ℕ → ℕ → List Event → GroupFacts
facts_of o g log = record { children = children_of o g log; endings = endings_of o g log; asked = asked_of o g log; closed = is_closed o g log; named = is_named_group o g log }

-- a group that was not opened
abbrev pub no_facts : GroupFacts
no_facts = record { children = []; endings = []; asked = 0; closed = false; named = false }

-- the group of these facts, with owner `o` and `handed` results that were handed out
abbrev pub group_with : TaskId → ℕ → GroupFacts → GroupView
group_with o handed f = record { owner = o; added = f.children; ended = f.endings; handed = handed; cancelled = f.named; stage = stage_of f.closed (unfinished_of f.children f.endings) }

-- whether there are any children
abbrev pub has_any : List TaskId → Bool
has_any [] = false
has_any (t ∷ ts) = true

-- What is kept of one group is what the log says of it. How many results were handed out counts only while it is open.
pub record AreNotesOf (o : TaskId) (f : GroupFacts) (found : GroupView) (held : GroupNotes) : Type 0 where
  pub group : found ≡ group_with o found.handed f
  pub handed : f.closed ≡ false → found.handed ≡ min f.asked (length f.endings)
  pub asked : held.asked ≡ f.asked
  pub ended : held.ended ≡ length f.endings
  pub closed : held.is_closed ≡ f.closed
  pub named : held.is_named ≡ f.named
  pub children : held.has_children ≡ has_any f.children

-- the place of a group
abbrev pub place_in : GroupIndex → TaskId → ℕ → Option ℕ
place_in index o g = get same_number index.places (o, g)

-- a group is kept at a place
pub record IsKeptAt (index : GroupIndex) (o : TaskId) (f : GroupFacts) (place : ℕ) : Type 0 where
  pub found : GroupView
  pub held : GroupNotes
  pub group : slice_get index.groups.groups place ≡ Some found
  pub beside : slice_get index.held.items place ≡ Some held
  pub kept : AreNotesOf o f found held

-- whether a task is the child of a group, by its parent
abbrev pub is_child_of : ℕ → ℕ → Option (ℕ × ℕ) → Bool
is_child_of o g parent = of_parent parent (λ owner group. (owner == o) && (group == g))

-- The index has a place for each group that was opened, and for no other; and at it what the log says of the group.
pub record AreGroupsOf (index : GroupIndex) (log : List Event) : Type 0 where
  pub opened : (o : TaskId) (g : ℕ) → is_some (place_in index o g) ≡ nat_lt g (opened_by o.0 log)
  pub each : (o : TaskId) (g place : ℕ) → place_in index o g ≡ Some place → IsKeptAt index o (facts_of o.0 g log) place
  pub apart : (o u : TaskId) (g h place : ℕ) → place_in index o g ≡ Some place → place_in index u h ≡ Some place → (o.0 ≡ u.0) × (g ≡ h)
  pub counted : (o : TaskId) → count_at index.counts o.0 ≡ opened_by o.0 log
  pub unopened : (o g : ℕ) → opened_by o log ≤ g → facts_of o g log ≡ no_facts
  pub parents : (t : TaskId) (o g : ℕ) → is_among (children_of o g log) t ≡ is_child_of o g (parent_of t.0 log)
  pub same : length index.held.items ≡ length index.groups.groups
  pub groups_room : index.spare ≤ index.groups.reserved
  pub places_room : index.spare ≤ spare index.places
  pub counts_room : 0 < index.spare → HasPlaces index.counts
  pub held_room : vec_len index.held + index.spare ≤ vec_capacity index.held

-- A group once a child of it has ended: closed anew where it is closed, and with one more result handed out where its owner
-- waits for one.
abbrev pub ended_with : GroupNotes → TaskId → Ending → GroupView → GroupView
ended_with held t ending g =
    let after = with_ending t ending g in
    if held.is_closed then closed_on after else (if nat_le held.asked held.ended then after else handed_on after)

-- a group of which the task is a child that has not ended
pub record CanEnd (groups : List GroupView) (place : ℕ) (held : GroupNotes) (t : TaskId) : Type 0 where
  pub found : GroupView
  pub at : slice_get groups place ≡ Some found
  pub among : is_among (unfinished found) t ≡ true
  pub stage : found.stage ≡ stage_of held.is_closed (unfinished found)
