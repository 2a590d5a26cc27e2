-- What a log says of several tasks: who was made by whom, who waits for whom, which groups there are, and who is cancelled
-- (SE-0304).
use Rattle.std.specs.Prelude.{ℕ, zero, suc, Bool, true, false, not, min, if◌then◌else◌, ◌==◌, ◌&&◌, ◌||◌, nat_lt, Option, Some, None, List, length, count_by}
use Rattle.std.specs.List.{filter_map, list_any}
use Rattle.swift_types.specs.declared.id.TaskId.{TaskId}
use Rattle.swift_types.specs.declared.outcome.Ending.{Ending}
use Rattle.swift_escalation.specs.declared.waits.PriorityEvent.{PriorityEvent as Link}
use Rattle.swift_escalation.specs.declared.waits.PriorityEvent.TheVariants as link
use Rattle.swift_groups.specs.declared.group.GroupStage.{GroupStage}
use Rattle.swift_groups.specs.declared.group.GroupStage.TheVariants as stage
use Rattle.swift_groups.specs.Groups.{GroupView, is_among, unfinished_of}
use Rattle.swift_groups.specs.Close.{stage_among}
use Rattle.swift_events.specs.declared.event.Event.{Event}
use Rattle.swift_events.specs.declared.event.Event.TheVariants.{Root, Free, Open, Child, CancelTask, CancelGroup, Wait, Next, Close, End}
use Rattle.swift_events.specs.declared.life.Origin.{Origin}
use Rattle.swift_events.specs.declared.life.Origin.TheVariants as origin
use Rattle.swift_events.specs.Lives.{life_of}

-- the task that task `t` spawns or detaches by this event, if it does
abbrev pub own_in : ℕ → Event → Option TaskId
own_in t (Free made by p detached) = if by.0 == t then Some made else None
own_in t _ = None

-- the tasks that task `t` has spawned or detached, in order
abbrev pub own_tasks : ℕ → List Event → List TaskId
own_tasks t log = filter_map (own_in t) log

-- the task that waits for task `t` by this event, if one does
abbrev pub waiter_in : ℕ → Event → Option TaskId
waiter_in t (Wait waiter awaited) = if awaited.0 == t then Some waiter else None
waiter_in t _ = None

-- the tasks that have waited for task `t`, in order of waiting; each of them did so while `t` had not ended
abbrev pub waiters_of : ℕ → List Event → List TaskId
waiters_of t log = filter_map (waiter_in t) log

-- what of an event counts for priorities: a task that is added, or a wait
abbrev pub link_in : Event → Option Link
link_in (Root t p) = Some (link.Root t p)
link_in (Free t by p detached) = Some (link.Free t p)
link_in (Child t o g p) = Some (link.Child t o p)
link_in (Wait t awaited) = Some (link.Wait t awaited)
link_in _ = None

-- What counts for priorities: tasks that are added, and waits. A task's priority is by reach over these.
abbrev pub links_of : List Event → List Link
links_of log = filter_map link_in log

-- whether task `o` opens a group by this event
abbrev pub opens : ℕ → Event → Bool
opens o (Open owner g) = owner.0 == o
opens o _ = false

-- how many groups task `o` has opened
abbrev pub opened_by : ℕ → List Event → ℕ
opened_by o log = count_by (opens o) log

-- the child that this event adds to group `g` of task `o`, if it does
abbrev pub child_in : ℕ → ℕ → Event → Option TaskId
child_in o g (Child t owner group p) = if (owner.0 == o) && (group == g) then Some t else None
child_in o g _ = None

-- the children that were added to group `g` of task `o`, in order
abbrev pub children_of : ℕ → ℕ → List Event → List TaskId
children_of o g log = filter_map (child_in o g) log

-- that one of these children which this event ends, with its ending
abbrev pub ending_among : List TaskId → Event → Option (TaskId × Ending)
ending_among children (End t ending) = if is_among children t then Some (t, ending) else None
ending_among children _ = None

-- the children of group `g` of task `o` that have ended, with their endings, in order of ending
abbrev pub endings_of : ℕ → ℕ → List Event → List (TaskId × Ending)
endings_of o g log = filter_map (ending_among (children_of o g log)) log

-- whether task `o` asks for a result of its group `g` by this event
abbrev pub asks : ℕ → ℕ → Event → Bool
asks o g (Next owner group) = (owner.0 == o) && (group == g)
asks o g _ = false

-- how many results of its group `g` task `o` has asked for
abbrev pub asked_of : ℕ → ℕ → List Event → ℕ
asked_of o g log = count_by (asks o g) log

-- whether task `o` closes its group `g` by this event
abbrev pub closes : ℕ → ℕ → Event → Bool
closes o g (Close owner group) = (owner.0 == o) && (group == g)
closes o g _ = false

-- whether task `o` has closed its group `g`
abbrev pub is_closed : ℕ → ℕ → List Event → Bool
is_closed o g log = list_any (closes o g) log

-- a group that was opened and not closed
abbrev pub is_open_group : ℕ → ℕ → List Event → Bool
is_open_group o g log = nat_lt g (opened_by o log) && not (is_closed o g log)

-- whether this event is a cancel that names group `g` of task `o`
abbrev pub names_group : ℕ → ℕ → Event → Bool
names_group o g (CancelGroup owner group) = (owner.0 == o) && (group == g)
names_group o g _ = false

-- whether a cancel has named group `g` of task `o`
abbrev pub is_named_group : ℕ → ℕ → List Event → Bool
is_named_group o g log = list_any (names_group o g) log

-- how far a group is, by whether it is closed, and by its unfinished children
abbrev pub stage_of : Bool → List TaskId → GroupStage
stage_of false unfinished = stage.Open
stage_of true unfinished = stage_among unfinished

-- A group by the log. The results that its owner has asked for are handed out in order of ending.
abbrev pub group_of : ℕ → ℕ → List Event → GroupView
group_of o g log =
    let added = children_of o g log in
    let ended = endings_of o g log in
    record {
      owner = record { 0 = o };
      added = added;
      ended = ended;
      handed = min (asked_of o g log) (length ended);
      cancelled = is_named_group o g log;
      stage = stage_of (is_closed o g log) (unfinished_of added ended);
    }

-- whether this event is a cancel that names task `t`
abbrev pub names_task : ℕ → Event → Bool
names_task t (CancelTask task) = task.0 == t
names_task t _ = false

-- whether a cancel has named task `t`
abbrev pub is_named : ℕ → List Event → Bool
is_named t log = list_any (names_task t) log

-- the owner and the group of a task that comes from there, if it is a child
abbrev pub parent_by : Option Origin → Option (ℕ × ℕ)
parent_by (Some (origin.Child o g)) = Some (o.0, g)
parent_by _ = None

-- the owner and the group of task `t`, if it is a child
abbrev pub parent_of : ℕ → List Event → Option (ℕ × ℕ)
parent_of t log = parent_by (life_of t log).origin

-- what holds of the owner and the group, if the task is a child
abbrev pub of_parent : Option (ℕ × ℕ) → (ℕ → ℕ → Bool) → Bool
of_parent None f = false
of_parent (Some x) f = f x.0 x.1

-- whether task `t` is cancelled, as far as it and the owners above it show, `n` tasks in all
abbrev pub cancelled_within : ℕ → ℕ → List Event → Bool
cancelled_within zero t log = false
cancelled_within (suc n) t log = is_named t log || of_parent (parent_of t log) (λ o g. is_named_group o g log || cancelled_within n o log)

-- A task is cancelled where a cancel has named it, or the group that it is a child of, before or after it was added; or where
-- the owner of that group is cancelled. Spawned and detached tasks are nobody's children. A child has a greater number than
-- its owner, so a chain of owners is no longer than the number of the task from which it starts.
abbrev pub is_cancelled : ℕ → List Event → Bool
is_cancelled t log = cancelled_within (suc t) t log

-- a group is cancelled where a cancel has named it, or its owner is cancelled
abbrev pub is_cancelled_group : ℕ → ℕ → List Event → Bool
is_cancelled_group o g log = is_named_group o g log || is_cancelled o log
