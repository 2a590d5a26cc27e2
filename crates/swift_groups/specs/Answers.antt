-- Which calls groups accept (SE-0304; the refusals are our own).
use Rattle.std.specs.Prelude.{if◌then◌else◌, List, Option, None, Some, Result, Ok, Err, slice_get, slice_set}
use Rattle.swift_types.specs.declared.id.TaskId.{TaskId}
use Rattle.swift_groups.specs.declared.answer.GroupId.{GroupId}
use Rattle.swift_groups.specs.declared.fault.GroupFault.{GroupFault}
use Rattle.swift_groups.specs.declared.fault.GroupFault.TheVariants.{Unknown, Closed, Child}
use Rattle.swift_groups.specs.declared.group.GroupStage.{GroupStage}
use Rattle.swift_groups.specs.declared.group.GroupStage.TheVariants.{Open, Closing, Done}
use Rattle.swift_groups.specs.Groups.{GroupView, is_among, unfinished}

-- A group that is to be open: G2 where a `close` came.
abbrev pub if_open : {G : Type 0} → GroupStage → G → Result G GroupFault
if_open Open g = Ok g
if_open Closing g = Err Closed
if_open Done g = Err Closed

-- A group that is to take calls yet: G2 where a `close` found each child ended.
abbrev pub if_live : {G : Type 0} → GroupStage → G → Result G GroupFault
if_live Open g = Ok g
if_live Closing g = Ok g
if_live Done g = Err Closed

-- The group, where there is one and it is open: else G1, then G2.
abbrev pub open_if_opened : Option GroupView → Result GroupView GroupFault
open_if_opened None = Err Unknown
open_if_opened (Some g) = if_open g.stage g

-- The group, where there is one and it is not done: else G1, then G2.
abbrev pub live_if_opened : Option GroupView → Result GroupView GroupFault
live_if_opened None = Err Unknown
live_if_opened (Some g) = if_live g.stage g

-- The group of that number where it is open: else G1 where none was opened under it, then G2.
abbrev pub open_group : List GroupView → GroupId → Result GroupView GroupFault
open_group groups id = open_if_opened (slice_get groups id.0)

-- The group of that number where it is not done: else G1, then G2.
abbrev pub live_group : List GroupView → GroupId → Result GroupView GroupFault
live_group groups id = live_if_opened (slice_get groups id.0)

-- The group, where there is one, however far it is: else G1.
abbrev pub any_if_opened : Option GroupView → Result GroupView GroupFault
any_if_opened None = Err Unknown
any_if_opened (Some g) = Ok g

-- The group of that number, however far it is: else G1.
abbrev pub any_group : List GroupView → GroupId → Result GroupView GroupFault
any_group groups id = any_if_opened (slice_get groups id.0)

-- The group, where the task is no child of it: else G3.
abbrev pub if_new : TaskId → Result GroupView GroupFault → Result GroupView GroupFault
if_new t (Ok g) = if is_among g.added t then Err Child else Ok g
if_new t (Err fault) = Err fault

-- The group, where the task is a child of it that has not ended: else G3.
abbrev pub if_unfinished : TaskId → Result GroupView GroupFault → Result GroupView GroupFault
if_unfinished t (Ok g) = if is_among (unfinished g) t then Ok g else Err Child
if_unfinished t (Err fault) = Err fault

-- The open group of that number, where the task is no child of it: else G1, G2, then G3.
abbrev pub group_without : List GroupView → GroupId → TaskId → Result GroupView GroupFault
group_without groups id t = if_new t (open_group groups id)

-- The group of that number that is not done, where the task is an unfinished child of it: else G1, G2, then G3.
abbrev pub group_with_unfinished : List GroupView → GroupId → TaskId → Result GroupView GroupFault
group_with_unfinished groups id t = if_unfinished t (live_group groups id)

-- What is answered of a group, or its refusal.
abbrev pub answer : {A : Type 0} → (GroupView → A) → Result GroupView GroupFault → Result A GroupFault
answer f (Ok g) = Ok (f g)
answer f (Err fault) = Err fault

-- The groups after one of them was changed, or after a refusal.
abbrev pub groups_after : (GroupView → GroupView) → List GroupView → GroupId → Result GroupView GroupFault → List GroupView
groups_after f groups id (Ok g) = slice_set groups id.0 (f g)
groups_after f groups id (Err fault) = groups

-- That a call on a group is accepted, or its refusal.
abbrev pub accepted : Result GroupView GroupFault → Result (Unit {0}) GroupFault
accepted (Ok g) = Ok tt
accepted (Err fault) = Err fault
