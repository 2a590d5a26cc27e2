-- What the proofs of this crate take from elsewhere.
pub use Rattle.std.proofs.Common.{Bool, Err, List, Ok, Result, [], ap, arith, cond, drop, eqb, false, get_or, get_or-set_other, get_or-set_same, inl, inr, length, length-append, length-set, not, refl, replicate, rules, set, subst, suc, sym, take, take_all, true, vec_len, zero, ℕ, ◌&&◌, ◌++◌, ◌+◌, ◌-◌, ◌<◌, ◌||◌, ◌∙◌, ◌∷◌, ◌≡◌, ◌≢◌, ◌≤◌, ◌⊎◌}
pub use Rattle.std.proofs.lemmas.Bool.{and_cases, and_from, and_parts, cases_Bool, cases_eq, cases_lt, cond-false, cond-true, eq-eqb, eqb-true, false≢true, le-ltb, leb-false, leb-true, lt-leb, lt-ltb, ltb-false, ltb-true, ne_eqb, not-false, not-true, or_left, or_right, true≢false}
pub use Rattle.std.proofs.lemmas.List.{append-nil, drop_all, get_or-replicate, get_or_past, length-replicate, length_push, take-append-le}
pub use Rattle.std.proofs.lemmas.List.Elements.{All-append, All-cons, All-nil, All-same, All-weaker, Contains-append_cases, Contains-append_left, Contains-append_right, Contains-push, Contains-push_cases}
pub use Rattle.std.proofs.lemmas.Option.{get_or_from_slice_get, slice_get_past, slice_get_within}
pub use Rattle.std.specs.HashMap.{get, spare}
pub use Rattle.std.specs.List.{cons_option, filter_map}
pub use Rattle.std.specs.Prelude.{All, Contains, IfSome, IsSome, IsTrue, None, Option, Some, is_some, leb, min, nat_lt, slice_get, slice_index_or, vec_capacity, ◌==◌}
pub use Rattle.swift_escalation.specs.Waits.{IsGiven, IsKnown, IsPriority, Leads, Reaches, WaitsView}
pub use Rattle.swift_escalation.specs.declared.waits.PriorityEvent.{PriorityEvent}
pub use Rattle.swift_events.proofs.Cancels.{NamesNothingNew, SameParents, cancelled_before_child, cancelled_child, cancelled_no_child, cancelled_push, cancelled_same, of_parent_same, older_child, older_same, unnamed_without}
pub use Rattle.swift_events.proofs.GroupLemmas.{endings_of-push_child, endings_of-push_kept, has_ended-unended, is_among-by, is_among-push}
pub use Rattle.swift_events.proofs.LogLemmas.{asked_of-push, asked_of-push_no, children_of-push, children_of-push_none, get_or-lives_of, is_closed-push, is_closed-push_no, is_named_group-push, is_named_group-push_no, length-lives_of, life_le_sum, life_of-push_other, life_of-push_same, links_of-push_none, links_of-push_some, lives_of-push, lives_of-push_made, lives_of_none, none_beyond, open_of-push, open_of-push_made, opened_by-push, opened_by-push_no, opened_by-push_yes, origin-push, origin_of, own_tasks-push, own_tasks-push_none, own_tasks-push_other, own_tasks-push_same, parent_of-push, parent_of-push_child, parent_of-push_other, reserved_of-push, reserved_of-push_made, sum_of_none, tasks_of-push_made, tasks_of-push_other, unborn_without, waiters_of-push, waiters_of-push_none, waiters_of-push_other, waiters_of-push_same}
pub use Rattle.swift_events.specs.Events.{events_of, is_made, last_of, later, task_of, tasks_of}
pub use Rattle.swift_events.specs.Lives.{is_open, life_of, lived, origin_in, room_held, unborn}
pub use Rattle.swift_events.specs.Relations.{asked_of, asks, child_in, children_of, closes, ending_among, endings_of, group_of, is_cancelled, is_cancelled_group, is_closed, is_named_group, is_open_group, link_in, links_of, names_group, names_task, of_parent, opened_by, opens, own_in, own_tasks, parent_by, parent_of, stage_of, waiter_in, waiters_of}
pub use Rattle.swift_events.specs.Room.{lives_of, open_of, reserved_of}
pub use Rattle.swift_events.specs.declared.event.Event.{Event}
pub use Rattle.swift_events.specs.declared.event.Event.TheVariants.{Apply, Begin, CancelGroup, CancelTask, Child, Close, End, Free, Give, Next, Open, Root, Skip, Wait}
pub use Rattle.swift_events.specs.declared.life.Life.{Life}
pub use Rattle.swift_events.specs.declared.life.Origin.{Origin}
pub use Rattle.swift_groups.proofs.Lists.{slice_get_new, slice_get_old, slice_get_set, slice_get_set_other}
pub use Rattle.swift_groups.specs.Answers.{accepted, group_with_unfinished, group_without, groups_after, if_live, if_new, if_open, if_unfinished, live_group, live_if_opened, open_group, open_if_opened}
pub use Rattle.swift_groups.specs.Close.{close_among, close_of, closed_on}
pub use Rattle.swift_groups.specs.Groups.{GroupView, GroupsView, as_cancelled, is_among, unfinished, unfinished_of, with_child, with_ending}
pub use Rattle.swift_groups.specs.Next.{handed_after, handed_on, next_of}
pub use Rattle.swift_groups.specs.declared.fault.GroupFault.TheVariants.{Memory}
pub use Rattle.swift_groups.specs.declared.group.GroupStage.{GroupStage}
pub use Rattle.swift_ledger.specs.CountsInside.{HasPlaces, count_at}
pub use Rattle.swift_ledger.specs.FlagsInside.{AreMarked, HasNoChildren, is_born_cancelled, is_named_in, is_new_cancel, is_reached}
pub use Rattle.swift_ledger.specs.GroupIndexesInside.{AreGroupsOf, AreNotesOf, CanEnd, FitsGroups, GroupFacts, IsKeptAt, IsParentIn, ended_with, facts_of, group_with, has_any, is_child_of, no_facts, place_in, plain_parent, same_number}
pub use Rattle.swift_ledger.specs.IndexesInside.{AreIndexes, HasSpare}
pub use Rattle.swift_ledger.specs.Ledgers.{CanNote, HasRoom, IsMade, LedgerView}
pub use Rattle.swift_ledger.specs.Levels.{AreLevels, HaveStayed, IsLevel}
pub use Rattle.swift_ledger.specs.LevelsInside.{KeepsLevels}
pub use Rattle.swift_ledger.specs.LinksInside.{CanLink}
pub use Rattle.swift_ledger.specs.ListsInside.{AreLists, AreListsKept, pushed, same_place}
pub use Rattle.swift_ledger.specs.RelativesInside.{own_pair, waiter_pair}
pub use Rattle.swift_ledger.specs.WellFormedInside.{IsWellFormed}
pub use Rattle.swift_ledger.specs.declared.group_index.GroupIndex.{GroupIndex}
pub use Rattle.swift_ledger.specs.declared.group_index.GroupNotes.{GroupNotes}
pub use Rattle.swift_ledger.specs.declared.indexes.Indexes.{Indexes}
pub use Rattle.swift_log.specs.Logs.{LogView}
pub use Rattle.swift_types.specs.Priority.{rank}
pub use Rattle.swift_types.specs.declared.id.TaskId.{TaskId}
pub use Rattle.swift_types.specs.declared.limits.TheConstants.{TASKS}
pub use Rattle.swift_types.specs.declared.outcome.Ending.{Ending}
pub use Rattle.swift_types.specs.declared.priority.Priority.{Priority}
