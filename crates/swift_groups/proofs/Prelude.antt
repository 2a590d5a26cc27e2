-- What the proofs of this crate take from elsewhere.
pub use Rattle.std.proofs.Common.{Bool, Err, List, None, Ok, Option, Result, Some, [], add-one, ap, arith, cond, drop, eqb, false, get_or, inl, inr, length, not, refl, rules, set, subst, suc, sym, true, zero, ℕ, ◌&&◌, ◌++◌, ◌+◌, ◌-◌, ◌<◌, ◌||◌, ◌∙◌, ◌∷◌, ◌≡◌, ◌≤◌, ◌⊎◌}
pub use Rattle.std.proofs.lemmas.Bool.{cases_Bool, cases_eq, cond-false, cond-true, eq-eqb, ne_eqb, or_left, or_parts, true≢false}
pub use Rattle.std.proofs.lemmas.List.{drop_all, get_or-set_other, get_or-set_same, get_or_append_left, get_or_push, get_or_read, length-set, length_push, nil_from_length}
pub use Rattle.std.proofs.lemmas.Option.{get_or_from_slice_get, none-some, same_Some, slice_get-get_or, slice_get_past, slice_get_within}
pub use Rattle.std.specs.HashMap.{get}
pub use Rattle.std.specs.List.{count_by, list_any, slice_get, sum_by}
pub use Rattle.std.specs.Option.{is_some, option_or}
pub use Rattle.swift_groups.specs.Answers.{accepted, answer, any_group, any_if_opened, groups_after, if_live, if_new, if_open, if_unfinished, live_group, live_if_opened, open_group, open_if_opened}
pub use Rattle.swift_groups.specs.Close.{close_among, close_of, closed_on, stage_among}
pub use Rattle.swift_groups.specs.Groups.{GroupView, GroupsView, as_cancelled, has_ended, is_among, unfinished, unfinished_of, with_child, with_ending}
pub use Rattle.swift_groups.specs.GroupsInside.{AreGroups, IsGroup, group_is, groups_from, groups_view, mark_of}
pub use Rattle.swift_groups.specs.Inside.{AreLinked, added_of, ended_of, known_found, known_in, last_of, live_found, live_in, open_found, open_in, places_from, places_of}
pub use Rattle.swift_groups.specs.KeysInside.{same_key, unended}
pub use Rattle.swift_groups.specs.Next.{handed_after, handed_on, next_among, next_of}
pub use Rattle.swift_groups.specs.declared.answer.GroupId.{GroupId}
pub use Rattle.swift_groups.specs.declared.fault.GroupFault.{GroupFault}
pub use Rattle.swift_groups.specs.declared.group.Child.{Child}
pub use Rattle.swift_groups.specs.declared.group.ChildEnding.{ChildEnding}
pub use Rattle.swift_groups.specs.declared.group.Group.{Group}
pub use Rattle.swift_groups.specs.declared.group.GroupStage.TheVariants.{Closing, Done, Open}
pub use Rattle.swift_types.specs.declared.id.TaskId.{TaskId}
pub use Rattle.swift_types.specs.declared.outcome.Ending.{Ending}
