-- What the proofs of this crate take from elsewhere.
pub use Rattle.std.proofs.Common.{Bool, List, None, Option, Some, Vec, [], add-one, ap, arith, cond, eqb, get_or, if◌then◌else◌, inl, inr, length, ltb, nat_eq, nat_lt, refl, set, slice_index_or, subst, suc, sym, vec_capacity, vec_len, zero, ℕ, ◌++◌, ◌+◌, ◌-◌, ◌<◌, ◌∙◌, ◌∷◌, ◌≡◌, ◌≢◌, ◌≤◌, ◌⊎◌}
pub use Rattle.std.proofs.lemmas.Bool.{cases_eq, cases_lt, cond_above, cond_below, eq-eqb, ne_eqb}
pub use Rattle.std.proofs.lemmas.Grind.{common_steps, elements}
pub use Rattle.std.proofs.lemmas.List.{append-nil, get_or-set_other, get_or-set_same, get_or_append_left, get_or_push, get_or_read, length-set, length_push, nil_from_length, with_items_is}
pub use Rattle.std.proofs.lemmas.List.Elements.{Contains-append_cases, Contains-append_left, Contains-append_right, Contains-push, Contains-push_cases}
pub use Rattle.std.proofs.lemmas.List.Sums.{count_by-le-length, sum_by-set}
pub use Rattle.std.proofs.lemmas.Option.{get_or_from_slice_get, same_Some, slice_get-get_or, slice_get_within}
pub use Rattle.std.specs.List.{All, Contains, slice_get}
pub use Rattle.std.specs.Option.{IsSome}
pub use Rattle.std.specs.Vec.{with_items}
pub use Rattle.swift_escalation.specs.LevelsInside.{AreChained, GraphView, HasEdge, HasWalk, IsOpen, IsSettled, IsSettledBut, Raising, Settling, Walk, below, edge_at, end_of, higher, level_of}
pub use Rattle.swift_escalation.specs.PlacesInside.{HasRoom, place_in}
pub use Rattle.swift_escalation.specs.Waits.{IsGiven, IsKnown, IsPriority, Leads, Reaches, WaitsView, tasks_of, with_event}
pub use Rattle.swift_escalation.specs.WaitsInside.{AreOf, EdgeStands, HasReason, IsOwn, LeadStands, StandsAt}
pub use Rattle.swift_escalation.specs.declared.graph.TaskEdge.{TaskEdge}
pub use Rattle.swift_escalation.specs.declared.waits.PriorityEvent.{PriorityEvent}
pub use Rattle.swift_escalation.specs.declared.waits.PriorityEvent.TheVariants.{Child, Free, Root, Wait}
pub use Rattle.swift_types.specs.Priority.{rank}
pub use Rattle.swift_types.specs.declared.id.TaskId.{TaskId}
pub use Rattle.swift_types.specs.declared.priority.Priority.{Priority}
pub use Rattle.swift_types.specs.declared.priority.Priority.TheVariants.{Background, High, Low, Medium}
