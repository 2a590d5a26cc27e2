-- What the proofs of this crate take from elsewhere.
pub use Rattle.atomic_table.specs.Seated.{TableId}
pub use Rattle.script_code.specs.Seen.{rows_of}
pub use Rattle.std.proofs.Common.{Bool, Contains, Err, IfNone, IfSome, IsErr, IsSome, List, None, Ok, OnOk, Option, Result, Some, [], add-zero, ap, append-nil, append_assoc, arith, cond, drop, eq-eqb, false, get_or, inl, inr, length, length-append, length-drop, length-set, map, ne_eqb, refl, rules, set, slice_get, slice_index_or, slice_set, subst, suc, sym, take, take-append-drop, true, vec_len, zero, ℕ, ℤ, ⊎_elim, ◌++◌, ◌+◌, ◌-◌, ◌<◌, ◌==◌, ◌∙◌, ◌∷◌, ◌≡◌, ◌≢◌, ◌≤◌, ◌⊎◌}
pub use Rattle.std.proofs.lemmas.List.{take_all}
pub use Rattle.std.proofs.lemmas.List.Elements.{All-more, Contains-append_left, Contains-append_right}
pub use Rattle.std.proofs.lemmas.Option.{none-some, same_Some, slice_get_read}
pub use Rattle.std.specs.Arc.{arc_value}
pub use Rattle.std.specs.List.{All, AllByRecursion, zip}
pub use Rattle.std.specs.Prelude.{unwrap_or}
pub use Rattle.std.specs.declared.alloc.Global.{Global}
pub use Rattle.std.specs.declared.vec.Vec.{Vec}
pub use Rattle.swift_course.specs.Reports.{AreAtRest, HasHistory, IsAccountedFor, IsReportOf, Knows, RunsAreOrderly}
pub use Rattle.swift_course.specs.Seats.{account_parted, gathered, maker_left}
pub use Rattle.swift_course.specs.Views.{Account, BookFacts, BookKnown, Maker, TurnOrder, at_rest}
pub use Rattle.swift_events.specs.declared.event.Event.{Event}
pub use Rattle.swift_events.specs.declared.life.Origin.{Origin}
pub use Rattle.swift_executor.specs.Exec.{DeskView, ExecView, IsBookOf, IsDeskOf, after_run, has_found, has_sent, site_of}
pub use Rattle.swift_executor.specs.Seats.{AccountsFor, IsOpened, orders_of}
pub use Rattle.swift_executor.specs.Site.{CanRunAt, SiteView}
pub use Rattle.swift_executor.specs.State.{ExecInvariant, ExecStateView}
pub use Rattle.swift_job.specs.Job.{JobView}
pub use Rattle.swift_journal.specs.Checkpoints.{CheckpointRoomView, CheckpointView}
pub use Rattle.swift_journal.specs.Records.{RecordView}
pub use Rattle.swift_script.specs.Scripts.{ScriptView, executor_count, root_count}
pub use Rattle.swift_shared_book.specs.Shared.{BookLockView, BookSeatView, IsSeatOf, knowing, seat_of}
pub use Rattle.swift_tasks.specs.Books.{IsJobOf}
pub use Rattle.swift_turn.specs.Body.{BodyView}
pub use Rattle.swift_types.specs.declared.id.ExecId.{ExecId}
pub use Rattle.swift_types.specs.declared.outcome.Ending.{Ending}
pub use Rattle.swift_workers.specs.CrewInside.{AreAtSites, AreDesksOf, AreHandsOf, IsHandOf, has_opened}
pub use Rattle.swift_workers.specs.Leaves.{AreEndings, AreReplayed, EachFrom, IsEnding, IsPartReplayed, KeepInvariants, Keeps}
pub use Rattle.swift_workers.specs.PartsInside.{AreAccountedFor, AreParts}
pub use Rattle.swift_workers.specs.PoolCallsInside.{HasCalled, IsPoolSeatOf, IsRunOut, SeatView, SharedPoolView}
pub use Rattle.swift_workers.specs.PoolRule.{HoldsOf, IsInCourse, IsKnown, IsPoolCourse, WhoRestsOwesNothing}
pub use Rattle.swift_workers.specs.Pools.{AreTurns, FirstCauseStays, IsAnswer, IsAtEnd, IsCall, IsCauseOf, IsEndOf, IsHistory, IsOldest, MayTake, MayVisit, OneWorkerTakesInOrder, PoolCall, PoolCrew, PoolFacts, PoolKnown, PoolView, TokensAreKept, after_call, calls_of, first_known, first_pool, given_by, has_put, or_else, owed_after, owed_first, put_in, split_left, split_new, stops, taken_in, takes, tells, told_in, total}
pub use Rattle.swift_workers.specs.declared.crew.Hand.{Hand}
pub use Rattle.swift_workers.specs.declared.fault.Halt.{Halt}
pub use Rattle.swift_workers.specs.declared.known.PoolTold.{PoolTold}
pub use Rattle.swift_workers.specs.declared.leave.Parts.{Parts}
pub use Rattle.swift_workers.specs.declared.pool.WorkerNext.{WorkerNext}
pub use Rattle.swift_workers.specs.declared.pool.WorkerNext.TheVariants.{Pause, Rest, Stop, Visit}
