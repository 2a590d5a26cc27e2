-- What the proofs of this crate take from elsewhere.
pub use Rattle.atomic_table.proofs.Lists.{at_longer, at_map, at_set, at_snoc, exchanged, set_again, set_else}
pub use Rattle.atomic_table.specs.Table.{Act, Allows, Final, Joins, Seen, Splits, Step, Valid, carried_after, gives, keeps, put_back, rest, step, stepped, takes}
pub use Rattle.std.proofs.Common.{Bool, Err, IfErr, IfSome, IsSome, IsSomeAnd, List, MatchBool, MatchResult, None, Ok, OnOk, Option, Result, Some, [], ap, arith, drop, false, if◌then◌else◌, is_none, length, map, refl, rules, set, subst, suc, sym, take, true, vec_len, zero, ℕ, ℤ, ⊎_elim, ◌&&◌, ◌++◌, ◌+◌, ◌<◌, ◌==◌, ◌↔◌, ◌∙◌, ◌∷◌, ◌≡◌, ◌≢◌, ◌≤◌}
pub use Rattle.std.proofs.lemmas.Bool.{false≢true}
pub use Rattle.std.proofs.lemmas.Bool.Decides.{nat_tests}
pub use Rattle.std.proofs.lemmas.List.{append-nil, drop-map, length-append, length-map, map-append}
pub use Rattle.swift_course.proofs.Parts.{account_opens, book_stays, run_begins, seat_gathers, tickets_part}
pub use Rattle.swift_course.proofs.Rule.{joins, learns, parts}
pub use Rattle.swift_course.specs.Seats.{MayPart, account_parted, first_view, gathered, maker_left, some_left, some_parted}
pub use Rattle.swift_course.specs.Steps.{IsTurn, MayGive, end_of, knowing_begin, knowing_turn, with_begin, with_record, with_turn}
pub use Rattle.swift_course.specs.Views.{Account, BookFacts, BookKnown, Maker, Ticket, fresh}
pub use Rattle.swift_course.specs.declared.known.BookImage.{BookImage}
pub use Rattle.swift_course.specs.declared.known.Known.{Known}
pub use Rattle.swift_events.specs.Room.{IsEnv}
pub use Rattle.swift_history.specs.Jobs.{job_facts}
pub use Rattle.swift_history.specs.Orderly.{has_last_root, job_executor}
pub use Rattle.swift_history.specs.TurnEnds.{JobFacts, TurnEnd, WaitingTaskView, root_events, root_job, task, turn_end}
pub use Rattle.swift_interpreter.specs.Frames.{FrameView, effect_views}
pub use Rattle.swift_interpreter.specs.TurnStates.{exit_view}
pub use Rattle.swift_job.specs.Job.{JobView}
pub use Rattle.swift_journal.specs.Records.{RecordView}
pub use Rattle.swift_script.specs.Scripts.{ScriptView, executor_start, root_count}
pub use Rattle.swift_shared_book.specs.Calls.{AddedRootsKeep, AppliedTurnsKeep, BegunTurnsKeep, IsPlayed, before_of, facts_of}
pub use Rattle.swift_shared_book.specs.LockRule.{HolderHolds, IsHolder, IsKeptBy, IsUnlocked, IsWordFor, LockInvariant, TableOf, known_in}
pub use Rattle.swift_shared_book.specs.LockSeat.{BadgeView, LockSeatView, MayJoin, MayLearn, MaySplit, MayUnlock}
pub use Rattle.swift_shared_book.specs.LockStepsInside.{CarriesFor, Locks, Publishes, Recalls, SeatOf, Takes, Unlocks, free, given, with_known}
pub use Rattle.swift_shared_book.specs.Shared.{BeginsTicket, BookLockView, BookSeatView, HasPlayed, HasTicket, IsInRun, OpenSeatView, RunsAtSeat, TicketedJobsView, after_turn, facts_in, is_there, newest, seat_of, tickets_view, view_in, with_ticket}
pub use Rattle.swift_shared_book.specs.SharedInside.{HasTicketsOf, IsOneAtMost, oldest_first}
pub use Rattle.swift_shared_book.specs.StepsInside.{BeginsNamed, CommitsHanded, CommitsNamed, KnowsRoot, MayGiveBack, ahead_in, knowing_record}
pub use Rattle.swift_shared_book.specs.declared.lock.view.LockKnown.{LockKnown}
pub use Rattle.swift_shared_book.specs.declared.opened.OpenBook.{OpenBook}
pub use Rattle.swift_tasks.specs.Books.{BookView, IsEndOf, empty_book, end_of_frames, end_of_turn}
pub use Rattle.swift_tasks.specs.Refusals.{IsRefusal, fits_begun, refusal_of_apply, refusal_of_begin, refusal_of_root, refused_unless}
pub use Rattle.swift_tasks.specs.declared.fault.BookFault.{BookFault}
pub use Rattle.swift_turn.specs.Body.{Advanced, BodyView, HasFirst, IsTurnOf, advanced, left}
pub use Rattle.swift_types.specs.declared.env.Env.{Env}
