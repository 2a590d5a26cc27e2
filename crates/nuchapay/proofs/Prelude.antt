-- What the proofs of this crate take from elsewhere.
pub use Rattle.expectations.specs.Questions.{IsAsked}
pub use Rattle.expectations.specs.declared.expectation.Expectation.{Expectation}
pub use Rattle.nuchapay.specs.Scheduled.{IsAsMeant, IsChoice, IsCompleted, IsRunOrNone, IsScheduledReport}
pub use Rattle.nuchapay.specs.Searches.{IsKept, IsSaidOf}
pub use Rattle.std.proofs.Common.{Bool, Err, IfOk, List, Ok, Result, ap, arith, false, inl, inr, length, map, refl, rules, subst, sym, take, take_all, ℕ, ◌++◌, ◌+◌, ◌-◌, ◌<◌, ◌∙◌, ◌≡◌, ◌≤◌}
pub use Rattle.std.proofs.lemmas.Option.{slice_get_read}
pub use Rattle.std.specs.Arc.{arc_value}
pub use Rattle.swift_explorer.specs.FoundText.{begins, turns_before}
pub use Rattle.swift_explorer.specs.declared.moves.Move.{Move}
pub use Rattle.swift_report.specs.Text.{report_text}
pub use Rattle.swift_script.specs.Accepted.{IsAccepted}
pub use Rattle.swift_script.specs.Scripts.{ScriptView, executor_count, root_count}
pub use Rattle.swift_tool.specs.Run.{HoldInvariants, IsRunOf, end_well}
