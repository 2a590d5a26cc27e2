-- What the proofs of this crate take from elsewhere.
pub use Rattle.expectations.proofs.Holding.{all_mapped, answer_holds}
pub use Rattle.expectations.specs.Answers.{is_so, status_of}
pub use Rattle.expectations.specs.Meaning.{first_have_values, has_value, verdict_of}
pub use Rattle.expectations.specs.Questions.{AreExpected, IsAsked, IsExpected, no_fault, no_more, one_more}
pub use Rattle.expectations.specs.declared.answer.Answer.{Answer}
pub use Rattle.expectations.specs.declared.expectation.Verdict.{Verdict}
pub use Rattle.explorer_answers.specs.Answered.{answer_of, verdicts_at, verdicts_in}
pub use Rattle.explorer_answers.specs.SwiftMeanings.{at_limit, ends_process, is_outcome, same}
pub use Rattle.explorer_laws.specs.Runs.{EachRunIsListed, HasEachValue, HoldsAtEnd, MeetsAll, NoRunBreaks}
pub use Rattle.script_code.specs.Seen.{rows_of}
pub use Rattle.std.proofs.Common.{All, Bool, Contains, IsTrue, List, None, Option, Some, [], ap, ap₂, arith, false, if◌then◌else◌, inl, inr, is_some, map, not, refl, slice_get, subst, suc, sym, true, zero, ℕ, ℤ, ◌&&◌, ◌++◌, ◌<◌, ◌==◌, ◌||◌, ◌∙◌, ◌∷◌, ◌≡◌}
pub use Rattle.std.specs.List.{cons_option, list_all}
pub use Rattle.swift_certificate.specs.Reports.{report_view}
pub use Rattle.swift_events.specs.declared.life.Origin.{Origin}
pub use Rattle.swift_explorer.specs.Outcomes.{HasEachOutcome, NeverBreaks}
pub use Rattle.swift_history.specs.Histories.{Block, ReportView, added, begun, folded, ran, record_in, records_of}
pub use Rattle.swift_journal.specs.Records.{RecordView}
pub use Rattle.swift_script.specs.Scripts.{ScriptView, root_count}
pub use Rattle.swift_types.specs.declared.outcome.Ending.{Ending}
