-- What the proofs of this crate take from elsewhere.
pub use Rattle.expectations.specs.Answers.{is_so}
pub use Rattle.expectations.specs.declared.expectation.Verdict.{Verdict}
pub use Rattle.explorer_answers.specs.AnswerText.{fails_text, failures_text, first_text, or_else, verdict_at}
pub use Rattle.explorer_answers.specs.Answered.{verdicts_at, verdicts_in}
pub use Rattle.explorer_answers.specs.ListText.{outcome_text, outcomes_text}
pub use Rattle.explorer_answers.specs.Names.{made_text, made_texts, names_text}
pub use Rattle.explorer_answers.specs.SwiftAnswers.{swift_verdicts_at, swift_verdicts_in}
pub use Rattle.explorer_answers.specs.SwiftText.{fails, swift_failures_text, swift_first_text, told_if, told_texts}
pub use Rattle.script_code.specs.Seen.{rows_of}
pub use Rattle.std.proofs.Common.{Bool, Err, List, Ok, OnOk, Result, Vec, [], ap, append_assoc, arith, codes, decimal, drop, false, get_or, if◌then◌else◌, is_ok, length, map, refl, rules, sym, take, true, ℕ, ℤ, ◌++◌, ◌+◌, ◌<◌, ◌∙◌, ◌∷◌, ◌≡◌}
pub use Rattle.std.proofs.lemmas.List.{at_drop_more, map_more, map_push}
pub use Rattle.std.specs.declared.alloc.Global.{Global}
pub use Rattle.swift_script.specs.Scripts.{ScriptView}
