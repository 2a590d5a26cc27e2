-- What the proofs of this crate take from elsewhere.
pub use Rattle.explorer_json.specs.AnswerJson.{end_json, ended_json, expectation_json, expectations_json, outcome_json, outcomes_json, search_json, start_json, sum_json, to_go_json, verdict_json, verdicts_json}
pub use Rattle.explorer_json.specs.Schedules.{broken_json, schedule_json, steps_json}
pub use Rattle.explorer_json.specs.Strings.{bytes_json}
pub use Rattle.explorer_json.specs.SwiftJson.{meaning_json, meanings_json, swift_head_json}
pub use Rattle.script_code.specs.Seen.{rows_of}
pub use Rattle.std.proofs.Common.{List, None, OnOk, Option, Some, Vec, [], ap, append_assoc, arith, codes, decimal, drop, if◌then◌else◌, length, map, refl, slice_get, subst, suc, sym, take, take_all, zero, ℕ, ℤ, ◌++◌, ◌+◌, ◌<◌, ◌==◌, ◌∙◌, ◌∷◌, ◌≡◌, ◌≤◌}
pub use Rattle.std.proofs.lemmas.List.{at_drop_more, map_more, map_push}
pub use Rattle.std.specs.declared.alloc.Global.{Global}
pub use Rattle.swift_explorer.specs.FoundText.{begins, turns_before}
pub use Rattle.swift_report.proofs.Pieces.{onto, said, seven_joined, six_joined, three_joined}
pub use Rattle.swift_report.specs.ReportJson.{actor_json, comma, fields_json, tasks_json}
