-- What the proofs of this crate take from elsewhere.
pub use Rattle.std.proofs.Common.{Bool, Err, List, Ok, OnOk, Result, [], ap, append_assoc, arith, codes, decimal, drop, false, get_or, length, of_z, pos, refl, rules, slice_get, suc, sym, to_z, w64, ℕ, ℤ, ◌++◌, ◌+◌, ◌-◌, ◌<◌, ◌∙◌, ◌∷◌, ◌≡◌}
pub use Rattle.std.proofs.lemmas.List.{at_drop_more, drop_more}
pub use Rattle.std.specs.declared.alloc.Global.{Global}
pub use Rattle.std.specs.declared.vec.Vec.{Vec}
pub use Rattle.swift_journal.specs.Records.{RecordView}
pub use Rattle.swift_report.specs.Text.{folded_count, line_of, method_text, row_of}
pub use Rattle.swift_script.specs.Scripts.{ScriptView, actor_count, executor_kind, executor_name}
pub use Rattle.swift_report.specs.ReportJson.{actor_json, comma, env_json, executor_json, executors_json, field_json, fields_json, flag_json, heading_json, journals_json, kind_json, listed_json, resume_and_exit_json, run_json, tasks_json, turns_json, value_json, values_json}
