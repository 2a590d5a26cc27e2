-- What the proofs of this crate take from elsewhere.
pub use Rattle.nuchapay_runs.specs.Explains.{Explains, Tells}
pub use Rattle.run_page.specs.Escapes.{IsPlain, escaped, escaped_byte, is_plain, quoted}
pub use Rattle.run_page.specs.Pages.{back_text, front_text, page_bytes, script_text}
pub use Rattle.run_page.specs.RunJson.{AppendsTold, AreTold, ExplainedTurn, IsTold, IsToldOfOne, IsToldOfRun, all_explained_json, all_values_json, applied_turn, applied_turns, before_others, changes_json, event_json, events_json, explained_json, heading_json, last_turns, listed_json, more_json, run_json, told_of, turn_json, turns_json}
pub use Rattle.run_page.specs.declared.explanations.TheConstants.{EXPLAINED}
pub use Rattle.run_page.specs.declared.texts.frame.TheConstants.{BELOW, BODY, END, HEAD, MIDDLE}
pub use Rattle.run_pictures.specs.Values.{values_view, values_views}
pub use Rattle.std.proofs.Common.{Bool, Err, List, None, Ok, OnOk, Option, Result, Some, [], ap, append-nil, append_assoc, ap₂, arith, codes, drop, false, get_or, if◌then◌else◌, is_some, length, not, refl, rules, subst, suc, sym, take, true, ℕ, ◌&&◌, ◌++◌, ◌+◌, ◌-◌, ◌<◌, ◌==◌, ◌||◌, ◌∙◌, ◌∷◌, ◌≡◌, ◌≤◌}
pub use Rattle.std.proofs.lemmas.List.{at_drop_more, drop_all, drop_more, length-append, take-append-drop}
pub use Rattle.swift_events.specs.declared.event.Event.{Event}
pub use Rattle.swift_report.specs.declared.report.Report.{Report}
pub use Rattle.swift_script.specs.Scripts.{ScriptView, executor_count}
pub use Rattle.swift_report.specs.ReportJson.{report_json}
pub use Rattle.swift_types.specs.declared.id.TaskId.{TaskId}
