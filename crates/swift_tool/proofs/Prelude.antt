-- What the proofs of this crate take from elsewhere.
pub use Rattle.std.proofs.Common.{Contains, IsTrue, List, Some, [], ap, arith, false, if◌then◌else◌, length, refl, subst, sym, vec_len, ℕ, ℤ, ◌+◌, ◌-◌, ◌∙◌, ◌∷◌, ◌≡◌, ◌≤◌}
pub use Rattle.std.specs.Arc.{arc_value}
pub use Rattle.std.specs.declared.alloc.Global.{Global}
pub use Rattle.std.specs.declared.vec.Vec.{Vec}
pub use Rattle.swift_certificate.specs.Reports.{report_view}
pub use Rattle.swift_course.specs.Whole.{HasWhole}
pub use Rattle.swift_history.specs.Orderly.{IsOrderlyLegal}
pub use Rattle.swift_report.specs.Text.{report_text}
pub use Rattle.swift_script.specs.Scripts.{ScriptView, executor_count, executor_invariants, root_count}
pub use Rattle.swift_report.specs.ReportJson.{report_json}
pub use Rattle.swift_tool.specs.Run.{HoldInvariants, end_well}
pub use Rattle.swift_workers.specs.Leaves.{AreEndings, AreReplayed, KeepInvariants}
