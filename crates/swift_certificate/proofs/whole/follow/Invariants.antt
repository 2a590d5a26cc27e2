use Rattle.swift_certificate.proofs.Prelude.{◌≡◌, report_view, IsReplay}
use Rattle.swift_certificate.proofs.whole.follow.Given as goal

abbrev pub invariant-loop-place : goal.invariant-loop-place
invariant-loop-place l = record {
  script : l.replay.history.script ≡ l.fn.replay.history.script;
  followed : IsReplay (report_view l.report) l.replay;
}
