use Rattle.swift_reordering.proofs.Reports.{each_fused}
use Rattle.swift_reordering.proofs.laws.each_report_is_fused.Goals as goal

pub returns : goal.returns
returns c = each_fused
