use Rattle.swift_laws.proofs.OpenReports.{leaves_no_children}
use Rattle.swift_laws.proofs.ended.ended_tasks_leave_no_children.Goals as goal

pub returns : goal.returns
returns c = leaves_no_children
