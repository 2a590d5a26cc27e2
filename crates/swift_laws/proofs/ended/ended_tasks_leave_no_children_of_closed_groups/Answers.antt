use Rattle.swift_laws.proofs.OpenReports.{leaves_none_closed}
use Rattle.swift_laws.proofs.ended.ended_tasks_leave_no_children_of_closed_groups.Goals as goal

pub returns : goal.returns
returns c = leaves_none_closed
