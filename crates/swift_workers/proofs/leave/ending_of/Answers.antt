use Rattle.swift_workers.proofs.Prelude.{rules}
use Rattle.swift_workers.proofs.leave.ending_of.Goals as goal

pub returns : goal.returns
returns c = record {
  origin = search rules;
  ending = search rules;
  root = search rules;
  groups = c.has_closed_all.ensures.closed (search rules);
}
