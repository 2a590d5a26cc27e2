use Rattle.swift_explorer.proofs.Prelude.{groups_numbers}
use Rattle.swift_explorer.proofs.Steps.{each_step}
use Rattle.swift_explorer.proofs.keys.log_digest.put_groups.Goals as goal

pub loop-place-preserved : goal.loop-place-preserved
loop-place-preserved c = λ d are. each_step (groups_numbers c.args.bound) d.groups c.loop-place.place _ _ _ (c.loop-place.invariant d are) (c.in_ok-put_groups_of.ensures d are)
