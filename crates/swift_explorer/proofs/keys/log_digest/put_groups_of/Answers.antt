use Rattle.swift_explorer.proofs.Prelude.{group_numbers}
use Rattle.swift_explorer.proofs.Steps.{each_step}
use Rattle.swift_explorer.proofs.keys.log_digest.put_groups_of.Goals as goal

pub loop-place-preserved : goal.loop-place-preserved
loop-place-preserved c = λ d are. each_step group_numbers (d.groups c.args.owner.0) c.loop-place.place _ _ _ (c.loop-place.invariant d are) (c.in_ok-put_group_at.ensures d are)
