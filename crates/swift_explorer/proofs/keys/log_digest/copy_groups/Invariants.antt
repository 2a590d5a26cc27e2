use Rattle.swift_explorer.proofs.Prelude.{take, AllZip, IsSameGroup}
use Rattle.swift_explorer.proofs.keys.log_digest.copy_groups.Given as goal

abbrev pub invariant-loop-group : goal.invariant-loop-group
invariant-loop-group l = AllZip IsSameGroup (take l.group-index l.groups) l.copy.items
