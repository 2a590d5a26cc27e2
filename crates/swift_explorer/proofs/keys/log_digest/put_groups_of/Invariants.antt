use Rattle.swift_explorer.proofs.Prelude.{◌≡◌, ◌++◌, each_numbers, group_numbers, Digest, AreGroups}
use Rattle.swift_explorer.proofs.keys.log_digest.put_groups_of.Given as goal

abbrev pub invariant-loop-place : goal.invariant-loop-place
invariant-loop-place l = (d : Digest) → AreGroups l.groups d → l.key.items ≡ l.initial.key.items ++ each_numbers group_numbers (d.groups l.owner.0) l.place
