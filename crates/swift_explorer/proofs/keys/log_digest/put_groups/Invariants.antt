use Rattle.swift_explorer.proofs.Prelude.{◌≡◌, ◌++◌, each_numbers, groups_numbers, Digest, AreGroups}
use Rattle.swift_explorer.proofs.keys.log_digest.put_groups.Given as goal

abbrev pub invariant-loop-place : goal.invariant-loop-place
invariant-loop-place l = (d : Digest) → AreGroups l.groups d → l.key.items ≡ l.initial.key.items ++ each_numbers (groups_numbers l.bound) d.groups l.place
