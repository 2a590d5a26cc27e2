use Rattle.swift_ledger.proofs.Prelude.{refl, arith}
use Rattle.swift_ledger.proofs.GroupOpenings.{none-step}
use Rattle.swift_ledger.proofs.group_index.GroupIndex.new.Goals as goal

pub returns-clause-groups : goal.returns-clause-groups
returns-clause-groups c = none-step _ c.new.ensures c.new-2.ensures.empty c.new-3.ensures c.new-4.ensures.items refl (let n = c.new-4.ensures.len in omega (arith, n))
