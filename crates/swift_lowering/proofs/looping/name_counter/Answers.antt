use Rattle.swift_lowering.specs.Blocks as blocks
use Rattle.swift_lowering.proofs.looping.name_counter.Goals as goal

pub returns-clause-names : goal.returns-clause-names
returns-clause-names c = λ n. blocks.by_name (c.rename.ensures.renames (c.declare.ensures.refused n)) (c.declare.ensures.binds n)
