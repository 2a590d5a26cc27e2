use Rattle.swift_explorer.proofs.Prelude.{◌≡◌, take, true, All, Instruction, instruction_spares}
use Rattle.swift_explorer.proofs.unnamed.all_spare.Given as goal

abbrev pub invariant-loop-line : goal.invariant-loop-line
invariant-loop-line l = All (λ (line : Instruction). instruction_spares l.root line ≡ true) (take l.line-index l.lines)
