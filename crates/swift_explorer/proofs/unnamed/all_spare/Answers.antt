use Rattle.swift_explorer.proofs.Prelude.{◌≡◌, true, take_all, subst, sym, arith, All, Instruction, instruction_spares}
use Rattle.swift_explorer.proofs.UnnamedRoots.{spared_push}
use Rattle.swift_explorer.proofs.unnamed.all_spare.Goals as goal

pub loop-line-preserved : goal.loop-line-preserved
loop-line-preserved c =
    spared_push c.args.root c.args.lines.now c.loop-line.line-index c.line-item.result c.loop-line-test.true c.line-item.is c.loop-line.invariant (sym c.if-not-line_spares.ensures)

pub returns : goal.returns
returns c = λ _. subst (All (λ (line : Instruction). instruction_spares c.args.root line ≡ true)) (take_all c.loop-line.line-index c.args.lines.now (omega (arith, c.loop-line-test.false))) c.loop-line.invariant
