use Rattle.std.proofs.Common.{arith, sym}
use Rattle.std.proofs.lemmas.List.{append-nil, take_all}
use Rattle.swift_programs.specs.Programs.{method_text}
use Rattle.swift_programs.proofs.Wrote.{wrote_more}
use Rattle.swift_programs.proofs.program.spell_methods.Goals as goal

pub loop-method-init : goal.loop-method-init
loop-method-init c = sym (append-nil c.args.out.now.items)

pub loop-method-preserved : goal.loop-method-preserved
loop-method-preserved c =
    wrote_more method_text c.args.methods.now c.loop-method.method-index c.method-item.result (omega arith) c.method-item.is c.args.out.now.items c.loop-method.out.items _ c.loop-method.invariant c.in_ok-spell_method.ensures

pub returns : goal.returns
returns c = rw (take_all c.loop-method.method-index c.args.methods.now (omega (arith, c.loop-method-test.false))) at c.loop-method.invariant
