use Rattle.std.proofs.Common.{arith, sym}
use Rattle.std.proofs.lemmas.List.{append-nil, take_all}
use Rattle.swift_programs.specs.Programs.{next_param_text}
use Rattle.swift_programs.proofs.Wrote.{wrote_next}
use Rattle.swift_programs.proofs.program.spell_next_params.Goals as goal

pub loop-param-init : goal.loop-param-init
loop-param-init c = sym (append-nil c.args.out.now.items)

pub loop-param-preserved : goal.loop-param-preserved
loop-param-preserved c =
    wrote_next next_param_text (λ p. p.items) c.args.params.now c.loop-param.param-index c.param-item.result (omega arith) c.param-item.is c.args.out.now.items c.loop-param.out.items _ c.loop-param.invariant c.in_ok-spell_next_param.ensures

pub returns : goal.returns
returns c = rw (take_all c.loop-param.param-index c.args.params.now (omega (arith, c.loop-param-test.false))) at c.loop-param.invariant
