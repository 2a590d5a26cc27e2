use Rattle.run_pictures.proofs.Prelude.{◌≤◌, arith, method_count}
use Rattle.run_pictures.proofs.Past.{no_instructions}
use Rattle.run_pictures.proofs.values.parts.instructions_of.Goals as goal

pub returns-else-method-method_count : goal.returns-else-method-method_count
returns-else-method-method_count c =
    let out : method_count c.args.script.now ≤ c.args.method.0 = omega (arith, c.if-method-method_count.false, c.method_count.ensures) in
    no_instructions c.args.script.now c.args.method.0 out
