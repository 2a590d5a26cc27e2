use Rattle.script_compiler.proofs.ExecutorsMade.{copy_made}
use Rattle.script_compiler.proofs.executors.add_copy.Goals as goal

pub returns : goal.returns
returns c =
    copy_made c.args.all.now.items c.push.new.self.items c.args.formula c.in-Some.formula c.in_ok-copy_formula.field-0 c.in-Some.is c.in_ok-copy_formula.ensures c.in_ok-push.ensures.items
