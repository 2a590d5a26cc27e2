use Rattle.swift_script.proofs.Facts.{actors_are_few, calls_are_there, declared_are_few, executors_are_few, methods_fit, root_args_fit, root_method_there, roots_are_few}
use Rattle.swift_script.proofs.Starting.{start_well}
use Rattle.swift_script.proofs.script.Script.facts.Goals as goal

pub returns-clause-actors : goal.returns-clause-actors
returns-clause-actors c = actors_are_few c.args.self.now c.printed.ensures.accepted

pub returns-clause-roots : goal.returns-clause-roots
returns-clause-roots c = roots_are_few c.args.self.now c.printed.ensures.accepted

pub returns-clause-executors : goal.returns-clause-executors
returns-clause-executors c = executors_are_few c.args.self.now c.printed.ensures.accepted

pub returns-clause-starts : goal.returns-clause-starts
returns-clause-starts c = λ actor lt. start_well c.args.self.now actor c.printed.ensures.accepted lt

pub returns-clause-methods : goal.returns-clause-methods
returns-clause-methods c = λ root lt. root_method_there c.args.self.now root c.printed.ensures.accepted lt

pub returns-clause-args : goal.returns-clause-args
returns-clause-args c = λ root lt. root_args_fit c.args.self.now root c.printed.ensures.accepted lt

pub returns-clause-waits : goal.returns-clause-waits
returns-clause-waits c = c.printed.ensures.accepted.1.waits

pub returns-clause-declared : goal.returns-clause-declared
returns-clause-declared c = declared_are_few c.args.self.now c.printed.ensures.accepted

pub returns-clause-calls : goal.returns-clause-calls
returns-clause-calls c = calls_are_there c.args.self.now c.printed.ensures.accepted

pub returns-clause-handles : goal.returns-clause-handles
returns-clause-handles c = methods_fit c.args.self.now c.printed.ensures.accepted
