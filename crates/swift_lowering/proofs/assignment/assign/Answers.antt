use Rattle.std.proofs.Common.{◌≡◌, None, Some, rules}
use Rattle.swift_lowering.specs.Assignments.{operator_of}
use Rattle.swift_lowering.proofs.Changes.{assigned_change, assigned_set}
use Rattle.swift_lowering.proofs.Stated.{assigned_by_change, assigned_by_set}
use Rattle.swift_lowering.proofs.assignment.assign.Goals as goal

pub returns-in-Some-clause-assigned : goal.returns-in-Some-clause-assigned
returns-in-Some-clause-assigned c = λ none. assigned_change c.expression-found.new.lowering.code.instructions.items c.change.new.lowering.code (operator_of c.args.how) c.in-Some.operator c.expression-found.result.value (search rules) (c.change.ensures.changed none)

pub returns-in-Some-clause-assigns : goal.returns-in-Some-clause-assigns
returns-in-Some-clause-assigns c = λ none.
    let is : operator_of c.args.how ≡ Some c.in-Some.operator = search rules in
    assigned_by_change is (c.expression-found.ensures.lowers (c.change.ensures.refused none)) (c.change.ensures.state none)

pub returns-in-None-clause-assigned : goal.returns-in-None-clause-assigned
returns-in-None-clause-assigned c = λ none. assigned_set c.expression-found.new.lowering.code.instructions.items c.set.new.lowering.code (operator_of c.args.how) c.expression-found.result.value (search rules) (c.set.ensures.set none)

pub returns-in-None-clause-assigns : goal.returns-in-None-clause-assigns
returns-in-None-clause-assigns c = λ none.
    let is : operator_of c.args.how ≡ None = search rules in
    assigned_by_set is (c.expression-found.ensures.lowers (c.set.ensures.refused none)) (c.set.ensures.state none)
