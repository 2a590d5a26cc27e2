use Rattle.std.proofs.Common.{sym, ap, ◌∙◌}
use Rattle.swift_types.specs.declared.operator.Operator.TheVariants as operators
use Rattle.swift_expressions.specs.Lowered.{counted}
use Rattle.swift_expressions.specs.States.{State, bytes_at, put}
use Rattle.swift_expressions.specs.declared.code.Instruction.TheVariants as instruction
use Rattle.swift_expressions.specs.declared.code.Target.TheVariants.{Nothing}
use Rattle.swift_expressions.specs.declared.code.TheConstants.{NONE}
use Rattle.swift_expressions.specs.declared.code.Wait.TheVariants as waiting
use Rattle.swift_lowering.specs.Blocks as blocks
use Rattle.swift_lowering.proofs.Blocked.{next_from, results_named, results_opened}
use Rattle.swift_lowering.proofs.tasks.begin_results.Goals as goal

pub returns-then-eq-clause-takes : goal.returns-then-eq-clause-takes
returns-then-eq-clause-takes c = λ n6.
    let n5 = c.count_down.ensures.refused n6 in
    let n4 = c.put.ensures.refused n5 in
    let n3 = c.open_results.ensures.refused n4 in
    let n2 = c.mark_used.ensures.refused n3 in
    let n1 = c.want_results.ensures.refused n2 in
    let opened = results_opened c.in-Some.found c.in-Some.place (c.want_results.ensures.state n2 ∙ c.group_named.ensures.state n1) (c.mark_used.ensures.state n3) (c.open_results.ensures.state n4) in
    blocks.of_nothing c.in-Some.place c.in-Some.ensures.found (c.count_down.ensures.state n6 ∙ ap (counted operators.Minus c.in-Some.found.count) (c.put.ensures.state n5 ∙ ap (put (instruction.Wait Nothing (waiting.Next c.in-Some.found.variable) NONE)) opened))

pub returns-then-spells-clause-takes : goal.returns-then-spells-clause-takes
returns-then-spells-clause-takes c = λ n4.
    let n3 = c.next_result.ensures.refused n4 in
    let n2 = c.open_results.ensures.refused n3 in
    let n1 = c.mark_used.ensures.refused n2 in
    let same = c.want_results.ensures.state n1 ∙ c.group_named.ensures.state (c.want_results.ensures.refused n1) in
    let opened = results_opened c.in-Some.found c.in-Some.place same (c.mark_used.ensures.state n2) (c.open_results.ensures.state n3) in
    blocks.without_name c.in-Some.place c.in-Some.ensures.found (sym (ap (λ (x : State). bytes_at x c.args.name) opened) ∙ c.spells.ensures.0 c.if-spells.true) (next_from opened (c.next_result.ensures.next n4))

pub returns-clause-takes : goal.returns-clause-takes
returns-clause-takes c = λ n5.
    let n4 = c.declare.ensures.refused n5 in
    let n3 = c.next_result-variable.ensures.refused n4 in
    let n2 = c.open_results.ensures.refused n3 in
    let n1 = c.mark_used.ensures.refused n2 in
    let same = c.want_results.ensures.state n1 ∙ c.group_named.ensures.state (c.want_results.ensures.refused n1) in
    let opened = results_opened c.in-Some.found c.in-Some.place same (c.mark_used.ensures.state n2) (c.open_results.ensures.state n3) in
    results_named c.in-Some.place c.in-Some.ensures.found opened c.next_result-variable.ensures.place (c.next_result-variable.ensures.next n4) (c.declare.ensures.binds n5)
