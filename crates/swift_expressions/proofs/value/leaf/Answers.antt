use Rattle.std.proofs.Common.{◌≡◌, w64, to_z, of_z, pos, sym, ap, rules, ◌∙◌}
use Rattle.swift_expressions.specs.declared.code.Value.TheVariants as value
use Rattle.swift_expressions.specs.Lowered as lowered
use Rattle.swift_expressions.proofs.Stepped.{given_as, given_from, leaf_by, number_of_rank, number_of_truth}
use Rattle.swift_expressions.proofs.value.leaf.Goals as goal

pub returns-in-Number-clause-leaf : goal.returns-in-Number-clause-leaf
returns-in-Number-clause-leaf c = λ n.
    let same : to_z w64 (of_z w64 c.in-Number.number) ≡ c.in-Number.number = search rules in
    leaf_by (sym c.in-Number.is) (lowered.number (given_as (ap value.Number same) (c.with_kind.ensures.gives n)))

pub returns-in-Truth-clause-leaf : goal.returns-in-Truth-clause-leaf
returns-in-Truth-clause-leaf c = λ n. leaf_by (sym c.in-Truth.is) (lowered.truth (given_as (ap value.Number (ap (λ z. to_z w64 (of_z w64 z)) c.from.ensures ∙ number_of_truth c.in-Truth.truth)) (c.with_kind-in-Truth.ensures.gives n)))

pub returns-in-Name-clause-leaf : goal.returns-in-Name-clause-leaf
returns-in-Name-clause-leaf c = λ n. leaf_by (sym c.in-Name.is) (lowered.name (c.name.ensures.means n))

pub returns-in-OwnMember-clause-leaf : goal.returns-in-OwnMember-clause-leaf
returns-in-OwnMember-clause-leaf c = λ n. leaf_by (sym c.in-OwnMember.is) (lowered.own_member (c.own_field.ensures.names n))

pub returns-in-Member-clause-leaf : goal.returns-in-Member-clause-leaf
returns-in-Member-clause-leaf c = λ n. leaf_by (sym c.in-Member.is) (lowered.member (c.member.ensures.names n))

pub returns-in-Case-clause-leaf : goal.returns-in-Case-clause-leaf
returns-in-Case-clause-leaf c = λ n. leaf_by (sym c.in-Case.is) (lowered.priority c.priority_named.result (c.priority_named.ensures.named (c.with_kind-in-Case.ensures.refused n)) (given_as (ap value.Number (ap (λ z. to_z w64 (of_z w64 z)) (c.from-number.ensures ∙ ap pos c.number.ensures) ∙ number_of_rank c.priority_named.result)) (given_from (c.priority_named.ensures.state (c.with_kind-in-Case.ensures.refused n)) (c.with_kind-in-Case.ensures.gives n))))
