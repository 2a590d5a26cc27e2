use Rattle.std.proofs.Common.{◌≡◌, w64, to_z, of_z, sym, ap, rules, ◌∙◌}
use Rattle.swift_expressions.specs.Lowered as lowered
use Rattle.swift_expressions.specs.Lowered.{literal_kind, literal_number}
use Rattle.swift_expressions.proofs.Waited.{number_given, other_changing}
use Rattle.swift_expressions.proofs.waits.getter.Goals as goal

pub returns-then-declared-clause-reads : goal.returns-then-declared-clause-reads
returns-then-declared-clause-reads c = λ n3.
    let n2 = c.wait.ensures.refused n3 in
    let n1 = c.want_await.ensures.refused n2 in
    other_changing c.in-Some.ensures.found (sym c.in-Some-field_at.ensures) c.if-declared.true (c.want_await.ensures.state n2 ∙ c.field_kind-kind.ensures.state n1) (c.field_kind-kind.ensures.kind n1) (c.wait.ensures.waits n3)

pub returns-in-Value-clause-reads : goal.returns-in-Value-clause-reads
returns-in-Value-clause-reads c = λ n3.
    let n2 = c.with_kind.ensures.refused n3 in
    let n1 = c.literal-number.ensures.refused n2 in
    let same = c.field_kind-kind.ensures.state n1 in
    let kept : to_z w64 (of_z w64 c.literal-number.result.0) ≡ c.literal-number.result.0 = search rules in
    lowered.fixed c.in-Some.field c.in-Some.ensures.found (sym c.in-Some-field_at.ensures) c.if-declared.false c.in-Value.is
    (number_given c.in-Value.value (c.literal-number.ensures.state n2 ∙ same) (kept ∙ c.literal-number.ensures.number n2 ∙ ap (λ x. literal_number x c.in-Value.value) same) (c.literal-number.ensures.kind n2 ∙ ap (λ x. literal_kind x c.in-Value.value) same) (c.with_kind.ensures.gives n3))
