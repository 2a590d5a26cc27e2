use Rattle.expectations.proofs.Prelude.{rules, ℕ, List, ap, subst, term_of, view, Names}
use Rattle.expectations.proofs.Resolving.{both_read, minus_read, name_read, not_read, number_read}
use Rattle.expectations.proofs.reading.+resolved.Goals as goal

pub returns-in-Number : goal.returns-in-Number
returns-in-Number t c = number_read c.args.script.now (view c.args.expr.now) c.in-Number.number _ (ap view c.in-Number.is) (search rules)

pub returns-in_ok-new-in-Negate : goal.returns-in_ok-new-in-Negate
returns-in_ok-new-in-Negate t c =
    minus_read c.args.script.now (view c.args.expr.now) (view c.in-Negate.operand.value) (view c.deref-in-Negate.result.now) (term_of c.in_ok-operand-in-Negate.operand) _
    (ap view c.in-Negate.is) (ap view c.deref-in-Negate.ensures) (ap term_of c.in_ok-new-in-Negate.ensures.ok) c.in_ok-operand-in-Negate.ensures

pub returns-in_ok-new-in-Not : goal.returns-in_ok-new-in-Not
returns-in_ok-new-in-Not t c =
    not_read c.args.script.now (view c.args.expr.now) (view c.in-Not.operand.value) (view c.deref-in-Not.result.now) (term_of c.in_ok-operand-in-Not.operand) _
    (ap view c.in-Not.is) (ap view c.deref-in-Not.ensures) (ap term_of c.in_ok-new-in-Not.ensures.ok) c.in_ok-operand-in-Not.ensures

pub returns-in_ok-right-in-Binary : goal.returns-in_ok-right-in-Binary
returns-in_ok-right-in-Binary t c =
    both_read c.args.script.now c.in-Binary.operator (view c.args.expr.now) (view c.in-Binary.left.value) (view c.in-Binary.right.value)
    (view (c.deref-in-Binary).result.now) (view (c.deref-in-Binary-2).result.now)
    (term_of (c.in_ok-resolved-in-Binary).field-0) (term_of (c.in_ok-resolved-in-Binary-2).field-0) _ _
    (ap view c.in-Binary.is) (ap view (c.deref-in-Binary).ensures) (ap view (c.deref-in-Binary-2).ensures)
    (ap term_of c.in_ok-left-in-Binary.ensures.ok) (ap term_of c.in_ok-right-in-Binary.ensures.ok) (c.in_ok-resolved-in-Binary).ensures (c.in_ok-resolved-in-Binary-2).ensures

pub returns-in_ok-named_one-in-Name : goal.returns-in_ok-named_one-in-Name
returns-in_ok-named_one-in-Name t c =
    let f = term_of c.in_ok-named_one-in-Name.field-0 in
    name_read c.args.script.now (view c.args.expr.now) c.in-Name.name.text.items f (ap view c.in-Name.is)
    (subst (λ (n : List ℕ). Names c.args.script.now n f) c.deref.ensures.value c.in_ok-named_one-in-Name.ensures)
