use Rattle.std.proofs.Common.{◌≡◌, length, true, ap, sym, arith, ◌∙◌}
use Rattle.swift_syntax.specs.declared.tree.Expr.{Expr}
use Rattle.swift_expressions.specs.declared.code.Kind.TheVariants as kinds
use Rattle.swift_expressions.specs.Lowered as lowered
use Rattle.swift_expressions.specs.Lowered.{close_shortcut, open_shortcut, open_choice, turn_choice}
use Rattle.swift_expressions.specs.States.{State, covered, next_value, next_variable, state_of}
use Rattle.swift_expressions.proofs.Stepped.{call_lowered, choice_given, given_from, given_kind, handed_nothing, handed_where, hands_all, hands_none, hands_on, kept_where, leaf_read, lowered_from, lowered_to, otherwise_lowered}
use Rattle.swift_expressions.proofs.value.+value.Goals as goal

pub negated-returns-clause-negated : goal.negated-returns-clause-negated
negated-returns-clause-negated t c = λ p e n3.
    let n2 = c.with_kind.ensures.refused n3 in
    let n1 = c.want.ensures.refused n2 in
    lowered.negated e (c.value-found.ensures.lowers n1) (given_from (c.want.ensures.state n2) (c.with_kind.ensures.gives n3))

pub inverted-returns-clause-inverted : goal.inverted-returns-clause-inverted
inverted-returns-clause-inverted t c = λ p e n3.
    let n2 = c.with_kind.ensures.refused n3 in
    let n1 = c.want.ensures.refused n2 in
    lowered.inverted e (c.value-found.ensures.lowers n1) (given_from (c.want.ensures.state n2) (c.with_kind.ensures.gives n3))

pub binary-returns-clause-binary : goal.binary-returns-clause-binary
binary-returns-clause-binary t c = λ p e cut n5.
    let n4 = c.with_kind.ensures.refused n5 in
    let n3 = c.result_kind-kind.ensures.refused n4 in
    let n2 = c.value-second.ensures.refused n3 in
    let n1 = c.keep_if-first.ensures.refused n2 in
    lowered.binary c.keep_if-first.result e cut (c.value-first.ensures.lowers n1) (kept_where c.acts-is_changing.ensures (c.keep_if-first.ensures.keeps n2)) (c.value-second.ensures.lowers n3)
    (given_from (c.result_kind-kind.ensures.state n4) (given_kind c.result_kind-kind.ensures.kind (c.with_kind.ensures.gives n5)))

pub shortcut-returns-clause-shortcut : goal.shortcut-returns-clause-shortcut
shortcut-returns-clause-shortcut t c = λ p e cut n.
    let n5 = c.close_shortcut.ensures.refused n in
    let n4 = c.want-2.ensures.refused n5 in
    let n3 = c.value-second.ensures.refused n4 in
    let n2 = c.open_shortcut-variable.ensures.refused n3 in
    let n1 = c.want.ensures.refused n2 in
    lowered.shortcut e cut (c.value-first.ensures.lowers n1)
    (c.open_shortcut-variable.ensures.state n3 ∙ ap (open_shortcut c.args.operator c.value-first.result) (c.want.ensures.state n2))
    (c.value-second.ensures.lowers n4)
    (c.close_shortcut.ensures.state n ∙ ap (close_shortcut c.open_shortcut-variable.result.0 c.value-second.result) (c.want-2.ensures.state n5)
    ∙ ap (λ x. close_shortcut x c.value-second.result (covered c.open_shortcut-variable.new.lowering.setting.is_awaited (state_of c.value-second.new.lowering))) (c.open_shortcut-variable.ensures.variable ∙ ap next_variable (c.want.ensures.state n2)))
    (ap (λ x. record { value = x; kind = kinds.Bool }) (c.open_shortcut-variable.ensures.value n3 ∙ ap next_value (c.want.ensures.state n2)))

pub shortcut-returns-clause-comma : goal.shortcut-returns-clause-comma
shortcut-returns-clause-comma t c = λ p e is n.
    let n5 = c.close_shortcut.ensures.refused n in
    let n4 = c.want-2.ensures.refused n5 in
    let n3 = c.value-second.ensures.refused n4 in
    let n2 = c.open_shortcut-variable.ensures.refused n3 in
    let n1 = c.want.ensures.refused n2 in
    lowered.comma e (c.value-first.ensures.lowers n1)
    (c.open_shortcut-variable.ensures.state n3 ∙ ap (open_shortcut c.args.operator c.value-first.result) (c.want.ensures.state n2) ∙ ap (λ o. open_shortcut o c.value-first.result (state_of c.value-first.new.lowering)) is)
    (c.value-second.ensures.lowers n4)
    (c.close_shortcut.ensures.state n ∙ ap (close_shortcut c.open_shortcut-variable.result.0 c.value-second.result) (c.want-2.ensures.state n5)
    ∙ ap (λ x. close_shortcut x c.value-second.result (covered c.open_shortcut-variable.new.lowering.setting.is_awaited (state_of c.value-second.new.lowering))) (c.open_shortcut-variable.ensures.variable ∙ ap next_variable (c.want.ensures.state n2)))
    (ap (λ x. record { value = x; kind = kinds.Bool }) (c.open_shortcut-variable.ensures.value n3 ∙ ap next_value (c.want.ensures.state n2)))

pub choice-returns-clause-choice : goal.choice-returns-clause-choice
choice-returns-clause-choice t c = λ p e n9.
    let n8 = c.with_kind.ensures.refused n9 in
    let n7 = c.want-2.ensures.refused n8 in
    let n6 = c.close_shortcut.ensures.refused n7 in
    let n5 = c.value-second.ensures.refused n6 in
    let n4 = c.turn_choice.ensures.refused n5 in
    let n3 = c.value-first.ensures.refused n4 in
    let n2 = c.open_choice-variable.ensures.refused n3 in
    let n1 = c.want.ensures.refused n2 in
    let v : c.open_choice-variable.result ≡ next_variable (state_of c.value-found.new.lowering) = c.open_choice-variable.ensures.variable ∙ ap next_variable (c.want.ensures.state n2) in
    lowered.choice e (c.value-found.ensures.lowers n1)
    (c.open_choice-variable.ensures.state n3 ∙ ap (open_choice c.value-found.result) (c.want.ensures.state n2))
    (c.value-first.ensures.lowers n4)
    (c.turn_choice.ensures.state n5 ∙ ap (λ x. turn_choice x c.value-first.result (state_of c.value-first.new.lowering)) v)
    (c.value-second.ensures.lowers n6)
    (choice_given c.value-second.result (state_of c.value-second.new.lowering) v (c.want-2.ensures.state n8 ∙ c.close_shortcut.ensures.state n7) (c.with_kind.ensures.gives n9))

pub awaited-returns-clause-awaited : goal.awaited-returns-clause-awaited
awaited-returns-clause-awaited t c = λ p e n2.
    let n1 = c.value-found.ensures.refused n2 in
    let same = c.refuse_where.ensures.state n1 in
    lowered_to (ap (λ (x : State). covered x.is_awaited (state_of c.value-found.new.lowering)) same) (lowered.awaited e (lowered_from (ap (covered true) same) (c.value-found.ensures.lowers n2)))

pub tried-returns-clause-tried : goal.tried-returns-clause-tried
tried-returns-clause-tried t c = λ p e n2.
    let n1 = c.value-found.ensures.refused n2 in
    lowered.tried e (lowered_from (c.refuse_thrown.ensures.state n1) (c.value-found.ensures.lowers n2))

pub otherwise-returns-clause-otherwise : goal.otherwise-returns-clause-otherwise
otherwise-returns-clause-otherwise t c = λ p e n6.
    let n5 = c.want.ensures.refused n6 in
    let n4 = c.refuse_where-2.ensures.refused n5 in
    let n3 = c.value-found.ensures.refused n4 in
    let n2 = c.value-instead.ensures.refused n3 in
    let n1 = c.refuse_where.ensures.refused n2 in
    otherwise_lowered e (c.refuse_where.ensures.state n2 ∙ c.want_wait.ensures.state n1) c.caught-inner.ensures c.fallback_of-lowering.ensures (c.want.ensures.state n6 ∙ c.refuse_where-2.ensures.state n5) (c.value-instead.ensures.lowers n3) (c.value-found.ensures.lowers n4)

pub lower_operands-loop-init : goal.lower_operands-loop-init
lower_operands-loop-init t c = record { refused = λ n. n; hands = λ n s found h. hands_all c.none-found.ensures h }

pub lower_operands-loop-preserved : goal.lower_operands-loop-preserved
lower_operands-loop-preserved t c = record {
  refused = λ n3.
      let n2 = c.with-found.ensures.refused n3 in
      let n1 = c.keep_if-kept.ensures.refused n2 in
      c.loop.invariant.refused (c.value-given.ensures.refused n1);
  hands = λ n3 s found h.
      let n2 = c.with-found.ensures.refused n3 in
      let n1 = c.keep_if-kept.ensures.refused n2 in
      c.loop.invariant.hands (c.value-given.ensures.refused n1) s found (hands_on {n = length c.args.lowering.now.tree.now.value.arguments.items} (omega (arith, c.loop-test.true, rw c.deref.ensures at c.len-end.ensures, c.args.lowering.now.tree.now.value.arguments.ok.0)) (sym c.in-Some.ensures) (c.value-given.ensures.lowers n1) (c.keep_if-kept.ensures.keeps n2) (c.with-found.ensures.state n3) c.with-found.ensures.found h);
}

pub lower_operands-returns-in_default-clause-hands : goal.lower_operands-returns-in_default-clause-hands
lower_operands-returns-in_default-clause-hands t c = λ n. c.loop.invariant.hands n _ _ (lowered.no_more (sym c.in_default.ensures))

pub lower_operands-returns-clause-hands : goal.lower_operands-returns-clause-hands
lower_operands-returns-clause-hands t c = λ n. c.loop.invariant.hands n _ _ (hands_none {n = length c.args.lowering.now.tree.now.value.arguments.items} {i = c.loop.counter} (omega (arith, c.loop-test.false, rw c.deref.ensures at c.len-end.ensures, c.args.lowering.now.tree.now.value.arguments.ok.0)))

pub given_operands-returns-then-takes_operands-clause-hands : goal.given_operands-returns-then-takes_operands-clause-hands
given_operands-returns-then-takes_operands-clause-hands t c = λ n. handed_where (sym c.if-takes_operands.true) (lowered.values (c.lower_operands.ensures.hands n))

pub given_operands-returns-else-takes_operands-clause-hands : goal.given_operands-returns-else-takes_operands-clause-hands
given_operands-returns-else-takes_operands-clause-hands t c = λ n. handed_nothing (sym c.if-takes_operands.false) c.none.ensures

pub value-returns-in-Call-clause-lowers : goal.value-returns-in-Call-clause-lowers
value-returns-in-Call-clause-lowers t c = λ n3.
    let n2 = c.call.ensures.refused n3 in
    let n1 = c.given_operands-given.ensures.refused n2 in
    call_lowered c.method_of-method.result.called (sym (ap (λ (x : Expr). x.form) c.expr-form.ensures) ∙ c.in-Call.is) (ap (λ (x : Expr). x.token) c.expr-form.ensures)
    (c.method_of-method.ensures.named n1) (c.method_of-method.ensures.state n1) c.method_of-method.ensures.values (c.given_operands-given.ensures.hands n2) (c.call.ensures.calls (c.method_of-method.ensures.known n1) n3)

pub value-returns-in_default-clause-lowers : goal.value-returns-in_default-clause-lowers
value-returns-in_default-clause-lowers t c = λ n. lowered.leaf (leaf_read c.expr-form.ensures (c.leaf.ensures.leaf n))
