use Rattle.std.proofs.Common.{◌≡◌, ◌≢◌, ◌∷◌, ◌++◌, [], true, false, None, refl, sym, ap, subst, ◌∙◌, arith, rules, w64, to_z, of_z, suc}
use Rattle.std.specs.Prelude.{IsNone}
use Rattle.std.proofs.lemmas.Bool.{false≢true}
use Rattle.swift_syntax.specs.Expressions.{kind_at, literal_of, opens_at, operator_in, table_of}
use Rattle.swift_syntax.specs.ReadersInside.{AreFrom, Grows, IsPut, ReadsGiven, reads_none, taken}
use Rattle.swift_syntax.specs.declared.sign.Sign.TheVariants as sign
use Rattle.swift_syntax.specs.declared.token.TokenKind.TheVariants as kind
use Rattle.swift_syntax.specs.declared.tree.ExprForm.TheVariants as form
use Rattle.swift_syntax.specs.declared.word.Word.TheVariants as word
use Rattle.swift_syntax.proofs.Arguments.{ReadsSome, argument_read, closed_read, given_read, none_read, some_read}
use Rattle.swift_syntax.proofs.Grown.{grows_on, grows_same}
use Rattle.swift_syntax.proofs.Refused.{grows_taken}
use Rattle.swift_syntax.proofs.Spelled.{literal_read, own_read, case_read, parenthesis_read, name_read, alone_read, call_read, member_read, lone_read, negated_read, inverted_read, unprefixed_read, awaited_read, tried_read, tried_grows, operands_alone_read, choice_read, uncovered_read, first_read, all_read, next_read, low_level}
use Rattle.swift_syntax.proofs.expression.+expression.Goals as goal

pub atom-returns-in-Number-clause-spelled : goal.atom-returns-in-Number-clause-spelled
atom-returns-in-Number-clause-spelled t c = λ n.
    let k : kind_at c.args.reader.now.tokens.now c.args.reader.now.at ≡ kind.Number c.in-Number.value = sym c.here.ensures.kind ∙ c.in-Number.is in
    let fits : to_z w64 (of_z w64 c.in-Number.value) ≡ c.in-Number.value = search rules in
    let put = subst (λ z. IsPut (taken c.args.reader.now) c.take_as.new.reader (form.Number z) c.args.reader.now.at c.take_as.result) fits (c.take_as.ensures.put n) in
    literal_read c.args.reader.now c.take_as.new.reader (form.Number c.in-Number.value) (ap literal_of k) put c.take_as.ensures.grows

pub atom-returns-in-Text-clause-spelled : goal.atom-returns-in-Text-clause-spelled
atom-returns-in-Text-clause-spelled t c = λ n.
    let k : kind_at c.args.reader.now.tokens.now c.args.reader.now.at ≡ kind.Text = sym c.here.ensures.kind ∙ c.in-Text.is in
    literal_read c.args.reader.now c.take_as-in-Text.new.reader form.Text (ap literal_of k) (c.take_as-in-Text.ensures.put n) c.take_as-in-Text.ensures.grows

pub atom-returns-in-Key-True-clause-spelled : goal.atom-returns-in-Key-True-clause-spelled
atom-returns-in-Key-True-clause-spelled t c = λ n.
    let k : kind_at c.args.reader.now.tokens.now c.args.reader.now.at ≡ kind.Key word.True = sym c.here.ensures.kind ∙ (c.in-Key-True.is ∙ ap kind.Key (rw c.in-Key-True.is at c.in-Key-True.field-0-is)) in
    literal_read c.args.reader.now c.take_as-in-Key-True.new.reader (form.Truth true) (ap literal_of k) (c.take_as-in-Key-True.ensures.put n) c.take_as-in-Key-True.ensures.grows

pub atom-returns-in-Key-False-clause-spelled : goal.atom-returns-in-Key-False-clause-spelled
atom-returns-in-Key-False-clause-spelled t c = λ n.
    let k : kind_at c.args.reader.now.tokens.now c.args.reader.now.at ≡ kind.Key word.False = sym c.here.ensures.kind ∙ (c.in-Key-False.is ∙ ap kind.Key (rw c.in-Key-False.is at c.in-Key-False.field-0-is)) in
    literal_read c.args.reader.now c.take_as-in-Key-False.new.reader (form.Truth false) (ap literal_of k) (c.take_as-in-Key-False.ensures.put n) c.take_as-in-Key-False.ensures.grows

pub atom-returns-in-Key-Own-clause-spelled : goal.atom-returns-in-Key-Own-clause-spelled
atom-returns-in-Key-Own-clause-spelled t c = λ n4.
    let k : kind_at c.args.reader.now.tokens.now c.args.reader.now.at ≡ kind.Key word.Own = sym c.here.ensures.kind ∙ (c.in-Key-Own.is ∙ ap kind.Key (rw c.in-Key-Own.is at c.in-Key-Own.field-0-is)) in
    let n3 = c.called.ensures.grows.refused n4 in
    let n2 = c.name-member.ensures.grows.refused n3 in
    own_read c.args.reader.now c.take.new.self c.sign.new.self c.name-member.new.self c.called.new.reader k c.take.ensures.taken (c.sign.ensures.taken n2) (c.name-member.ensures.taken n3) c.called.ensures.grows (c.called.ensures.spelled n4)

pub atom-returns-in-Sign-Dot-clause-spelled : goal.atom-returns-in-Sign-Dot-clause-spelled
atom-returns-in-Sign-Dot-clause-spelled t c = λ n3.
    let k : kind_at c.args.reader.now.tokens.now c.args.reader.now.at ≡ kind.Sign sign.Dot = sym c.here.ensures.kind ∙ (c.in-Sign-Dot.is ∙ ap kind.Sign (rw c.in-Sign-Dot.is at c.in-Sign-Dot.field-0-is)) in
    let n2 = c.called-in-Sign-Dot.ensures.grows.refused n3 in
    case_read c.args.reader.now c.take-in-Sign-Dot.new.self c.name-name.new.self c.called-in-Sign-Dot.new.reader k c.take-in-Sign-Dot.ensures.taken (c.name-name.ensures.taken n2) c.called-in-Sign-Dot.ensures.grows (c.called-in-Sign-Dot.ensures.spelled n3)

pub atom-returns-in-Sign-Open-clause-spelled : goal.atom-returns-in-Sign-Open-clause-spelled
atom-returns-in-Sign-Open-clause-spelled t c = λ n3.
    let k : kind_at c.args.reader.now.tokens.now c.args.reader.now.at ≡ kind.Sign sign.Open = sym c.here.ensures.kind ∙ (c.in-Sign-Open.is ∙ ap kind.Sign (rw c.in-Sign-Open.is at c.in-Sign-Open.field-0-is)) in
    let n2 = c.sign-in-Sign-Open.ensures.grows.refused n3 in
    parenthesis_read c.args.reader.now c.take-in-Sign-Open.new.self c.covered-inner.new.reader c.sign-in-Sign-Open.new.self k c.take-in-Sign-Open.ensures.taken c.covered-inner.ensures.grows (c.covered-inner.ensures.spelled n2) (c.sign-in-Sign-Open.ensures.taken n3)

pub atom-returns-in-Name-clause-spelled : goal.atom-returns-in-Name-clause-spelled
atom-returns-in-Name-clause-spelled t c = λ n.
    let k : kind_at c.args.reader.now.tokens.now c.args.reader.now.at ≡ kind.Name = sym c.here.ensures.kind ∙ c.in-Name.is in
    name_read c.args.reader.now c.named.new.reader k c.named.ensures.grows (c.named.ensures.spelled n)

pub called-returns-then-not-opens_arguments-clause-spelled : goal.called-returns-then-not-opens_arguments-clause-spelled
called-returns-then-not-opens_arguments-clause-spelled t c = λ n.
    let o : opens_at c.args.reader.now.tokens.now c.args.reader.now.at ≡ false = sym c.if-not-opens_arguments.ensures in
    alone_read c.args.reader.now c.expr.new.self o c.expr.ensures.grows (c.expr.ensures.put n)

pub called-returns-clause-spelled : goal.called-returns-clause-spelled
called-returns-clause-spelled t c = λ n.
    let n2 = c.expr-2.ensures.grows.refused n in
    let n1 = c.arguments-first.ensures.grows.refused n2 in
    let o : opens_at c.args.reader.now.tokens.now c.args.reader.now.at ≡ true = sym c.if-not-opens_arguments.ensures in
    call_read c.args.reader.now c.sign.new.self c.arguments-first.new.reader c.expr-2.new.self o (c.sign.ensures.taken n1).1 c.arguments-first.ensures.grows (c.arguments-first.ensures.spelled n2) (c.expr-2.ensures.put n) c.expr-2.ensures.grows

pub choice-returns-then-not-is_sign-clause-spelled : goal.choice-returns-then-not-is_sign-clause-spelled
choice-returns-then-not-is_sign-clause-spelled t c = λ n.
    let k : kind_at c.operands-test.new.reader.tokens.now c.operands-test.new.reader.at ≢ kind.Sign sign.Question = λ e. false≢true (c.if-not-is_sign.ensures.1 e) in
    operands_alone_read c.args.reader.now c.operands-test.new.reader k (c.operands-test.ensures.spelled n)

pub choice-returns-clause-spelled : goal.choice-returns-clause-spelled
choice-returns-clause-spelled t c = λ n6.
    let n5 = c.expr.ensures.grows.refused n6 in
    let n4 = c.choice-failed.ensures.grows.refused n5 in
    let n3 = c.take_choice.ensures.grows.refused n4 in
    let n2 = c.choice-held.ensures.grows.refused n3 in
    let n1 = c.take_choice-place.ensures.grows.refused n2 in
    choice_read c.args.reader.now c.operands-test.new.reader c.take_choice-place.new.reader c.choice-held.new.reader c.take_choice.new.reader c.choice-failed.new.reader c.expr.new.self (c.operands-test.ensures.spelled n1) c.take_choice-place.ensures.place (c.take_choice-place.ensures.taken n2) c.choice-held.ensures.grows (c.choice-held.ensures.spelled n3) (c.take_choice.ensures.taken n4) c.choice-failed.ensures.grows (c.choice-failed.ensures.spelled n5) (c.expr.ensures.put n6) c.expr.ensures.grows

pub covered-returns-then-is_key-clause-spelled : goal.covered-returns-then-is_key-clause-spelled
covered-returns-then-is_key-clause-spelled t c = λ n.
    let n3 = c.cover_of_try.ensures.grows.refused n in
    tried_read c.args.reader.now c.take-place.new.self c.is_optional-optional.new.reader c.covered-inner.new.reader c.cover_of_try.new.reader c.is_optional-optional.result (c.if-is_key.ensures.0 refl) c.take-place.ensures.place c.take-place.ensures.taken c.is_optional-optional.ensures.taken c.is_optional-optional.ensures.found c.covered-inner.ensures.grows (c.covered-inner.ensures.spelled n3) (c.cover_of_try.ensures.put n) c.cover_of_try.ensures.grows

pub covered-returns-then-is_key-clause-grows : goal.covered-returns-then-is_key-clause-grows
covered-returns-then-is_key-clause-grows t c = tried_grows c.args.reader.now c.take-place.new.self c.is_optional-optional.new.reader c.covered-inner.new.reader c.cover_of_try.new.reader c.is_optional-optional.result c.take-place.ensures.taken c.is_optional-optional.ensures.taken c.covered-inner.ensures.grows c.cover_of_try.ensures.grows

pub covered-returns-then-is_key-2-clause-spelled : goal.covered-returns-then-is_key-2-clause-spelled
covered-returns-then-is_key-2-clause-spelled t c = λ n.
    let n2 = c.expr.ensures.grows.refused n in
    awaited_read c.args.reader.now c.take-place-then-is_key-2.new.self c.covered-inner-then-is_key-2.new.reader c.expr.new.self (c.if-is_key-2.ensures.0 refl) c.take-place-then-is_key-2.ensures.place c.take-place-then-is_key-2.ensures.taken c.covered-inner-then-is_key-2.ensures.grows (c.covered-inner-then-is_key-2.ensures.spelled n2) (c.expr.ensures.put n) c.expr.ensures.grows

pub covered-returns-clause-spelled : goal.covered-returns-clause-spelled
covered-returns-clause-spelled t c = λ n. uncovered_read c.args.reader.now c.choice.new.reader (c.choice.ensures.spelled n)

pub named-returns-then-takes-clause-spelled : goal.named-returns-then-takes-clause-spelled
named-returns-then-takes-clause-spelled t c = λ n.
    let n3 = c.called.ensures.grows.refused n in
    member_read c.args.reader.now c.take-first.new.self c.takes.new.self c.name-member.new.self c.called.new.reader c.take-first.ensures.place c.take-first.ensures.taken (c.if-takes.ensures.found.0 refl) c.if-takes.ensures.taken (c.name-member.ensures.taken n3) c.called.ensures.grows (c.called.ensures.spelled n)

pub named-returns-clause-spelled : goal.named-returns-clause-spelled
named-returns-clause-spelled t c = λ n.
    let k : kind_at c.take-first.new.self.tokens.now c.take-first.new.self.at ≢ kind.Sign sign.Dot = λ e. false≢true (c.if-takes.ensures.found.1 e) in
    lone_read c.args.reader.now c.take-first.new.self c.takes.new.self c.called-2.new.reader c.take-first.ensures.place c.take-first.ensures.taken k c.if-takes.ensures.taken c.called-2.ensures.grows (c.called-2.ensures.spelled n)

pub operands-returns-in_default-clause-spelled : goal.operands-returns-in_default-clause-spelled
operands-returns-in_default-clause-spelled t c = λ n.
    let o : operator_in c.args.loosest (kind_at c.loop.reader.tokens.now c.loop.reader.at) ≡ None = sym c.in_default.ensures in
    all_read c.args.reader.now c.loop.reader o (c.loop.invariant.spelled n)

pub operands-returns-in_default-clause-grows : goal.operands-returns-in_default-clause-grows
operands-returns-in_default-clause-grows t c = c.loop.invariant.grows

pub operands-returns-clause-grows : goal.operands-returns-clause-grows
operands-returns-clause-grows t c = grows_on c.loop.invariant.grows c.missing-2.ensures.grows

pub prefixed-returns-then-is_sign-clause-spelled : goal.prefixed-returns-then-is_sign-clause-spelled
prefixed-returns-then-is_sign-clause-spelled t c = λ n.
    let n3 = c.expr.ensures.grows.refused n in
    let n2 = c.refuse_numeral.ensures.grows.refused n3 in
    let n1 = c.atom-operand.ensures.grows.refused n2 in
    negated_read c.args.reader.now c.take_prefix-place.new.reader c.atom-operand.new.reader c.refuse_numeral.new.reader c.expr.new.self (c.if-is_sign.ensures.0 refl) c.take_prefix-place.ensures.place (c.take_prefix-place.ensures.taken n1) c.atom-operand.ensures.grows (c.atom-operand.ensures.spelled n2) (c.refuse_numeral.ensures.same n3) (c.expr.ensures.put n) c.expr.ensures.grows

pub prefixed-returns-then-is_sign-2-clause-spelled : goal.prefixed-returns-then-is_sign-2-clause-spelled
prefixed-returns-then-is_sign-2-clause-spelled t c = λ n.
    let n2 = c.expr-then-is_sign-2.ensures.grows.refused n in
    let n1 = c.atom-operand-then-is_sign-2.ensures.grows.refused n2 in
    inverted_read c.args.reader.now c.take_prefix-place-then-is_sign-2.new.reader c.atom-operand-then-is_sign-2.new.reader c.expr-then-is_sign-2.new.self (c.if-is_sign-2.ensures.0 refl) c.take_prefix-place-then-is_sign-2.ensures.place (c.take_prefix-place-then-is_sign-2.ensures.taken n1) c.atom-operand-then-is_sign-2.ensures.grows (c.atom-operand-then-is_sign-2.ensures.spelled n2) (c.expr-then-is_sign-2.ensures.put n) c.expr-then-is_sign-2.ensures.grows

pub prefixed-returns-clause-spelled : goal.prefixed-returns-clause-spelled
prefixed-returns-clause-spelled t c = λ n. unprefixed_read c.args.reader.now c.atom.new.reader (c.atom.ensures.spelled n)

pub argument-returns : goal.argument-returns
argument-returns t c =
    record {
      spelled = λ n. argument_read c.args.reader.now c.label-label.new.reader c.covered-value.new.reader c.label-label.result c.covered-value.result c.label-label.ensures.there c.label-label.ensures.none c.label-label.ensures.grows c.covered-value.ensures.grows (c.covered-value.ensures.spelled n);
      grows = grows_on c.label-label.ensures.grows c.covered-value.ensures.grows;
    }

pub arguments-returns-then-takes-clause-spelled : goal.arguments-returns-then-takes-clause-spelled
arguments-returns-then-takes-clause-spelled t c = λ n. none_read c.args.reader.now c.takes.new.self (c.if-takes.ensures.found.0 refl) c.if-takes.ensures.taken

pub arguments-loop-init : goal.arguments-loop-init
arguments-loop-init t c =
    let same = c.if-takes.ensures.taken in
    record {
      grows = subst (λ r. Grows c.args.reader.now r) (sym same) (grows_same c.args.reader.now);
      spelled = λ n. rw c.new-given.ensures.items (reads_none (ap (λ r. r.at) (sym same)));
    }

pub arguments-loop-preserved : goal.arguments-loop-preserved
arguments-loop-preserved t c =
    let next = grows_taken c.if-not-takes.ensures.taken in
    let one = c.argument-one.new.reader in
    record {
      grows = grows_on c.loop.invariant.grows (grows_on c.argument-one.ensures.grows (grows_on c.keep.ensures.grows next));
      spelled = λ n.
          let n2 = next.refused n in
          let n1 = c.keep.ensures.grows.refused n2 in
          let kept = c.keep.ensures.kept n2 in
          let some = some_read c.loop.reader one c.argument-one.ensures.grows (c.loop.invariant.spelled (c.argument-one.ensures.grows.refused n1)) (c.argument-one.ensures.spelled n1) in
          let there = subst (λ x. ReadsSome x.tokens.now (table_of x.tree.value) c.args.reader.now.at x.at (c.loop.given.items ++ c.argument-one.result ∷ [])) (sym kept.1) some in
          subst (λ l. ReadsGiven c.takes-in-loop.new.self.tokens.now (table_of c.takes-in-loop.new.self.tree.value) c.args.reader.now.at c.takes-in-loop.new.self.at l) (sym kept.0) (given_read c.keep.new.reader c.takes-in-loop.new.self there (c.if-not-takes.ensures.found.0 refl) c.if-not-takes.ensures.taken);
    }

pub arguments-returns-then-not-takes-clause-spelled : goal.arguments-returns-then-not-takes-clause-spelled
arguments-returns-then-not-takes-clause-spelled t c = λ n.
    let one = c.argument-one.new.reader in
    let n4 = c.put_arguments.ensures.grows.refused n in
    let n3 = c.sign.ensures.grows.refused n4 in
    let n2 = subst (λ r. IsNone r.refused) c.if-not-takes.ensures.taken n3 in
    let n1 = c.keep.ensures.grows.refused n2 in
    let kept = c.keep.ensures.kept n2 in
    let some = some_read c.loop.reader one c.argument-one.ensures.grows (c.loop.invariant.spelled (c.argument-one.ensures.grows.refused n1)) (c.argument-one.ensures.spelled n1) in
    let there = subst (λ x. ReadsSome x.tokens.now (table_of x.tree.value) c.args.reader.now.at x.at (c.loop.given.items ++ c.argument-one.result ∷ [])) (sym (c.if-not-takes.ensures.taken ∙ kept.1)) some in
    let all = subst (λ l. ReadsSome c.takes-in-loop.new.self.tokens.now (table_of c.takes-in-loop.new.self.tree.value) c.args.reader.now.at c.takes-in-loop.new.self.at l) (sym kept.0) there in
    let close = c.sign.ensures.taken n4 in
    closed_read c.takes-in-loop.new.self c.sign.new.self c.put_arguments.new.reader all close.0 close.1 c.put_arguments.ensures.grows (c.put_arguments.ensures.at n) (subst (λ l. AreFrom c.put_arguments.new.reader.tree.value.arguments.items c.put_arguments.result l) c.deref.ensures.value (c.put_arguments.ensures.put n))

pub operands-loop-init : goal.operands-loop-init
operands-loop-init t c =
    record {
      grows = c.prefixed-left.ensures.grows;
      spelled = λ n. first_read c.args.reader.now c.prefixed-left.new.reader c.args.loosest (c.prefixed-left.ensures.spelled n);
    }

pub operands-loop-preserved : goal.operands-loop-preserved
operands-loop-preserved t c =
    let low = low_level c.args.loosest (kind_at c.loop.reader.tokens.now c.loop.reader.at) c.in-Some.found (sym c.in-Some.ensures) in
    let level : c.saturating_add.result ≡ suc c.in-Some.found.level = omega (arith, low) in
    record {
      grows = grows_on c.loop.invariant.grows (grows_on c.take_operator-place.ensures.grows (grows_on c.operands-right.ensures.grows (grows_on c.expr-left.ensures.grows c.refuse_chain.ensures.grows)));
      spelled = λ n5.
          let n4 = c.refuse_chain.ensures.grows.refused n5 in
          let n3 = c.expr-left.ensures.grows.refused n4 in
          let n2 = c.operands-right.ensures.grows.refused n3 in
          let n1 = c.take_operator-place.ensures.grows.refused n2 in
          next_read c.args.reader.now c.loop.reader c.take_operator-place.new.reader c.operands-right.new.reader c.expr-left.new.self c.refuse_chain.new.reader c.in-Some.found (c.loop.invariant.spelled n1) (sym c.in-Some.ensures) c.take_operator-place.ensures.place (c.take_operator-place.ensures.taken n2) c.operands-right.ensures.grows level (c.operands-right.ensures.spelled n3) (subst (λ f. IsPut c.operands-right.new.reader c.expr-left.new.self f c.take_operator-place.result c.expr-left.result) c.both.ensures (c.expr-left.ensures.put n4)) c.expr-left.ensures.grows (c.refuse_chain.ensures.same n5);
    }
