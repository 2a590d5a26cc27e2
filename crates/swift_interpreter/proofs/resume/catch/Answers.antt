use Rattle.swift_interpreter.proofs.Prelude.{◌≡◌, ℤ, Option, Some, None, refl, sym, ap, ◌∙◌, rules, w64, to_z, of_z, IfOk-weaker, Fault, Turns, Term, term_of, term_if, ev, Formula, TurnStateView, TurnInputView, AfterStatement, caught, failing, given, leaves, scene, with_value, lent, state_of}
use Rattle.swift_interpreter.proofs.Arguments.{seen}
use Rattle.swift_interpreter.proofs.resume.catch.Goals as goal

-- without `else` each fault is a fault
caught_none : (g : TurnInputView) (f : Fault) (s : TurnStateView) (go : ℤ → AfterStatement) → leaves s (failing f) ≡ caught g f None s go
caught_none g Turns s go = refl
caught_none g f s go = refl

-- `else` gives a value in the place of every fault but `turns`
caught_some : (g : TurnInputView) (f : Fault) (t : Term) (s : TurnStateView) (go : ℤ → AfterStatement) → (f ≡ Turns → ⊥)
    → with_value (ev t (scene g s)) s go ≡ caught g f (Some t) s go
caught_some g Turns t s go other = absurd (other refl)
caught_some g f t s go other = refl

pub returns-then-eq-clause-next : goal.returns-then-eq-clause-next
returns-then-eq-clause-next c = λ at.
    let g = lent c.args.outer.now c.args.env.now in
    let s = state_of at c.args.turn.now in
    let turns : c.args.f ≡ Turns = search rules in
    ap (λ (f : Fault). leaves s (failing f)) turns
    ∙ ap (λ (f : Fault). caught g f (term_if c.args.other.now) s (given c.args.place (at c.args.next) s)) (sym turns)

pub returns-in_default-clause-next : goal.returns-in_default-clause-next
returns-in_default-clause-next c = λ at.
    let g = lent c.args.outer.now c.args.env.now in
    let s = state_of at c.args.turn.now in
    let go = given c.args.place (at c.args.next) s in
    caught_none g c.args.f s go ∙ ap (λ (e : Option Formula). caught g c.args.f (term_if e) s go) (sym c.in_default.is)

pub returns-in_default-value-clause-next : goal.returns-in_default-value-clause-next
returns-in_default-value-clause-next c = λ at.
    let g = lent c.args.outer.now c.args.env.now in
    let s = state_of at c.args.turn.now in
    let go = given c.args.place (at c.args.next) s in
    let t = term_of c.in-Some.e in
    let other : c.args.f ≡ Turns → ⊥ = search rules in
    let value = seen t _ c.args.turn.now c.args.outer.now c.args.env.now _ _ _
    c.deref.ensures.value c.deref-2.ensures.value c.deref-3.ensures.value c.value.ensures in
    ap (λ (v : Option ℤ). with_value v s go) (sym c.in_default-value.is ∙ value at)
    ∙ caught_some g c.args.f t s go other
    ∙ ap (λ (e : Option Formula). caught g c.args.f (term_if e) s go) (sym c.in-Some.is)

pub returns-clause-next : goal.returns-clause-next
returns-clause-next c =
    let g = lent c.args.outer.now c.args.env.now in
    let turn = c.args.turn.now in
    let t = term_of c.in-Some.e in
    let v = c.in-Some-value.v in
    let other : c.args.f ≡ Turns → ⊥ = search rules in
    let same : to_z w64 (of_z w64 v) ≡ v = search rules in
    let value = seen t _ turn c.args.outer.now c.args.env.now _ _ _
    c.deref.ensures.value c.deref-2.ensures.value c.deref-3.ensures.value c.value.ensures in
    IfOk-weaker c.give.result _ _ (λ exit h. λ at.
    let s = state_of at turn in
    let go = given c.args.place (at c.args.next) s in
    h at ∙ ap go same
    ∙ ap (λ (x : Option ℤ). with_value x s go) (sym c.in-Some-value.is ∙ value at)
    ∙ caught_some g c.args.f t s go other
    ∙ ap (λ (e : Option Formula). caught g c.args.f (term_if e) s go) (sym c.in-Some.is)) c.give.ensures.next
