use Rattle.swift_certificate.proofs.Prelude.{◌≡◌, ◌∙◌, ◌<◌, Some, length, refl, sym, ap, arith, inl, inr, slice_get, cases_eq, get_or_from_slice_get, slice_get_within, life_of}
use Rattle.swift_certificate.proofs.ends.have_ended.Goals as goal

pub loop-place-preserved : goal.loop-place-preserved
loop-place-preserved c = λ t x lt is.
    elim (cases_eq t c.loop-place.place) [
      | inl same ↦
          let log = c.args.book.now.log in
          let at : t ≡ c.in-Ok.task = same ∙ sym c.in-Ok.ensures.1 in
          let here = get_or_from_slice_get c.args.endings.now c.loop-place.place x _ (ap (slice_get c.args.endings.now) (sym same) ∙ is) in (
            ap (λ n. (life_of n log).origin) at ∙ c.if-not-has_ended.ensures.origin refl ∙ ap (λ y. Some y.0) here,
            ap (λ n. (life_of n log).ending) at ∙ c.if-not-has_ended.ensures.ending refl ∙ ap (λ y. Some y.1) here,
          )
      | inr other ↦ c.loop-place.invariant t x (omega (arith, lt, other)) is
    ]

pub returns-clause-each : goal.returns-clause-each
returns-clause-each c = λ _ t x is.
    (let lt : t < length c.args.endings.now = slice_get_within c.args.endings.now t x is in
    c.loop-place.invariant t x (omega (arith, lt, c.loop-place-test.false)) is)

pub returns-clause-many : goal.returns-clause-many
returns-clause-many c = λ _. c.if-endings-tasks.false ∙ c.tasks.ensures
