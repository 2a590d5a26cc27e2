use Rattle.swift_certificate.proofs.Prelude.{◌≡◌, ◌<◌, ◌∙◌, ℕ, true, refl, sym, subst, arith, inl, inr, cases_eq, opened_by, is_closed}
use Rattle.swift_certificate.proofs.ends.have_closed.Goals as goal

pub loop-place-preserved : goal.loop-place-preserved
loop-place-preserved c = λ t g lt below.
    elim (cases_eq t c.loop-place.place) [
      | inl same ↦
          let at : t ≡ c.in-Ok.task = same ∙ sym c.in-Ok.ensures.1 in
          subst (λ (n : ℕ). is_closed n g c.args.book.now.log ≡ true) (sym at) (c.if-not-has_closed_all.ensures.closed refl g (subst (λ (n : ℕ). g < opened_by n c.args.book.now.log) at below))
      | inr other ↦ c.loop-place.invariant t g (omega (arith, lt, other)) below
    ]

pub returns : goal.returns
returns c = λ _ t g lt below. c.loop-place.invariant t g (omega (arith, lt, c.loop-place-test.false)) below
