use Rattle.swift_explorer.proofs.Prelude.{◌<◌, ◌∙◌, ℕ, refl, subst, ap, arith, inl, inr, opened_by, is_closed}
use Rattle.swift_explorer.proofs.Ended.{lt_or}
use Rattle.swift_explorer.proofs.history.SearchedHistory.has_closed_all.Goals as goal

pub loop-place-preserved : goal.loop-place-preserved
loop-place-preserved c = λ t g lt below.
    (let log = c.args.self.now.steps.book.log in
    elim (lt_or t c.loop-place.place lt) [
      | inl old ↦ c.loop-place.invariant t g old below
      | inr new ↦ ap (λ (u : ℕ). is_closed u g log) new ∙ c.if-not-has_closed_all.ensures.closed refl g (subst (λ (u : ℕ). g < opened_by u log) new below)
    ])

pub returns : goal.returns
returns c = λ _ t g lt below. c.loop-place.invariant t g (omega (arith, lt, c.loop-place-test.false)) below
