use Rattle.swift_explorer.proofs.Prelude.{rules, ◌≡◌, ◌∙◌, ℕ, length, refl, sym, ap, arith, inl, inr, arc_value, life_of, is_begun, seat_of}
use Rattle.swift_explorer.proofs.Ended.{lt_or}
use Rattle.swift_explorer.proofs.Orderly.{before_or_past, seat_past}
use Rattle.swift_explorer.proofs.history.SearchedHistory.is_busy.Goals as goal

pub loop-place-preserved : goal.loop-place-preserved
loop-place-preserved c = λ of u lt seat.
    (let x = c.args.self.now in
    let script = arc_value x.steps.script in
    let same : c.in-Ok.number ≡ c.loop-place.place = search rules in
    elim (lt_or u c.loop-place.place lt) [
      | inl old ↦ c.loop-place.invariant of u old seat
      | inr new ↦
          ap (λ (n : ℕ). is_begun (life_of n x.steps.book.log).stage) (new ∙ sym same)
          ∙ c.if-runs_at.ensures.none refl of (ap (seat_of script x.steps.tasks.items) (same ∙ sym new) ∙ seat)
    ])

pub returns-clause-free : goal.returns-clause-free
returns-clause-free c = λ _ of u seat.
    (let x = c.args.self.now in
    elim (before_or_past u (length x.steps.tasks.items)) [
      | inl lt ↦ c.loop-place.invariant of u (omega (arith, lt, c.loop-place-test.false, c.len-place-end.ensures)) seat
      | inr le ↦ absurd (seat_past (arc_value x.steps.script) x.steps.tasks.items u c.args.executor le seat)
    ])
