use Rattle.swift_explorer.proofs.Prelude.{◌≡◌, ◌∙◌, ◌+◌, ℕ, length, sym, subst, ap, life_of, AreEnded}
use Rattle.swift_explorer.proofs.Ended.{ended_push, push_length}
use Rattle.swift_explorer.proofs.history.SearchedHistory.endings.Goals as goal

pub loop-place-preserved : goal.loop-place-preserved
loop-place-preserved c =
    let log = c.args.self.now.steps.book.log in
    let es = c.loop-place.endings.items in
    let many : length es ≡ c.loop-place.place = c.loop-place.invariant.many in
    record {
      many = ap length c.in_ok-push.ensures.items ∙ push_length es c.in-Some.ended ∙ ap (λ (n : ℕ). n + 1) many;
      are = subst (AreEnded log) (sym c.in_ok-push.ensures.items)
          (ended_push log es c.in-Some.ended c.loop-place.invariant.are (ap (λ (n : ℕ). (life_of n log).origin) many ∙ c.in-Some.ensures.origin) (ap (λ (n : ℕ). (life_of n log).ending) many ∙ c.in-Some.ensures.ending));
    }
