use Rattle.std.proofs.Common.{◌≡◌, ◌-◌, ℕ, sym, subst, ◌∙◌, arith, inl, inr}
use Rattle.std.proofs.lemmas.Bool.{cases_eq, true≢false}
use Rattle.script_context.specs.Words.{IsKeyAt}
use Rattle.script_context.proofs.braces.last_key.Goals as goal

pub loop-at-preserved : goal.loop-at-preserved
loop-at-preserved c = (
  omega arith,
  λ k from to key. elim (cases_eq k (c.loop-at.at - 1)) [
    | inl same ↦ true≢false (sym (c.is_key.ensures.1 (subst (λ (x : ℕ). IsKeyAt c.args.tokens.now x c.args.keyword) same key)) ∙ c.if-is_key.false)
    | inr other ↦ c.loop-at.invariant.1 k (omega (arith, from, other)) to key
  ],
)
