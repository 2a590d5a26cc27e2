use Rattle.script_compiler.proofs.Prelude.{◌==◌, ℕ, ap, ◌∙◌, take, take_min, count_by}
use Rattle.script_compiler.proofs.lowering.plan.actor_place_in.Goals as goal

pub returns-clause-place : goal.returns-clause-place
returns-clause-place c =
    let executors = c.args.executors.now in
    c.count_of.ensures.count
    ∙ ap (λ (n : ℕ). count_by (λ e. e == c.executor_at-own.result) (take n executors)) c.min.ensures
    ∙ ap (count_by (λ e. e == c.executor_at-own.result)) (take_min c.args.actor executors)
    ∙ ap (λ (o : ℕ). count_by (λ e. e == o) (take c.args.actor executors)) c.executor_at-own.ensures
