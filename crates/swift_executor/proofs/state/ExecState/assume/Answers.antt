use Rattle.swift_executor.proofs.Prelude.{◌≡◌, false, Some, Option, IfSome, refl, ap, sym, subst, ◌∙◌, Env, ChosenView, ExecStateView, HasChosen, IsChosen, ExecInvariant, IsPicked, begun, begun_as, chosen_at, chosen_of, Begun}
use Rattle.swift_executor.proofs.ChosenJob.{seen}
use Rattle.swift_executor.proofs.StateKept.{stage_keeps}
use Rattle.swift_executor.proofs.state.ExecState.assume.Goals as goal

pub invariant_of-self : goal.invariant_of-self
invariant_of-self c =
    let x = c.self.inside in
    let env : Env = record { priority = c.priority.result; cancelled = false; room = c.args.room } in
    let s : ExecStateView = record { script = x.home.script; executor = x.home.executor; ready = x.ready; chosen = chosen_of x.played x.chosen; journal = x.journal; checkpoint = x.checkpoint.view; fields = x.played.fields.before } in
    let has : HasChosen s (λ c. IsPicked c.stage) = subst (λ (v : ExecStateView). HasChosen v (λ c. IsPicked c.stage)) (sym c.self.view_is) c.requires in
    let was : IsChosen s has.0 = subst (λ (o : Option ChosenView). IfSome o (IsChosen s)) has.1 c.self.invariant.chosen in
    let k = seen x.played x.chosen.arrival x.chosen.stage x.chosen.job has.0 has.1 in
    let new : chosen_at x.played x.chosen.arrival (Begun c.args.worker env) x.chosen.job ≡ Some (record has.0 { stage = begun c.args.worker env }) =
    ap (chosen_at x.played x.chosen.arrival (Begun c.args.worker env)) k.job ∙ ap (λ (v : ChosenView). Some (record v { job = has.0.job; stage = begun c.args.worker env })) (sym k.view) in
    subst (λ (o : Option ChosenView). ExecInvariant (record s { chosen = o })) (sym new)
    (stage_keeps s has.0 (record has.0 { stage = begun c.args.worker env }) c.self.invariant has.1 was.belongs refl refl tt)

pub returns : goal.returns
returns c =
    let x = c.self.inside in
    let env : Env = record { priority = c.priority.result; cancelled = false; room = c.args.room } in
    let s : ExecStateView = record { script = x.home.script; executor = x.home.executor; ready = x.ready; chosen = chosen_of x.played x.chosen; journal = x.journal; checkpoint = x.checkpoint.view; fields = x.played.fields.before } in
    let has : HasChosen s (λ c. IsPicked c.stage) = subst (λ (v : ExecStateView). HasChosen v (λ c. IsPicked c.stage)) (sym c.self.view_is) c.requires in
    let k = seen x.played x.chosen.arrival x.chosen.stage x.chosen.job has.0 has.1 in
    let new : chosen_at x.played x.chosen.arrival (Begun c.args.worker env) x.chosen.job ≡ Some (record has.0 { stage = begun c.args.worker env }) =
    ap (chosen_at x.played x.chosen.arrival (Begun c.args.worker env)) k.job ∙ ap (λ (v : ChosenView). Some (record v { job = has.0.job; stage = begun c.args.worker env })) (sym k.view) in
    (has.0, ap (λ (v : ExecStateView). v.chosen) (sym c.self.view_is) ∙ has.1, (env, ap (λ (o : Option ChosenView). record s { chosen = o }) new ∙ ap (λ (v : ExecStateView). begun_as v has.0 c.args.worker env) c.self.view_is))
