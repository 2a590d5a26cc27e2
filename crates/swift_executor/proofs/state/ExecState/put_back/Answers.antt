use Rattle.swift_executor.proofs.Prelude.{◌≡◌, ℕ, IsSome, Some, None, Option, IfSome, lit<, refl, ap, sym, subst, ◌∙◌, JobView, BodyView, JobFacts, TaskId, CanRestore, FieldsAre, ChosenView, ExecStateView, HasChosen, IsChosen, ExecInvariant, PutsBack, chosen_at, chosen_of, chosen_view}
use Rattle.swift_executor.proofs.ChosenJob.{can_go, runs, seen}
use Rattle.swift_executor.proofs.StateKept.{back_keeps, belongs_back, same_task}
use Rattle.swift_executor.proofs.state.ExecState.put_back.Goals as goal

pub take_out-job-requires : goal.take_out-job-requires
take_out-job-requires c =
    let x = c.self.inside in
    let s : ExecStateView = record { script = x.home.script; executor = x.home.executor; ready = x.ready; chosen = chosen_of x.played x.chosen; journal = x.journal; checkpoint = x.checkpoint.view; fields = x.played.fields.before } in
    let has : HasChosen s (λ _. Unit {0}) = subst (λ (v : ExecStateView). HasChosen v (λ _. Unit {0})) (sym c.self.view_is) c.requires in
    subst (λ (o : Option (JobView BodyView)). IsSome o) (sym (seen x.played x.chosen.arrival x.chosen.stage x.chosen.job has.0 has.1).job) refl

pub as_chosen-job-requires : goal.as_chosen-job-requires
as_chosen-job-requires c =
    let x = c.self.inside in
    let s : ExecStateView = record { script = x.home.script; executor = x.home.executor; ready = x.ready; chosen = chosen_of x.played x.chosen; journal = x.journal; checkpoint = x.checkpoint.view; fields = x.played.fields.before } in
    let chosen = chosen_view x.played x.chosen.arrival x.chosen.stage c.take_out-job.result in
    let at : s.chosen ≡ Some chosen = ap (chosen_at x.played x.chosen.arrival x.chosen.stage) c.take_out-job.ensures.was in
    let was : IsChosen s chosen = subst (λ (o : Option ChosenView). IfSome o (IsChosen s)) at c.self.invariant.chosen in
    record {
      running = runs s.script s.executor chosen.job was.belongs;
      frame = can_go s.script s.executor s.fields chosen.job x.played x.chosen.stage was.belongs was.plays;
    }

pub restore-requires : goal.restore-requires
restore-requires c =
    let x = c.self.inside in
    let s : ExecStateView = record { script = x.home.script; executor = x.home.executor; ready = x.ready; chosen = chosen_of x.played x.chosen; journal = x.journal; checkpoint = x.checkpoint.view; fields = x.played.fields.before } in
    let chosen = chosen_view x.played x.chosen.arrival x.chosen.stage c.take_out-job.result in
    let at : s.chosen ≡ Some chosen = ap (chosen_at x.played x.chosen.arrival x.chosen.stage) c.take_out-job.ensures.was in
    let was : IsChosen s chosen = subst (λ (o : Option ChosenView). IfSome o (IsChosen s)) at c.self.invariant.chosen in
    let task : c.as_chosen-job.result.task ≡ chosen.job.task = ap (λ (n : ℕ). record { 0 = n }) (ap (λ (v : JobFacts). v.task) c.as_chosen-job.ensures.job ∙ same_task chosen.stage chosen.job) in
    (lit< tt, subst (λ (t : TaskId). CanRestore s.ready t x.chosen.arrival) (sym task) was.restorable)

pub invariant_of-self : goal.invariant_of-self
invariant_of-self c =
    let x = c.self.inside in
    let s : ExecStateView = record { script = x.home.script; executor = x.home.executor; ready = x.ready; chosen = chosen_of x.played x.chosen; journal = x.journal; checkpoint = x.checkpoint.view; fields = x.played.fields.before } in
    let chosen = chosen_view x.played x.chosen.arrival x.chosen.stage c.take_out-job.result in
    let at : s.chosen ≡ Some chosen = ap (chosen_at x.played x.chosen.arrival x.chosen.stage) c.take_out-job.ensures.was in
    let was : IsChosen s chosen = subst (λ (o : Option ChosenView). IfSome o (IsChosen s)) at c.self.invariant.chosen in
    let view = c.as_chosen-job.ensures.job in
    let belongs = belongs_back s.script s.executor s.fields chosen.stage chosen.job c.as_chosen-job.result was.belongs was.plays view c.as_chosen-job.ensures.script in
    let task : c.as_chosen-job.result.task ≡ chosen.job.task = ap (λ (n : ℕ). record { 0 = n }) (ap (λ (v : JobFacts). v.task) view ∙ same_task chosen.stage chosen.job) in
    let p = c.as_chosen-job.new.played in
    subst (λ (f : FieldsAre). ExecInvariant (record s { ready = c.restore.new.self; chosen = chosen_at p x.chosen.arrival x.chosen.stage c.take_out-job.new.place; fields = f.before })) (sym c.as_chosen-job.ensures.same)
    (subst (λ (o : Option (JobView BodyView)). ExecInvariant (record s { ready = c.restore.new.self; chosen = chosen_at p x.chosen.arrival x.chosen.stage o })) (sym c.take_out-job.ensures.gone)
    (back_keeps s chosen c.as_chosen-job.result c.restore.new.self c.self.invariant at belongs task c.restore.ensures.front c.restore.ensures.rest))

pub returns : goal.returns
returns c =
    let x = c.self.inside in
    let s : ExecStateView = record { script = x.home.script; executor = x.home.executor; ready = x.ready; chosen = chosen_of x.played x.chosen; journal = x.journal; checkpoint = x.checkpoint.view; fields = x.played.fields.before } in
    let chosen = chosen_view x.played x.chosen.arrival x.chosen.stage c.take_out-job.result in
    let at : s.chosen ≡ Some chosen = ap (chosen_at x.played x.chosen.arrival x.chosen.stage) c.take_out-job.ensures.was in
    let p = c.as_chosen-job.new.played in
    let new : ExecStateView = record s { ready = c.restore.new.self; chosen = chosen_at p x.chosen.arrival x.chosen.stage c.take_out-job.new.place; fields = p.fields.before } in
    subst (λ (v : ExecStateView). HasChosen v (PutsBack v new)) c.self.view_is (
      chosen,
      at,
      record {
        job = c.as_chosen-job.result;
        same_job = c.as_chosen-job.ensures.job;
        front = c.restore.ensures.front;
        same = ap (λ (f : FieldsAre). record s { ready = c.restore.new.self; chosen = chosen_at p x.chosen.arrival x.chosen.stage c.take_out-job.new.place; fields = f.before }) c.as_chosen-job.ensures.same
            ∙ ap (λ (o : Option (JobView BodyView)). record s { ready = c.restore.new.self; chosen = chosen_at p x.chosen.arrival x.chosen.stage o }) c.take_out-job.ensures.gone
            ∙ ap (λ (r : _). record s { ready = r; chosen = None }) c.restore.ensures.rest;
      },
    )
