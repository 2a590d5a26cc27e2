use Rattle.swift_executor.proofs.Prelude.{◌≡◌, Bool, None, ap, sym, subst, ◌∙◌, All, BodyView, ScriptView, executor_kind, ComesFirst, ReadyJobsView, ready_job, ChoosesAhead, ExecStateView, ExecInvariant, takes_by_arrival, chosen_of, Chosen}
use Rattle.swift_executor.proofs.StateKept.{choose_keeps}
use Rattle.swift_executor.proofs.state.ExecState.choose_ahead.Goals as goal

pub invariant_of-self : goal.invariant_of-self
invariant_of-self c =
    let x = c.self.inside in
    let s : ExecStateView = record { script = x.home.script; executor = x.home.executor; ready = x.ready; chosen = chosen_of x.played x.chosen; journal = x.journal; checkpoint = x.checkpoint.view; fields = x.played.fields.before } in
    subst (λ (r : ReadyJobsView BodyView). ExecInvariant (record s { ready = r })) (sym c.in_default.ensures.none.1) c.self.invariant

pub invariant_of-self-2 : goal.invariant_of-self-2
invariant_of-self-2 c =
    let x = c.self.inside in
    let s : ExecStateView = record { script = x.home.script; executor = x.home.executor; ready = x.ready; chosen = chosen_of x.played x.chosen; journal = x.journal; checkpoint = x.checkpoint.view; fields = x.played.fields.before } in
    let free : s.chosen ≡ None = ap (λ (v : ExecStateView). v.chosen) c.self.view_is ∙ c.requires.free in
    let two = c.take.new.self in
    let same = c.in-Some.ensures.same in
    subst (λ (o : Chosen). ExecInvariant (record s { ready = two; chosen = chosen_of x.played o })) (sym c.pick.ensures)
    (choose_keeps s c.in-Some.job c.in-Some.arrival two c.self.invariant free c.in-Some.ensures.rest (ap (λ (r : ReadyJobsView BodyView). r.behind) same) (ap (λ (r : ReadyJobsView BodyView). r.arrived) same) c.in-Some.ensures.restorable)

pub returns-clause-some : goal.returns-clause-some
returns-clause-some c =
    let x = c.self.inside in
    let s : ExecStateView = record { script = x.home.script; executor = x.home.executor; ready = x.ready; chosen = chosen_of x.played x.chosen; journal = x.journal; checkpoint = x.checkpoint.view; fields = x.played.fields.before } in
    let two = c.take.new.self in
    let new : ExecStateView = record s { ready = two; chosen = chosen_of x.played c.pick.new.self } in
    subst (λ (v : ExecStateView). ChoosesAhead v new c.task-task.result) c.self.view_is (record {
      job = c.in-Some.job;
      arrival = c.in-Some.arrival;
      first = subst (λ (b : Bool). All (ComesFirst b s.ready.levels (ready_job c.in-Some.job c.in-Some.arrival)) s.ready.front)
          (c.takes_by_arrival-by_arrival.ensures ∙ ap takes_by_arrival (c.executor_kind.ensures ∙ ap (λ (v : ScriptView). executor_kind v c.executor.result.0) c.script.ensures ∙ ap (executor_kind x.home.script) c.executor.ensures))
          c.in-Some.ensures.first;
      task_is = sym c.task-task.ensures;
      rest = c.in-Some.ensures.rest;
      same = ap (λ (r : ReadyJobsView BodyView). record s { ready = r; chosen = new.chosen }) c.in-Some.ensures.same ∙ ap (λ (o : Chosen). record s { ready = record s.ready { front = two.front }; chosen = chosen_of x.played o }) c.pick.ensures;
    })
