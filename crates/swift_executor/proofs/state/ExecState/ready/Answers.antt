use Rattle.swift_executor.proofs.Prelude.{ap, ◌∙◌, tasks_in, times, ExecStateView}
use Rattle.swift_executor.proofs.state.ExecState.ready.Goals as goal

pub returns : goal.returns
returns c = λ t. c.tasks.ensures t ∙ ap (λ (v : ExecStateView). times t (tasks_in v.ready)) c.self.view_is
