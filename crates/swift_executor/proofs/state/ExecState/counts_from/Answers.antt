use Rattle.swift_executor.proofs.Prelude.{subst, sym, BodyView, ReadyJobsView, ExecInvariant, ExecStateView, chosen_of}
use Rattle.swift_executor.proofs.StateKept.{counted_keeps}
use Rattle.swift_executor.proofs.state.ExecState.counts_from.Goals as goal

pub invariant_of-self : goal.invariant_of-self
invariant_of-self c =
    let x = c.self.inside in
    let s : ExecStateView = record { script = x.home.script; executor = x.home.executor; ready = x.ready; chosen = chosen_of x.played x.chosen; journal = x.journal; checkpoint = x.checkpoint.view; fields = x.played.fields.before } in
    subst (λ (r : ReadyJobsView BodyView). ExecInvariant (record s { ready = r })) (sym c.counts_from.ensures) (counted_keeps s c.args.events c.self.invariant)
