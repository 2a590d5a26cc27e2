use Rattle.swift_executor.proofs.Prelude.{◌≡◌, None, ap, sym, subst, ◌∙◌, BelongsTo, ExecStateView, chosen_of}
use Rattle.swift_executor.proofs.StateKept.{accept_keeps}
use Rattle.swift_executor.proofs.state.ExecState.accept.Goals as goal

pub invariant_of-self : goal.invariant_of-self
invariant_of-self c =
    let x = c.self.inside in
    let s : ExecStateView = record { script = x.home.script; executor = x.home.executor; ready = x.ready; chosen = chosen_of x.played x.chosen; journal = x.journal; checkpoint = x.checkpoint.view; fields = x.played.fields.before } in
    let free : s.chosen ≡ None = ap (λ (v : ExecStateView). v.chosen) c.self.view_is ∙ c.requires.free in
    let belongs = subst (λ (v : ExecStateView). BelongsTo v.script v.executor c.args.job) (sym c.self.view_is) c.requires.belongs in
    accept_keeps s c.args.job c.add.new.self c.self.invariant free belongs c.add.ensures
