use Rattle.swift_executor.proofs.Prelude.{refl, ap, sym, subst, ◌∙◌, ExecStateView, ExecInvariant, chosen_of}
use Rattle.swift_executor.specs.AsideInside.{IsShuffled, WasAside}
use Rattle.swift_executor.specs.declared.aside.Aside.{Aside}
use Rattle.swift_executor.proofs.ChosenJob.{free}
use Rattle.swift_executor.proofs.TurnsAside.{brought_keeps, brought_shuffled, brought_to, was_none, was_written}
use Rattle.swift_executor.proofs.state.ExecState.bring_back.Goals as goal

pub retract-requires : goal.retract-requires
retract-requires c =
    let x = c.self.inside in
    let s : ExecStateView = record { script = x.home.script; executor = x.home.executor; ready = x.ready; chosen = chosen_of x.played x.chosen; journal = x.journal; checkpoint = x.checkpoint.view; fields = x.played.fields.before } in
    was_written c.requires.0 c.args.aside.now s (subst (λ (v : ExecStateView). WasAside c.requires.0 c.args.aside.now v) (sym c.self.view_is) c.requires.1)

pub invariant_of-self : goal.invariant_of-self
invariant_of-self c =
    let x = c.self.inside in
    let s : ExecStateView = record { script = x.home.script; executor = x.home.executor; ready = x.ready; chosen = chosen_of x.played x.chosen; journal = x.journal; checkpoint = x.checkpoint.view; fields = x.played.fields.before } in
    let w = subst (λ (v : ExecStateView). WasAside c.requires.0 c.args.aside.now v) (sym c.self.view_is) c.requires.1 in
    let same = brought_to c.requires.0 c.args.aside.now s w c.swap_turn.new.aside x.played c.swap_turn.new.played c.swap_turn.new.chosen c.retract.new.self c.bring_back.new.self
    refl c.swap_turn.ensures.chosen c.swap_turn.ensures.played (ap (λ (a : Aside). a.saved) c.swap_turn.ensures.aside) c.retract.ensures c.bring_back.ensures in
    subst (λ (v : ExecStateView). ExecInvariant v) (sym same) (brought_keeps c.requires.0 c.args.aside.now s w)

pub returns-clause-state : goal.returns-clause-state
returns-clause-state c = λ was h.
    let x = c.self.inside in
    let s : ExecStateView = record { script = x.home.script; executor = x.home.executor; ready = x.ready; chosen = chosen_of x.played x.chosen; journal = x.journal; checkpoint = x.checkpoint.view; fields = x.played.fields.before } in
    let w = subst (λ (v : ExecStateView). WasAside was c.args.aside.now v) (sym c.self.view_is) h in
    let same = brought_to was c.args.aside.now s w c.swap_turn.new.aside x.played c.swap_turn.new.played c.swap_turn.new.chosen c.retract.new.self c.bring_back.new.self
    refl c.swap_turn.ensures.chosen c.swap_turn.ensures.played (ap (λ (a : Aside). a.saved) c.swap_turn.ensures.aside) c.retract.ensures c.bring_back.ensures in
    subst (λ (v : ExecStateView). IsShuffled was v) (sym same) (brought_shuffled was c.args.aside.now s w)

pub returns-clause-free : goal.returns-clause-free
returns-clause-free c =
    let x = c.self.inside in
    let s : ExecStateView = record { script = x.home.script; executor = x.home.executor; ready = x.ready; chosen = chosen_of x.played x.chosen; journal = x.journal; checkpoint = x.checkpoint.view; fields = x.played.fields.before } in
    let w = subst (λ (v : ExecStateView). WasAside c.requires.0 c.args.aside.now v) (sym c.self.view_is) c.requires.1 in
    ap (λ (a : Aside). a.chosen.job) c.swap_turn.ensures.aside ∙ free x.played x.chosen.arrival x.chosen.stage x.chosen.job (was_none c.requires.0 c.args.aside.now s w)
