use Rattle.swift_executor.proofs.Prelude.{◌≡◌, sym, subst, refl, ExecStateView, chosen_of}
use Rattle.swift_executor.specs.AsideInside.{IsShuffled}
use Rattle.swift_executor.proofs.BatchEnds.{aside_chosen, can_rewind, may_rewind, rewound_keeps, rewound_to}
use Rattle.swift_executor.proofs.state.ExecState.take_begun.Goals as goal

pub rewind-requires : goal.rewind-requires
rewind-requires c =
    let x = c.self.inside in
    let v : ExecStateView = record { script = x.home.script; executor = x.home.executor; ready = x.ready; chosen = chosen_of x.played x.chosen; journal = x.journal; checkpoint = x.checkpoint.view; fields = x.played.fields.before } in
    let w = c.requires.aside in
    let sh : IsShuffled w.0 v = subst (IsShuffled w.0) (sym c.self.view_is) (c.bring_back.ensures.state w.0 w.1) in
    let has = aside_chosen w.0 v c.args.aside.now w.1.is sh in
    record { job = can_rewind v x.played x.chosen c.self.invariant refl has; played = may_rewind v x.played x.chosen c.self.invariant refl has }

pub invariant_of-self : goal.invariant_of-self
invariant_of-self c =
    let x = c.self.inside in
    let v : ExecStateView = record { script = x.home.script; executor = x.home.executor; ready = x.ready; chosen = chosen_of x.played x.chosen; journal = x.journal; checkpoint = x.checkpoint.view; fields = x.played.fields.before } in
    rewound_keeps v x.played c.rewind.new.played x.chosen c.rewind.new.chosen c.args.env c.self.invariant refl c.rewind.ensures.job c.rewind.ensures.same refl

pub returns : goal.returns
returns c =
    let x = c.self.inside in
    let v : ExecStateView = record { script = x.home.script; executor = x.home.executor; ready = x.ready; chosen = chosen_of x.played x.chosen; journal = x.journal; checkpoint = x.checkpoint.view; fields = x.played.fields.before } in
    record {
      begun = λ s w. rewound_to v x.played c.rewind.new.played x.chosen c.rewind.new.chosen c.args.env c.self.invariant refl c.rewind.ensures.job c.rewind.ensures.same refl s
          (subst (IsShuffled s) (sym c.self.view_is) (c.bring_back.ensures.state s w));
    }
