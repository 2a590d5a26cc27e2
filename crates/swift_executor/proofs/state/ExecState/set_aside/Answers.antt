use Rattle.swift_executor.proofs.Prelude.{◌≡◌, Some, Option, IfSome, refl, ap, sym, subst, ◌∙◌, RecordView, ChosenView, ExecStateView, HasChosen, IsChosen, ExecInvariant, IsPlayed, StageIsPlayed, chosen_at, chosen_of, chosen_view, PlayedTurn, FieldsAre, List}
use Rattle.swift_interpreter.specs.Saved.{restored}
use Rattle.swift_executor.specs.AsideInside.{SetsAside}
use Rattle.swift_executor.specs.declared.aside.Aside.{Aside}
use Rattle.swift_executor.proofs.ChosenJob.{played_stage, runs, seen}
use Rattle.swift_executor.proofs.TurnsAside.{aside_keeps, left_free, sets_aside}
use Rattle.swift_executor.proofs.state.ExecState.set_aside.Goals as goal

pub write_aside-requires : goal.write_aside-requires
write_aside-requires c =
    let x = c.self.inside in
    let s : ExecStateView = record { script = x.home.script; executor = x.home.executor; ready = x.ready; chosen = chosen_of x.played x.chosen; journal = x.journal; checkpoint = x.checkpoint.view; fields = x.played.fields.before } in
    let has : HasChosen s (λ c. IsPlayed c.stage) = subst (λ (v : ExecStateView). HasChosen v (λ c. IsPlayed c.stage)) (sym c.self.view_is) c.requires.played in
    let was : IsChosen s has.0 = subst (λ (o : Option ChosenView). IfSome o (IsChosen s)) has.1 c.self.invariant.chosen in
    let k = seen x.played x.chosen.arrival x.chosen.stage x.chosen.job has.0 has.1 in
    record {
      job = (has.0.job, k.job, runs s.script s.executor has.0.job was.belongs);
      played = played_stage x.played x.chosen.stage (subst (λ (v : ChosenView). IsPlayed v.stage) k.view has.2);
    }

pub invariant_of-self : goal.invariant_of-self
invariant_of-self c =
    let x = c.self.inside in
    let s : ExecStateView = record { script = x.home.script; executor = x.home.executor; ready = x.ready; chosen = chosen_of x.played x.chosen; journal = x.journal; checkpoint = x.checkpoint.view; fields = x.played.fields.before } in
    subst (λ (j : List RecordView). ExecInvariant (record s { journal = j })) (sym (c.if-not-write_aside.ensures.no refl)) c.self.invariant

pub returns-then-not-write_aside-clause-no : goal.returns-then-not-write_aside-clause-no
returns-then-not-write_aside-clause-no c =
    let x = c.self.inside in
    let s : ExecStateView = record { script = x.home.script; executor = x.home.executor; ready = x.ready; chosen = chosen_of x.played x.chosen; journal = x.journal; checkpoint = x.checkpoint.view; fields = x.played.fields.before } in
    λ e. ap (λ (j : List RecordView). record s { journal = j }) (c.if-not-write_aside.ensures.no refl) ∙ c.self.view_is

pub invariant_of-self-2 : goal.invariant_of-self-2
invariant_of-self-2 c =
    let x = c.self.inside in
    let s : ExecStateView = record { script = x.home.script; executor = x.home.executor; ready = x.ready; chosen = chosen_of x.played x.chosen; journal = x.journal; checkpoint = x.checkpoint.view; fields = x.played.fields.before } in
    let has : HasChosen s (λ c. IsPlayed c.stage) = subst (λ (v : ExecStateView). HasChosen v (λ c. IsPlayed c.stage)) (sym c.self.view_is) c.requires.played in
    let k = seen x.played x.chosen.arrival x.chosen.stage x.chosen.job has.0 has.1 in
    let played_is : StageIsPlayed x.chosen.stage = played_stage x.played x.chosen.stage (subst (λ (v : ChosenView). IsPlayed v.stage) k.view has.2) in
    let w = c.if-not-write_aside.ensures.yes refl in
    let at : s.chosen ≡ Some (chosen_view x.played x.chosen.arrival x.chosen.stage w.0) = ap (chosen_at x.played x.chosen.arrival x.chosen.stage) w.1 in
    let rows : c.set_aside.new.self.before ≡ x.played.fields.after = ap (λ (f : FieldsAre). f.before) c.set_aside.ensures.fields ∙ ap (λ (p : PlayedTurn). p.fields.after) c.swap_turn.ensures.played in
    let p' : PlayedTurn = record c.swap_turn.new.played { fields = c.set_aside.new.self } in
    let free = ap (λ (z : _). z.job) c.swap_turn.ensures.chosen ∙ c.requires.free in
    let same = left_free s p' c.swap_turn.new.chosen c.set_aside.new.self c.write_aside.new.journal x.played.fields.after free rows in
    subst (λ (v : ExecStateView). ExecInvariant v) (sym same)
    (aside_keeps s x.played w.0 x.chosen.arrival x.chosen.stage c.write_aside.new.journal c.lawful_grows.ensures c.invariants_stay.ensures c.self.invariant at played_is w.2)

pub returns-clause-yes : goal.returns-clause-yes
returns-clause-yes c =
    let x = c.self.inside in
    let s : ExecStateView = record { script = x.home.script; executor = x.home.executor; ready = x.ready; chosen = chosen_of x.played x.chosen; journal = x.journal; checkpoint = x.checkpoint.view; fields = x.played.fields.before } in
    let has : HasChosen s (λ c. IsPlayed c.stage) = subst (λ (v : ExecStateView). HasChosen v (λ c. IsPlayed c.stage)) (sym c.self.view_is) c.requires.played in
    let k = seen x.played x.chosen.arrival x.chosen.stage x.chosen.job has.0 has.1 in
    let played_is : StageIsPlayed x.chosen.stage = played_stage x.played x.chosen.stage (subst (λ (v : ChosenView). IsPlayed v.stage) k.view has.2) in
    let w = c.if-not-write_aside.ensures.yes refl in
    let rows : c.set_aside.new.self.before ≡ x.played.fields.after = ap (λ (f : FieldsAre). f.before) c.set_aside.ensures.fields ∙ ap (λ (p : PlayedTurn). p.fields.after) c.swap_turn.ensures.played in
    let p' : PlayedTurn = record c.swap_turn.new.played { fields = c.set_aside.new.self } in
    let free = ap (λ (z : _). z.job) c.swap_turn.ensures.chosen ∙ c.requires.free in
    let same = left_free s p' c.swap_turn.new.chosen c.set_aside.new.self c.write_aside.new.journal x.played.fields.after free rows in
    let back = subst (λ (p : PlayedTurn). restored c.set_aside.new.saved p.fields.after ≡ p.fields.before) c.swap_turn.ensures.played c.set_aside.ensures.back in
    let z : Aside = record c.args.aside.now { written = c.of.result } in
    let done = sets_aside s x.played x.chosen z c.set_aside.new.saved w.0 c.write_aside.new.journal w.1 played_is back w.2 c.of.ensures in
    let new : ExecStateView = record s { chosen = chosen_of p' c.swap_turn.new.chosen; journal = c.write_aside.new.journal; fields = c.set_aside.new.self.before } in
    λ e. subst (λ (v : ExecStateView). SetsAside v new (record c.swap_turn.new.aside { saved = c.set_aside.new.saved })) c.self.view_is
    (subst (λ (a : Aside). SetsAside s new (record a { saved = c.set_aside.new.saved })) (sym c.swap_turn.ensures.aside)
    (subst (λ (v : ExecStateView). SetsAside s v (record z { chosen = x.chosen; frame = x.played.frame; effects = x.played.effects; exit = x.played.exit; saved = c.set_aside.new.saved })) (sym same) done))
