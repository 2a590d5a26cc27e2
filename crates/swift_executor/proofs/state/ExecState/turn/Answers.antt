use Rattle.swift_executor.proofs.Prelude.{◌≡◌, Some, None, Option, IfSome, map, refl, ap, sym, subst, ◌∙◌, inl, inr, same_Some, effect_views, exit_view, JobView, BodyView, AllByRecursion, ScriptView, IsJobOf, job_facts, Applied, refusal_of_left, FieldsAre, ChosenView, EndsTurn, ExecStateView, HasChosen, IsChosen, ExecInvariant, IsPlayed, PutsBack, record_of, refusal_of_stage, refusal_to_apply, IsRefusal, ExecFault, IsSeatFor, orders_of, chosen_at, chosen_of, chosen_view, stage_of, PlayedTurn}
use Rattle.swift_executor.proofs.ChosenJob.{played_stage, runs, seen}
use Rattle.swift_executor.proofs.Ended.{ended, unchanged}
use Rattle.swift_executor.proofs.SeatKept.{back_knows, orders_applied}
use Rattle.swift_executor.proofs.SeatTurns.{allowed_at, applied as seat_applied, newest_is, refused_at, written}
use Rattle.swift_executor.proofs.state.ExecState.turn.Goals as goal

pub prepare-requires : goal.prepare-requires
prepare-requires g c =
    let x = c.self.inside in
    let s : ExecStateView = record { script = x.home.script; executor = x.home.executor; ready = x.ready; chosen = chosen_of x.played x.chosen; journal = x.journal; checkpoint = x.checkpoint.view; fields = x.played.fields.before } in
    let has : HasChosen s (λ c. IsPlayed c.stage) = subst (λ (v : ExecStateView). HasChosen v (λ c. IsPlayed c.stage)) (sym c.self.view_is) c.requires.played in
    let was : IsChosen s has.0 = subst (λ (o : Option ChosenView). IfSome o (IsChosen s)) has.1 c.self.invariant.chosen in
    let k = seen x.played x.chosen.arrival x.chosen.stage x.chosen.job has.0 has.1 in
    record {
      job = (has.0.job, k.job, runs s.script s.executor has.0.job was.belongs);
      played = played_stage x.played x.chosen.stage (subst (λ (v : ChosenView). IsPlayed v.stage) k.view has.2);
    }

pub apply_locked-requires : goal.apply_locked-requires
apply_locked-requires g c =
    let x = c.self.inside in
    let s : ExecStateView = record { script = x.home.script; executor = x.home.executor; ready = x.ready; chosen = chosen_of x.played x.chosen; journal = x.journal; checkpoint = x.checkpoint.view; fields = x.played.fields.before } in
    let w = c.in-Ok.ensures.written in
    let was : IsChosen s (chosen_view x.played x.chosen.arrival x.chosen.stage w.0) = subst (λ (o : Option ChosenView). IfSome o (IsChosen s)) (ap (chosen_at x.played x.chosen.arrival x.chosen.stage) w.1) c.self.invariant.chosen in
    let has : HasChosen s (λ c. IsPlayed c.stage) = subst (λ (v : ExecStateView). HasChosen v (λ c. IsPlayed c.stage)) (sym c.self.view_is) c.requires.played in
    let known : IsSeatFor s c.args.seat.now = subst (λ (v : ExecStateView). IsSeatFor v c.args.seat.now) (sym c.self.view_is) c.requires.known in
    let seen_is : s.chosen ≡ Some (chosen_view x.played x.chosen.arrival x.chosen.stage w.0) = ap (chosen_at x.played x.chosen.arrival x.chosen.stage) w.1 in
    let played_is : IsPlayed (stage_of x.played x.chosen.stage) = subst (λ (v : ChosenView). IsPlayed v.stage) (same_Some has.0 (chosen_view x.played x.chosen.arrival x.chosen.stage w.0) (sym has.1 ∙ seen_is)) has.2 in
    let r = written s x.played x.chosen.arrival x.chosen.stage w.0 c.prepare.new.journal c.args.seat.now c.args.book.now.script c.self.invariant seen_is played_is w.2 known (c.requires.script ∙ sym (ap (λ (v : ExecStateView). v.script) c.self.view_is)) in
    record {
      job = (w.0, w.1, (runs s.script s.executor w.0 was.belongs, was.belongs.script_is ∙ ap (λ (v : ExecStateView). v.script) c.self.view_is ∙ sym c.requires.script));
      seat = c.requires.seat;
      jobs = c.requires.jobs;
      plays = (w.0, w.1, (r.r, r.newest_is, r.exit, r.effects, r.plays));
    }

pub invariant_of-self-in-Ok-apply_locked : goal.invariant_of-self-in-Ok-apply_locked
invariant_of-self-in-Ok-apply_locked g c =
    let x = c.self.inside in
    let s : ExecStateView = record { script = x.home.script; executor = x.home.executor; ready = x.ready; chosen = chosen_of x.played x.chosen; journal = x.journal; checkpoint = x.checkpoint.view; fields = x.played.fields.before } in
    let h = c.in-Ok-apply_locked.ensures.ok in
    let w = c.in-Ok.ensures.written in
    let has : HasChosen s (λ c. IsPlayed c.stage) = subst (λ (v : ExecStateView). HasChosen v (λ c. IsPlayed c.stage)) (sym c.self.view_is) c.requires.played in
    let same : h.0 ≡ w.0 = same_Some h.0 w.0 (sym h.1 ∙ w.1) in
    let book = h.2.book in
    let book' = h.2.book_after in
    let jobs = map job_facts c.args.jobs.now.jobs in
    let jobs' = map job_facts c.apply_locked.new.jobs.jobs in
    let applied : Applied book book' w.0 (effect_views x.played.effects.items) (exit_view x.played.exit) jobs jobs' =
    subst (λ (j : JobView BodyView). Applied book book' j (effect_views x.played.effects.items) (exit_view x.played.exit) jobs jobs') same h.2.takes.applied in
    let p' : PlayedTurn = record x.played { fields = c.keep.new.self } in
    let d = ended s x.played p' x.chosen.arrival x.chosen.stage x.chosen.job c.apply_locked.new.place w.0 c.prepare.new.journal refl w.1 has w.2
    book book' jobs jobs' c.in-Ok-apply_locked.task c.settle.new.journal c.in-Ok.copy c.prepare.new.checkpoint c.settle.new.checkpoint c.forward.new.self c.keep.new.self.before
    c.lawful_grows.ensures c.invariants_stay.ensures c.self.invariant c.in-Ok.ensures.same c.in-Ok.ensures.room c.settle.ensures c.forward.ensures (h.2.takes.task_is ∙ ap (λ (j : JobView BodyView). j.task) same)
    applied c.in-Ok-apply_locked.ensures.gone (ap (λ (f : FieldsAre). f.before) c.keep.ensures) in
    d.keeps

pub returns-in-Ok-apply_locked-clause-ok : goal.returns-in-Ok-apply_locked-clause-ok
returns-in-Ok-apply_locked-clause-ok g c =
    let x = c.self.inside in
    let s : ExecStateView = record { script = x.home.script; executor = x.home.executor; ready = x.ready; chosen = chosen_of x.played x.chosen; journal = x.journal; checkpoint = x.checkpoint.view; fields = x.played.fields.before } in
    let h = c.in-Ok-apply_locked.ensures.ok in
    let w = c.in-Ok.ensures.written in
    let has : HasChosen s (λ c. IsPlayed c.stage) = subst (λ (v : ExecStateView). HasChosen v (λ c. IsPlayed c.stage)) (sym c.self.view_is) c.requires.played in
    let same : h.0 ≡ w.0 = same_Some h.0 w.0 (sym h.1 ∙ w.1) in
    let book = h.2.book in
    let book' = h.2.book_after in
    let jobs = map job_facts c.args.jobs.now.jobs in
    let jobs' = map job_facts c.apply_locked.new.jobs.jobs in
    let applied : Applied book book' w.0 (effect_views x.played.effects.items) (exit_view x.played.exit) jobs jobs' =
    subst (λ (j : JobView BodyView). Applied book book' j (effect_views x.played.effects.items) (exit_view x.played.exit) jobs jobs') same h.2.takes.applied in
    let p' : PlayedTurn = record x.played { fields = c.keep.new.self } in
    let d = ended s x.played p' x.chosen.arrival x.chosen.stage x.chosen.job c.apply_locked.new.place w.0 c.prepare.new.journal refl w.1 has w.2
    book book' jobs jobs' c.in-Ok-apply_locked.task c.settle.new.journal c.in-Ok.copy c.prepare.new.checkpoint c.settle.new.checkpoint c.forward.new.self c.keep.new.self.before
    c.lawful_grows.ensures c.invariants_stay.ensures c.self.invariant c.in-Ok.ensures.same c.in-Ok.ensures.room c.settle.ensures c.forward.ensures (h.2.takes.task_is ∙ ap (λ (j : JobView BodyView). j.task) same)
    applied c.in-Ok-apply_locked.ensures.gone (ap (λ (f : FieldsAre). f.before) c.keep.ensures) in
    let was : IsChosen s (chosen_view x.played x.chosen.arrival x.chosen.stage w.0) = subst (λ (o : Option ChosenView). IfSome o (IsChosen s)) (ap (chosen_at x.played x.chosen.arrival x.chosen.stage) w.1) c.self.invariant.chosen in
    let new : ExecStateView = record s { ready = c.forward.new.self; chosen = chosen_at p' x.chosen.arrival x.chosen.stage c.apply_locked.new.place; journal = c.settle.new.journal; checkpoint = c.settle.new.checkpoint.view; fields = c.keep.new.self.before } in
    subst (λ (v : ExecStateView). EndsTurn c.args.seat.now.knows jobs jobs' v new) c.self.view_is
    (record {
      book = book;
      book_after = book';
      book_of = h.2.book_of ∙ ap (λ (j : JobView BodyView). j.body.script) same ∙ was.belongs.script_is;
      run = h.2.run;
      allowed = ap (refusal_to_apply book) (ap (chosen_at x.played x.chosen.arrival x.chosen.stage) w.1) ∙ allowed_at book x.played x.chosen.stage w.0 (subst (λ (j : JobView BodyView). refusal_of_left book j x.played ≡ None) same h.2.allowed);
      turn = (chosen_view x.played x.chosen.arrival x.chosen.stage w.0, ap (chosen_at x.played x.chosen.arrival x.chosen.stage) w.1, d.journals);
    })

pub returns-in-Ok-apply_locked-clause-known : goal.returns-in-Ok-apply_locked-clause-known
returns-in-Ok-apply_locked-clause-known g c =
    let x = c.self.inside in
    let s : ExecStateView = record { script = x.home.script; executor = x.home.executor; ready = x.ready; chosen = chosen_of x.played x.chosen; journal = x.journal; checkpoint = x.checkpoint.view; fields = x.played.fields.before } in
    let h = c.in-Ok-apply_locked.ensures.ok in
    let w = c.in-Ok.ensures.written in
    let has : HasChosen s (λ c. IsPlayed c.stage) = subst (λ (v : ExecStateView). HasChosen v (λ c. IsPlayed c.stage)) (sym c.self.view_is) c.requires.played in
    let same : h.0 ≡ w.0 = same_Some h.0 w.0 (sym h.1 ∙ w.1) in
    let book = h.2.book in
    let book' = h.2.book_after in
    let jobs = map job_facts c.args.jobs.now.jobs in
    let jobs' = map job_facts c.apply_locked.new.jobs.jobs in
    let applied : Applied book book' w.0 (effect_views x.played.effects.items) (exit_view x.played.exit) jobs jobs' =
    subst (λ (j : JobView BodyView). Applied book book' j (effect_views x.played.effects.items) (exit_view x.played.exit) jobs jobs') same h.2.takes.applied in
    let p' : PlayedTurn = record x.played { fields = c.keep.new.self } in
    let d = ended s x.played p' x.chosen.arrival x.chosen.stage x.chosen.job c.apply_locked.new.place w.0 c.prepare.new.journal refl w.1 has w.2
    book book' jobs jobs' c.in-Ok-apply_locked.task c.settle.new.journal c.in-Ok.copy c.prepare.new.checkpoint c.settle.new.checkpoint c.forward.new.self c.keep.new.self.before
    c.lawful_grows.ensures c.invariants_stay.ensures c.self.invariant c.in-Ok.ensures.same c.in-Ok.ensures.room c.settle.ensures c.forward.ensures (h.2.takes.task_is ∙ ap (λ (j : JobView BodyView). j.task) same)
    applied c.in-Ok-apply_locked.ensures.gone (ap (λ (f : FieldsAre). f.before) c.keep.ensures) in
    let was : IsChosen s (chosen_view x.played x.chosen.arrival x.chosen.stage w.0) = subst (λ (o : Option ChosenView). IfSome o (IsChosen s)) (ap (chosen_at x.played x.chosen.arrival x.chosen.stage) w.1) c.self.invariant.chosen in
    let new : ExecStateView = record s { ready = c.forward.new.self; chosen = chosen_at p' x.chosen.arrival x.chosen.stage c.apply_locked.new.place; journal = c.settle.new.journal; checkpoint = c.settle.new.checkpoint.view; fields = c.keep.new.self.before } in
    let at : s.chosen ≡ Some (chosen_view x.played x.chosen.arrival x.chosen.stage w.0) = ap (chosen_at x.played x.chosen.arrival x.chosen.stage) w.1 in
    let played_is : IsPlayed (stage_of x.played x.chosen.stage) = subst (λ (v : ChosenView). IsPlayed v.stage) (same_Some has.0 (chosen_view x.played x.chosen.arrival x.chosen.stage w.0) (sym has.1 ∙ at)) has.2 in
    let known : IsSeatFor s c.args.seat.now = subst (λ (v : ExecStateView). IsSeatFor v c.args.seat.now) (sym c.self.view_is) c.requires.known in
    let r = c.in-Ok-apply_locked.ensures.seat in
    seat_applied s new x.played x.chosen.arrival x.chosen.stage w.0 c.prepare.new.journal c.args.seat.now c.apply_locked.new.seat r.0 book book' jobs jobs'
    c.lawful_grows.ensures c.self.invariant at played_is w.2 known d.journals r.1 r.2

pub returns-in-Ok-apply_locked-clause-seat : goal.returns-in-Ok-apply_locked-clause-seat
returns-in-Ok-apply_locked-clause-seat g c =
    let same = c.in-Ok-apply_locked.ensures.seat.2 in
    (ap (λ x. x.lock) same ∙ c.requires.seat.0, ap (λ x. x.here) same ∙ c.requires.seat.1, ap (λ x. x.knows.script) same ∙ c.requires.seat.2)

pub returns-in-Ok-apply_locked-clause-bodies : goal.returns-in-Ok-apply_locked-clause-bodies
returns-in-Ok-apply_locked-clause-bodies g c =
    subst (λ (p : ScriptView). AllByRecursion (IsJobOf p) c.args.jobs.now.jobs → AllByRecursion (IsJobOf p) c.apply_locked.new.jobs.jobs) c.requires.script c.in-Ok-apply_locked.ensures.bodies

pub invariant_of-self-in-Err : goal.invariant_of-self-in-Err
invariant_of-self-in-Err g c =
    let x = c.self.inside in
    let s : ExecStateView = record { script = x.home.script; executor = x.home.executor; ready = x.ready; chosen = chosen_of x.played x.chosen; journal = x.journal; checkpoint = x.checkpoint.view; fields = x.played.fields.before } in
    let w = c.in-Ok.ensures.written in
    let has : HasChosen s (λ c. IsPlayed c.stage) = subst (λ (v : ExecStateView). HasChosen v (λ c. IsPlayed c.stage)) (sym c.self.view_is) c.requires.played in
    let same = unchanged s x.played x.played x.chosen.arrival x.chosen.stage x.chosen.job c.apply_locked.new.place w.0 c.prepare.new.journal refl w.1 has w.2
    c.retract.new.self c.prepare.new.checkpoint.view c.in-Err.ensures.same.0 c.retract.ensures c.in-Ok.ensures.same in
    subst (λ (v : ExecStateView). ExecInvariant v) (sym same) c.self.invariant

pub returns-in-Err-clause-back : goal.returns-in-Err-clause-back
returns-in-Err-clause-back g c =
    let x = c.self.inside in
    let s : ExecStateView = record { script = x.home.script; executor = x.home.executor; ready = x.ready; chosen = chosen_of x.played x.chosen; journal = x.journal; checkpoint = x.checkpoint.view; fields = x.played.fields.before } in
    let w = c.in-Ok.ensures.written in
    let has : HasChosen s (λ c. IsPlayed c.stage) = subst (λ (v : ExecStateView). HasChosen v (λ c. IsPlayed c.stage)) (sym c.self.view_is) c.requires.played in
    let same = unchanged s x.played x.played x.chosen.arrival x.chosen.stage x.chosen.job c.apply_locked.new.place w.0 c.prepare.new.journal refl w.1 has w.2
    c.retract.new.self c.prepare.new.checkpoint.view c.in-Err.ensures.same.0 c.retract.ensures c.in-Ok.ensures.same in
    subst (λ (v : ExecStateView). HasChosen v (PutsBack v c.put_back-in-Err.new.self)) (same ∙ c.self.view_is) c.put_back-in-Err.ensures

pub returns-in-Err-clause-known : goal.returns-in-Err-clause-known
returns-in-Err-clause-known g c =
    let x = c.self.inside in
    let s : ExecStateView = record { script = x.home.script; executor = x.home.executor; ready = x.ready; chosen = chosen_of x.played x.chosen; journal = x.journal; checkpoint = x.checkpoint.view; fields = x.played.fields.before } in
    let w = c.in-Ok.ensures.written in
    let has : HasChosen s (λ c. IsPlayed c.stage) = subst (λ (v : ExecStateView). HasChosen v (λ c. IsPlayed c.stage)) (sym c.self.view_is) c.requires.played in
    let same = unchanged s x.played x.played x.chosen.arrival x.chosen.stage x.chosen.job c.apply_locked.new.place w.0 c.prepare.new.journal refl w.1 has w.2
    c.retract.new.self c.prepare.new.checkpoint.view c.in-Err.ensures.same.0 c.retract.ensures c.in-Ok.ensures.same in
    let back = subst (λ (v : ExecStateView). HasChosen v (PutsBack v c.put_back-in-Err.new.self)) (same ∙ c.self.view_is) c.put_back-in-Err.ensures in
    subst (λ seat. IsSeatFor c.put_back-in-Err.new.self seat) (sym c.in-Err.ensures.same.1) (back_knows c.args.self.now c.put_back-in-Err.new.self c.args.seat.now c.requires.known back)

pub returns-in_default-clause-known : goal.returns-in_default-clause-known
returns-in_default-clause-known g c =
    let x = c.self.inside in
    let s : ExecStateView = record { script = x.home.script; executor = x.home.executor; ready = x.ready; chosen = chosen_of x.played x.chosen; journal = x.journal; checkpoint = x.checkpoint.view; fields = x.played.fields.before } in
    let same : record s { journal = c.prepare.new.journal; checkpoint = c.prepare.new.checkpoint.view } ≡ c.args.self.now =
    ap (λ j. record s { journal = j; checkpoint = c.prepare.new.checkpoint.view }) c.in_default.ensures.err ∙ ap (λ v. record s { checkpoint = v }) c.in_default.ensures.same ∙ c.self.view_is in
    let back = subst (λ (v : ExecStateView). HasChosen v (PutsBack v c.put_back.new.self)) same c.put_back.ensures in
    back_knows c.args.self.now c.put_back.new.self c.args.seat.now c.requires.known back

pub returns-in-Ok-apply_locked-clause-order : goal.returns-in-Ok-apply_locked-clause-order
returns-in-Ok-apply_locked-clause-order g c =
    let seat = c.in-Ok-apply_locked.ensures.seat in
    ap (λ x. orders_of x.knows) seat.2 ∙ orders_applied seat.0 c.args.seat.now.knows.accounts

pub returns-in-Ok-apply_locked-clause-told : goal.returns-in-Ok-apply_locked-clause-told
returns-in-Ok-apply_locked-clause-told g c =
    let x = c.self.inside in
    let s : ExecStateView = record { script = x.home.script; executor = x.home.executor; ready = x.ready; chosen = chosen_of x.played x.chosen; journal = x.journal; checkpoint = x.checkpoint.view; fields = x.played.fields.before } in
    let w = c.in-Ok.ensures.written in
    let has : HasChosen s (λ c. IsPlayed c.stage) = subst (λ (v : ExecStateView). HasChosen v (λ c. IsPlayed c.stage)) (sym c.self.view_is) c.requires.played in
    let at : s.chosen ≡ Some (chosen_view x.played x.chosen.arrival x.chosen.stage w.0) = ap (chosen_at x.played x.chosen.arrival x.chosen.stage) w.1 in
    let played_is : IsPlayed (stage_of x.played x.chosen.stage) = subst (λ (v : ChosenView). IsPlayed v.stage) (same_Some has.0 (chosen_view x.played x.chosen.arrival x.chosen.stage w.0) (sym has.1 ∙ at)) has.2 in
    let r = c.in-Ok-apply_locked.ensures.seat in
    (r.0, sym (ap (λ (v : ExecStateView). record_of v.chosen) c.self.view_is) ∙ ap record_of at ∙ sym (newest_is x.played x.chosen.stage w.0 s.journal c.prepare.new.journal played_is w.2) ∙ r.1, r.2)

pub returns-in-Err-clause-refused : goal.returns-in-Err-clause-refused
returns-in-Err-clause-refused g c =
    let x = c.self.inside in
    let s : ExecStateView = record { script = x.home.script; executor = x.home.executor; ready = x.ready; chosen = chosen_of x.played x.chosen; journal = x.journal; checkpoint = x.checkpoint.view; fields = x.played.fields.before } in
    let w = c.in-Ok.ensures.written in
    let h = c.in-Err.ensures.refused in
    let same : h.0 ≡ w.0 = same_Some h.0 w.0 (sym h.1 ∙ w.1) in
    let has : HasChosen s (λ c. IsPlayed c.stage) = subst (λ (v : ExecStateView). HasChosen v (λ c. IsPlayed c.stage)) (sym c.self.view_is) c.requires.played in
    let at : s.chosen ≡ Some (chosen_view x.played x.chosen.arrival x.chosen.stage h.0) = ap (chosen_at x.played x.chosen.arrival x.chosen.stage) h.1 in
    let was : IsChosen s (chosen_view x.played x.chosen.arrival x.chosen.stage h.0) = subst (λ (o : Option ChosenView). IfSome o (IsChosen s)) at c.self.invariant.chosen in
    let played_is : IsPlayed (stage_of x.played x.chosen.stage) = subst (λ (v : ChosenView). IsPlayed v.stage) (same_Some has.0 (chosen_view x.played x.chosen.arrival x.chosen.stage h.0) (sym has.1 ∙ at)) has.2 in
    let book = h.2.book in
    inr (
      book,
      h.2.book_of ∙ was.belongs.script_is ∙ ap (λ (v : ExecStateView). v.script) c.self.view_is,
      h.2.run,
      subst (λ (v : ExecStateView). IsRefusal (refusal_to_apply book v.chosen) c.from.result) c.self.view_is
          (subst (λ (o : Option ChosenView). IsRefusal (refusal_to_apply book o) c.from.result) (sym at)
          (subst (λ (f : ExecFault). IsRefusal (refusal_of_stage book h.0 (stage_of x.played x.chosen.stage)) f) (sym c.from.ensures)
          (refused_at book x.played x.chosen.stage h.0 c.in-Err.fault played_is h.2.refused))),
    )

pub returns-in_default-clause-refused : goal.returns-in_default-clause-refused
returns-in_default-clause-refused g c = inl refl
