use Rattle.swift_executor.proofs.Prelude.{◌≡◌, Some, Option, IfSome, map, refl, ap, sym, subst, ◌∙◌, same_Some, JobView, BodyView, job_facts, FieldsAre, ChosenView, ExecStateView, HasChosen, IsChosen, ExecInvariant, IsPlayed, PutsBack, newest, chosen_at, chosen_of, chosen_view, stage_of, PlayedTurn, Chosen, IsRunning, CanGoBack, StageIsPlayed, CommitsChosen, CommitsHere, HasAhead}
use Rattle.swift_executor.specs.PlayingInside.{HasJob}
use Rattle.swift_executor.specs.declared.committing.Ahead.TheVariants as ahead
use Rattle.swift_shared_book.specs.Commits.{book_begun}
use Rattle.swift_shared_book.specs.declared.commits.Committed.TheVariants.{Applied as Applied_answer, Begun as Begun_answer, Refused as Refused_answer}
use Rattle.swift_executor.proofs.ChosenJob.{can_go, played_stage, runs, seen}
use Rattle.swift_executor.proofs.Committed.{applied_so, applies_there, begins_else, done_here, rewound, same_seat, stayed_ahead, task_here, written_ahead}
use Rattle.swift_executor.proofs.Ended.{ended, unchanged}
use Rattle.swift_executor.proofs.state.ExecState.commit.Goals as goal

pub prepare-requires : goal.prepare-requires
prepare-requires g c =
    let x = c.self.inside in
    let s : ExecStateView = record { script = x.home.script; executor = x.home.executor; ready = x.ready; chosen = chosen_of x.played x.chosen; journal = x.journal; checkpoint = x.checkpoint.view; fields = x.played.fields.before } in
    let has : HasChosen s (λ c. IsPlayed c.stage) = subst (λ (v : ExecStateView). HasChosen v (λ c. IsPlayed c.stage)) (sym c.self.view_is) c.requires.played in
    let was : IsChosen s has.0 = subst (λ (o : Option ChosenView). IfSome o (IsChosen s)) has.1 c.self.invariant.chosen in
    let k = seen x.played x.chosen.arrival x.chosen.stage x.chosen.job has.0 has.1 in
    record {
      job = (has.0.job, k.job, runs s.script s.executor has.0.job was.belongs);
      played = played_stage x.played x.chosen.stage (subst (λ (v : ChosenView). IsPlayed v.stage) k.view has.2);
    }

pub commit_locked-requires : goal.commit_locked-requires
commit_locked-requires g c =
    let x = c.self.inside in
    let s : ExecStateView = record { script = x.home.script; executor = x.home.executor; ready = x.ready; chosen = chosen_of x.played x.chosen; journal = x.journal; checkpoint = x.checkpoint.view; fields = x.played.fields.before } in
    let w = c.in-Ok.ensures.written in
    let has : HasChosen s (λ c. IsPlayed c.stage) = subst (λ (v : ExecStateView). HasChosen v (λ c. IsPlayed c.stage)) (sym c.self.view_is) c.requires.played in
    let at : s.chosen ≡ Some (chosen_view x.played x.chosen.arrival x.chosen.stage w.0) = ap (chosen_at x.played x.chosen.arrival x.chosen.stage) w.1 in
    let played_is : IsPlayed (stage_of x.played x.chosen.stage) = subst (λ (v : ChosenView). IsPlayed v.stage) (same_Some has.0 (chosen_view x.played x.chosen.arrival x.chosen.stage w.0) (sym has.1 ∙ at)) has.2 in
    let a : HasAhead c.args.worker c.args.seat.now s = subst (λ (v : ExecStateView). HasAhead c.args.worker c.args.seat.now v) (sym c.self.view_is) c.requires.ahead in
    let of_script : c.args.book.now.script ≡ s.script = c.requires.script ∙ sym (ap (λ (v : ExecStateView). v.script) c.self.view_is) in
    let k = written_ahead c.args.worker s x.played x.chosen.arrival x.chosen.stage w.0 c.prepare.new.journal c.args.seat.now c.args.book.now.script c.self.invariant at played_is w.2 a of_script in
    let was : IsChosen s (chosen_view x.played x.chosen.arrival x.chosen.stage w.0) = subst (λ (o : Option ChosenView). IfSome o (IsChosen s)) at c.self.invariant.chosen in
    record {
      seat = c.requires.seat;
      script = of_script ∙ sym c.script.ensures;
      jobs = c.requires.jobs;
      job = (w.0, w.1, (runs s.script s.executor w.0 was.belongs, was.belongs.script_is ∙ sym of_script));
      plays = (w.0, w.1, (k.r, k.newest_is, k.exit, k.effects, k.env, k.plays));
      stayed = stayed_ahead c.args.worker s c.args.seat.now a;
    }

pub invariant_of-self-in-Applied : goal.invariant_of-self-in-Applied
invariant_of-self-in-Applied g c =
    let x = c.self.inside in
    let s : ExecStateView = record { script = x.home.script; executor = x.home.executor; ready = x.ready; chosen = chosen_of x.played x.chosen; journal = x.journal; checkpoint = x.checkpoint.view; fields = x.played.fields.before } in
    let w = c.in-Ok.ensures.written in
    let has : HasChosen s (λ c. IsPlayed c.stage) = subst (λ (v : ExecStateView). HasChosen v (λ c. IsPlayed c.stage)) (sym c.self.view_is) c.requires.played in
    let at : s.chosen ≡ Some (chosen_view x.played x.chosen.arrival x.chosen.stage w.0) = ap (chosen_at x.played x.chosen.arrival x.chosen.stage) w.1 in
    let played_is : IsPlayed (stage_of x.played x.chosen.stage) = subst (λ (v : ChosenView). IsPlayed v.stage) (same_Some has.0 (chosen_view x.played x.chosen.arrival x.chosen.stage w.0) (sym has.1 ∙ at)) has.2 in
    let a : HasAhead c.args.worker c.args.seat.now s = subst (λ (v : ExecStateView). HasAhead c.args.worker c.args.seat.now v) (sym c.self.view_is) c.requires.ahead in
    let of_script : c.args.book.now.script ≡ s.script = c.requires.script ∙ sym (ap (λ (v : ExecStateView). v.script) c.self.view_is) in
    let k = written_ahead c.args.worker s x.played x.chosen.arrival x.chosen.stage w.0 c.prepare.new.journal c.args.seat.now c.args.book.now.script c.self.invariant at played_is w.2 a of_script in
    let jobs = map job_facts c.args.jobs.now.jobs in
    let jobs' = map job_facts c.commit_locked.new.jobs.jobs in
    let e = c.in-Applied.ensures.done in
    let same : e.0 ≡ w.0 = same_Some e.0 w.0 (sym e.1 ∙ w.1) in
    let d : CommitsHere c.args.book.now s.ready.levels w.0 k.r jobs jobs' c.args.seat.now.knows c.commit_locked.new.seat.knows c.args.is_orderly.now c.commit_locked.new.is_orderly Applied_answer =
    done_here c.args.book.now s.ready.levels e.0 w.0 k.r jobs jobs' c.args.seat.now.knows c.commit_locked.new.seat.knows c.args.is_orderly.now c.commit_locked.new.is_orderly Applied_answer (newest c.prepare.new.journal) k.newest_is same e.2
    in
    let p' : PlayedTurn = record x.played { fields = c.keep.new.self } in
    let applied = applied_so c.args.worker c.args.seat.now s a x.played x.chosen.arrival x.chosen.stage w.0 c.prepare.new.journal at played_is w.2 k.r k.newest_is d.0 jobs jobs' c.commit_locked.new.seat.knows k.exit k.effects d.2 in
    let f = ended s x.played p' x.chosen.arrival x.chosen.stage x.chosen.job c.commit_locked.new.chosen.job w.0 c.prepare.new.journal refl w.1 has w.2
    (book_begun d.0 w.0 k.r.env) d.2.after jobs jobs' c.task_of-task.result c.settle.new.journal c.in-Ok.copy c.prepare.new.checkpoint c.settle.new.checkpoint c.forward.new.self c.keep.new.self.before
    c.lawful_grows.ensures c.invariants_stay.ensures c.self.invariant c.in-Ok.ensures.same c.in-Ok.ensures.room c.settle.ensures c.forward.ensures (task_here c.task_of-task.result w.0 x.chosen.job w.1 c.task_of-task.ensures)
    applied c.in-Applied.ensures.place (ap (λ (y : FieldsAre). y.before) c.keep.ensures) in
    subst (λ (o : Chosen). ExecInvariant (record s { ready = c.forward.new.self; chosen = chosen_of p' o; journal = c.settle.new.journal; checkpoint = c.settle.new.checkpoint.view; fields = c.keep.new.self.before })) (sym c.commit_locked.ensures.rest) f.keeps

pub returns-in-Applied-clause-done : goal.returns-in-Applied-clause-done
returns-in-Applied-clause-done g c =
    let x = c.self.inside in
    let s : ExecStateView = record { script = x.home.script; executor = x.home.executor; ready = x.ready; chosen = chosen_of x.played x.chosen; journal = x.journal; checkpoint = x.checkpoint.view; fields = x.played.fields.before } in
    let w = c.in-Ok.ensures.written in
    let has : HasChosen s (λ c. IsPlayed c.stage) = subst (λ (v : ExecStateView). HasChosen v (λ c. IsPlayed c.stage)) (sym c.self.view_is) c.requires.played in
    let at : s.chosen ≡ Some (chosen_view x.played x.chosen.arrival x.chosen.stage w.0) = ap (chosen_at x.played x.chosen.arrival x.chosen.stage) w.1 in
    let played_is : IsPlayed (stage_of x.played x.chosen.stage) = subst (λ (v : ChosenView). IsPlayed v.stage) (same_Some has.0 (chosen_view x.played x.chosen.arrival x.chosen.stage w.0) (sym has.1 ∙ at)) has.2 in
    let a : HasAhead c.args.worker c.args.seat.now s = subst (λ (v : ExecStateView). HasAhead c.args.worker c.args.seat.now v) (sym c.self.view_is) c.requires.ahead in
    let of_script : c.args.book.now.script ≡ s.script = c.requires.script ∙ sym (ap (λ (v : ExecStateView). v.script) c.self.view_is) in
    let k = written_ahead c.args.worker s x.played x.chosen.arrival x.chosen.stage w.0 c.prepare.new.journal c.args.seat.now c.args.book.now.script c.self.invariant at played_is w.2 a of_script in
    let jobs = map job_facts c.args.jobs.now.jobs in
    let jobs' = map job_facts c.commit_locked.new.jobs.jobs in
    let e = c.in-Applied.ensures.done in
    let same : e.0 ≡ w.0 = same_Some e.0 w.0 (sym e.1 ∙ w.1) in
    let d : CommitsHere c.args.book.now s.ready.levels w.0 k.r jobs jobs' c.args.seat.now.knows c.commit_locked.new.seat.knows c.args.is_orderly.now c.commit_locked.new.is_orderly Applied_answer =
    done_here c.args.book.now s.ready.levels e.0 w.0 k.r jobs jobs' c.args.seat.now.knows c.commit_locked.new.seat.knows c.args.is_orderly.now c.commit_locked.new.is_orderly Applied_answer (newest c.prepare.new.journal) k.newest_is same e.2
    in
    let p' : PlayedTurn = record x.played { fields = c.keep.new.self } in
    let applied = applied_so c.args.worker c.args.seat.now s a x.played x.chosen.arrival x.chosen.stage w.0 c.prepare.new.journal at played_is w.2 k.r k.newest_is d.0 jobs jobs' c.commit_locked.new.seat.knows k.exit k.effects d.2 in
    let f = ended s x.played p' x.chosen.arrival x.chosen.stage x.chosen.job c.commit_locked.new.chosen.job w.0 c.prepare.new.journal refl w.1 has w.2
    (book_begun d.0 w.0 k.r.env) d.2.after jobs jobs' c.task_of-task.result c.settle.new.journal c.in-Ok.copy c.prepare.new.checkpoint c.settle.new.checkpoint c.forward.new.self c.keep.new.self.before
    c.lawful_grows.ensures c.invariants_stay.ensures c.self.invariant c.in-Ok.ensures.same c.in-Ok.ensures.room c.settle.ensures c.forward.ensures (task_here c.task_of-task.result w.0 x.chosen.job w.1 c.task_of-task.ensures)
    applied c.in-Applied.ensures.place (ap (λ (y : FieldsAre). y.before) c.keep.ensures) in
    let new : ExecStateView = record s { ready = c.forward.new.self; chosen = chosen_at p' x.chosen.arrival x.chosen.stage c.commit_locked.new.chosen.job; journal = c.settle.new.journal; checkpoint = c.settle.new.checkpoint.view; fields = c.keep.new.self.before } in
    let task = task_here c.task_of-task.result w.0 x.chosen.job w.1 c.task_of-task.ensures in
    let done : HasChosen c.args.self.now (CommitsChosen c.args.worker jobs jobs' c.args.seat.now c.commit_locked.new.seat c.args.is_orderly.now c.commit_locked.new.is_orderly c.args.self.now new (ahead.Applied c.task_of-task.result)) =
    subst (λ (v : ExecStateView). HasChosen v (CommitsChosen c.args.worker jobs jobs' c.args.seat.now c.commit_locked.new.seat c.args.is_orderly.now c.commit_locked.new.is_orderly v new (ahead.Applied c.task_of-task.result))) c.self.view_is (
      chosen_view x.played x.chosen.arrival x.chosen.stage w.0,
      at,
      applies_there c.args.worker c.args.seat.now s a x.played x.chosen.arrival x.chosen.stage w.0 c.prepare.new.journal at played_is w.2 k.r k.newest_is
          c.args.book.now d.0 jobs jobs' c.commit_locked.new.seat.knows c.args.is_orderly.now c.commit_locked.new.is_orderly c.commit_locked.new.seat new c.task_of-task.result
          c.lawful_grows.ensures c.self.invariant k.exit k.effects d.1 of_script d.2 (c.commit_locked.ensures.seat.0 ∙ sym c.requires.seat.0) (c.commit_locked.ensures.seat.1 ∙ sym c.requires.seat.1) refl f.journals task,
    )
    in
    subst (λ (o : Chosen). HasChosen c.args.self.now (CommitsChosen c.args.worker jobs jobs' c.args.seat.now c.commit_locked.new.seat c.args.is_orderly.now c.commit_locked.new.is_orderly c.args.self.now
    (record s { ready = c.forward.new.self; chosen = chosen_of p' o; journal = c.settle.new.journal; checkpoint = c.settle.new.checkpoint.view; fields = c.keep.new.self.before }) (ahead.Applied c.task_of-task.result))) (sym c.commit_locked.ensures.rest) done

pub rewind-requires : goal.rewind-requires
rewind-requires g c =
    let x = c.self.inside in
    let s : ExecStateView = record { script = x.home.script; executor = x.home.executor; ready = x.ready; chosen = chosen_of x.played x.chosen; journal = x.journal; checkpoint = x.checkpoint.view; fields = x.played.fields.before } in
    let w = c.in-Ok.ensures.written in
    let has : HasChosen s (λ c. IsPlayed c.stage) = subst (λ (v : ExecStateView). HasChosen v (λ c. IsPlayed c.stage)) (sym c.self.view_is) c.requires.played in
    let at : s.chosen ≡ Some (chosen_view x.played x.chosen.arrival x.chosen.stage w.0) = ap (chosen_at x.played x.chosen.arrival x.chosen.stage) w.1 in
    let played_is : IsPlayed (stage_of x.played x.chosen.stage) = subst (λ (v : ChosenView). IsPlayed v.stage) (same_Some has.0 (chosen_view x.played x.chosen.arrival x.chosen.stage w.0) (sym has.1 ∙ at)) has.2 in
    let c1 : c.commit_locked.new.chosen ≡ x.chosen = c.commit_locked.ensures.rest ∙ ap (λ (o : Option (JobView BodyView)). record x.chosen { job = o }) c.in-Begun.ensures.place in
    let was : IsChosen s (chosen_view x.played x.chosen.arrival x.chosen.stage w.0) = subst (λ (o : Option ChosenView). IfSome o (IsChosen s)) at c.self.invariant.chosen in
    record {
      job = subst (λ (o : Chosen). HasJob o.job (λ j. IsRunning j.body × CanGoBack j x.played o.stage)) (sym c1)
          (w.0, w.1, (runs s.script s.executor w.0 was.belongs, can_go s.script s.executor s.fields w.0 x.played x.chosen.stage was.belongs was.plays));
      played = subst (λ (o : Chosen). StageIsPlayed o.stage) (sym c1) (played_stage x.played x.chosen.stage played_is);
    }

pub invariant_of-self-in-Begun : goal.invariant_of-self-in-Begun
invariant_of-self-in-Begun g c =
    let x = c.self.inside in
    let s : ExecStateView = record { script = x.home.script; executor = x.home.executor; ready = x.ready; chosen = chosen_of x.played x.chosen; journal = x.journal; checkpoint = x.checkpoint.view; fields = x.played.fields.before } in
    let w = c.in-Ok.ensures.written in
    let has : HasChosen s (λ c. IsPlayed c.stage) = subst (λ (v : ExecStateView). HasChosen v (λ c. IsPlayed c.stage)) (sym c.self.view_is) c.requires.played in
    let at : s.chosen ≡ Some (chosen_view x.played x.chosen.arrival x.chosen.stage w.0) = ap (chosen_at x.played x.chosen.arrival x.chosen.stage) w.1 in
    let played_is : IsPlayed (stage_of x.played x.chosen.stage) = subst (λ (v : ChosenView). IsPlayed v.stage) (same_Some has.0 (chosen_view x.played x.chosen.arrival x.chosen.stage w.0) (sym has.1 ∙ at)) has.2 in
    let a : HasAhead c.args.worker c.args.seat.now s = subst (λ (v : ExecStateView). HasAhead c.args.worker c.args.seat.now v) (sym c.self.view_is) c.requires.ahead in
    let of_script : c.args.book.now.script ≡ s.script = c.requires.script ∙ sym (ap (λ (v : ExecStateView). v.script) c.self.view_is) in
    let k = written_ahead c.args.worker s x.played x.chosen.arrival x.chosen.stage w.0 c.prepare.new.journal c.args.seat.now c.args.book.now.script c.self.invariant at played_is w.2 a of_script in
    let jobs = map job_facts c.args.jobs.now.jobs in
    let jobs' = map job_facts c.commit_locked.new.jobs.jobs in
    let e = c.in-Begun.ensures.done in
    let same_job : e.0 ≡ w.0 = same_Some e.0 w.0 (sym e.1 ∙ w.1) in
    let d : CommitsHere c.args.book.now s.ready.levels w.0 k.r jobs jobs' c.args.seat.now.knows c.commit_locked.new.seat.knows c.args.is_orderly.now c.commit_locked.new.is_orderly (Begun_answer c.in-Begun.env) =
    done_here c.args.book.now s.ready.levels e.0 w.0 k.r jobs jobs' c.args.seat.now.knows c.commit_locked.new.seat.knows c.args.is_orderly.now c.commit_locked.new.is_orderly (Begun_answer c.in-Begun.env) (newest c.prepare.new.journal) k.newest_is same_job e.2
    in
    let same = unchanged s x.played x.played x.chosen.arrival x.chosen.stage x.chosen.job x.chosen.job w.0 c.prepare.new.journal refl w.1 has w.2
    c.retract.new.self c.prepare.new.checkpoint.view refl c.retract.ensures c.in-Ok.ensures.same in
    let u = rewound c.args.worker c.args.seat.now s a x.played x.chosen.arrival x.chosen.stage w.0 c.prepare.new.journal at played_is w.2 k.r k.newest_is x.chosen c.commit_locked.new.chosen c.rewind.new.chosen c.rewind.new.played c.in-Begun.env c.retract.new.self c.prepare.new.checkpoint.view refl refl w.1
    c.commit_locked.ensures.rest c.in-Begun.ensures.place c.rewind.ensures.job c.rewind.ensures.same refl c.self.invariant (ap (λ (v : ExecStateView). v.journal) same) (ap (λ (v : ExecStateView). v.checkpoint) same) in
    u.keeps

pub returns-in-Begun-clause-done : goal.returns-in-Begun-clause-done
returns-in-Begun-clause-done g c =
    let x = c.self.inside in
    let s : ExecStateView = record { script = x.home.script; executor = x.home.executor; ready = x.ready; chosen = chosen_of x.played x.chosen; journal = x.journal; checkpoint = x.checkpoint.view; fields = x.played.fields.before } in
    let w = c.in-Ok.ensures.written in
    let has : HasChosen s (λ c. IsPlayed c.stage) = subst (λ (v : ExecStateView). HasChosen v (λ c. IsPlayed c.stage)) (sym c.self.view_is) c.requires.played in
    let at : s.chosen ≡ Some (chosen_view x.played x.chosen.arrival x.chosen.stage w.0) = ap (chosen_at x.played x.chosen.arrival x.chosen.stage) w.1 in
    let played_is : IsPlayed (stage_of x.played x.chosen.stage) = subst (λ (v : ChosenView). IsPlayed v.stage) (same_Some has.0 (chosen_view x.played x.chosen.arrival x.chosen.stage w.0) (sym has.1 ∙ at)) has.2 in
    let a : HasAhead c.args.worker c.args.seat.now s = subst (λ (v : ExecStateView). HasAhead c.args.worker c.args.seat.now v) (sym c.self.view_is) c.requires.ahead in
    let of_script : c.args.book.now.script ≡ s.script = c.requires.script ∙ sym (ap (λ (v : ExecStateView). v.script) c.self.view_is) in
    let k = written_ahead c.args.worker s x.played x.chosen.arrival x.chosen.stage w.0 c.prepare.new.journal c.args.seat.now c.args.book.now.script c.self.invariant at played_is w.2 a of_script in
    let jobs = map job_facts c.args.jobs.now.jobs in
    let jobs' = map job_facts c.commit_locked.new.jobs.jobs in
    let e = c.in-Begun.ensures.done in
    let same_job : e.0 ≡ w.0 = same_Some e.0 w.0 (sym e.1 ∙ w.1) in
    let d : CommitsHere c.args.book.now s.ready.levels w.0 k.r jobs jobs' c.args.seat.now.knows c.commit_locked.new.seat.knows c.args.is_orderly.now c.commit_locked.new.is_orderly (Begun_answer c.in-Begun.env) =
    done_here c.args.book.now s.ready.levels e.0 w.0 k.r jobs jobs' c.args.seat.now.knows c.commit_locked.new.seat.knows c.args.is_orderly.now c.commit_locked.new.is_orderly (Begun_answer c.in-Begun.env) (newest c.prepare.new.journal) k.newest_is same_job e.2
    in
    let same = unchanged s x.played x.played x.chosen.arrival x.chosen.stage x.chosen.job x.chosen.job w.0 c.prepare.new.journal refl w.1 has w.2
    c.retract.new.self c.prepare.new.checkpoint.view refl c.retract.ensures c.in-Ok.ensures.same in
    let u = rewound c.args.worker c.args.seat.now s a x.played x.chosen.arrival x.chosen.stage w.0 c.prepare.new.journal at played_is w.2 k.r k.newest_is x.chosen c.commit_locked.new.chosen c.rewind.new.chosen c.rewind.new.played c.in-Begun.env c.retract.new.self c.prepare.new.checkpoint.view refl refl w.1
    c.commit_locked.ensures.rest c.in-Begun.ensures.place c.rewind.ensures.job c.rewind.ensures.same refl c.self.invariant (ap (λ (v : ExecStateView). v.journal) same) (ap (λ (v : ExecStateView). v.checkpoint) same) in
    let new : ExecStateView = record s { chosen = chosen_of c.rewind.new.played c.rewind.new.chosen; journal = c.retract.new.self; checkpoint = c.prepare.new.checkpoint.view; fields = c.rewind.new.played.fields.before } in
    let task = task_here c.task_of-task.result w.0 x.chosen.job w.1 c.task_of-task.ensures in
    let done : HasChosen c.args.self.now (CommitsChosen c.args.worker jobs jobs' c.args.seat.now c.commit_locked.new.seat c.args.is_orderly.now c.commit_locked.new.is_orderly c.args.self.now new (ahead.Begun c.task_of-task.result)) =
    subst (λ (v : ExecStateView). HasChosen v (CommitsChosen c.args.worker jobs jobs' c.args.seat.now c.commit_locked.new.seat c.args.is_orderly.now c.commit_locked.new.is_orderly v new (ahead.Begun c.task_of-task.result))) c.self.view_is (
      chosen_view x.played x.chosen.arrival x.chosen.stage w.0,
      at,
      begins_else c.args.worker c.args.seat.now s a x.played x.chosen.arrival x.chosen.stage w.0 c.prepare.new.journal at played_is w.2 k.r k.newest_is
          c.args.book.now d.0 c.in-Begun.env c.commit_locked.new.seat.knows c.args.is_orderly.now c.commit_locked.new.is_orderly c.commit_locked.new.seat new c.task_of-task.result u.job
          d.1 of_script d.2 (c.commit_locked.ensures.seat.0 ∙ sym c.requires.seat.0) (c.commit_locked.ensures.seat.1 ∙ sym c.requires.seat.1) refl u.same_job u.is task,
    )
    in
    subst (λ (v : ExecStateView). HasChosen c.args.self.now (CommitsChosen c.args.worker jobs jobs' c.args.seat.now c.commit_locked.new.seat c.args.is_orderly.now c.commit_locked.new.is_orderly c.args.self.now v (ahead.Begun c.task_of-task.result))) (sym c.pause.ensures) done

pub invariant_of-self-in-Refused : goal.invariant_of-self-in-Refused
invariant_of-self-in-Refused g c =
    let x = c.self.inside in
    let s : ExecStateView = record { script = x.home.script; executor = x.home.executor; ready = x.ready; chosen = chosen_of x.played x.chosen; journal = x.journal; checkpoint = x.checkpoint.view; fields = x.played.fields.before } in
    let w = c.in-Ok.ensures.written in
    let has : HasChosen s (λ c. IsPlayed c.stage) = subst (λ (v : ExecStateView). HasChosen v (λ c. IsPlayed c.stage)) (sym c.self.view_is) c.requires.played in
    let at : s.chosen ≡ Some (chosen_view x.played x.chosen.arrival x.chosen.stage w.0) = ap (chosen_at x.played x.chosen.arrival x.chosen.stage) w.1 in
    let played_is : IsPlayed (stage_of x.played x.chosen.stage) = subst (λ (v : ChosenView). IsPlayed v.stage) (same_Some has.0 (chosen_view x.played x.chosen.arrival x.chosen.stage w.0) (sym has.1 ∙ at)) has.2 in
    let a : HasAhead c.args.worker c.args.seat.now s = subst (λ (v : ExecStateView). HasAhead c.args.worker c.args.seat.now v) (sym c.self.view_is) c.requires.ahead in
    let of_script : c.args.book.now.script ≡ s.script = c.requires.script ∙ sym (ap (λ (v : ExecStateView). v.script) c.self.view_is) in
    let k = written_ahead c.args.worker s x.played x.chosen.arrival x.chosen.stage w.0 c.prepare.new.journal c.args.seat.now c.args.book.now.script c.self.invariant at played_is w.2 a of_script in
    let jobs = map job_facts c.args.jobs.now.jobs in
    let jobs' = map job_facts c.commit_locked.new.jobs.jobs in
    let e = c.in-Refused.ensures.done in
    let same_job : e.0 ≡ w.0 = same_Some e.0 w.0 (sym e.1 ∙ w.1) in
    let d : CommitsHere c.args.book.now s.ready.levels w.0 k.r jobs jobs' c.args.seat.now.knows c.commit_locked.new.seat.knows c.args.is_orderly.now c.commit_locked.new.is_orderly Refused_answer =
    done_here c.args.book.now s.ready.levels e.0 w.0 k.r jobs jobs' c.args.seat.now.knows c.commit_locked.new.seat.knows c.args.is_orderly.now c.commit_locked.new.is_orderly Refused_answer (newest c.prepare.new.journal) k.newest_is same_job e.2
    in
    let c1 : c.commit_locked.new.chosen ≡ x.chosen = c.commit_locked.ensures.rest ∙ ap (λ (o : Option (JobView BodyView)). record x.chosen { job = o }) c.in-Refused.ensures.place in
    let same = unchanged s x.played x.played x.chosen.arrival x.chosen.stage x.chosen.job x.chosen.job w.0 c.prepare.new.journal refl w.1 has w.2
    c.retract-in-Refused.new.self c.prepare.new.checkpoint.view refl c.retract-in-Refused.ensures c.in-Ok.ensures.same in
    let all : record s { chosen = chosen_of x.played c.commit_locked.new.chosen; journal = c.retract-in-Refused.new.self; checkpoint = c.prepare.new.checkpoint.view } ≡ s =
    ap (λ (o : Chosen). record s { chosen = chosen_of x.played o; journal = c.retract-in-Refused.new.self; checkpoint = c.prepare.new.checkpoint.view }) c1 ∙ same
    in
    subst (λ (v : ExecStateView). ExecInvariant v) (sym all) c.self.invariant

pub returns-in-Refused-clause-done : goal.returns-in-Refused-clause-done
returns-in-Refused-clause-done g c =
    let x = c.self.inside in
    let s : ExecStateView = record { script = x.home.script; executor = x.home.executor; ready = x.ready; chosen = chosen_of x.played x.chosen; journal = x.journal; checkpoint = x.checkpoint.view; fields = x.played.fields.before } in
    let w = c.in-Ok.ensures.written in
    let has : HasChosen s (λ c. IsPlayed c.stage) = subst (λ (v : ExecStateView). HasChosen v (λ c. IsPlayed c.stage)) (sym c.self.view_is) c.requires.played in
    let at : s.chosen ≡ Some (chosen_view x.played x.chosen.arrival x.chosen.stage w.0) = ap (chosen_at x.played x.chosen.arrival x.chosen.stage) w.1 in
    let played_is : IsPlayed (stage_of x.played x.chosen.stage) = subst (λ (v : ChosenView). IsPlayed v.stage) (same_Some has.0 (chosen_view x.played x.chosen.arrival x.chosen.stage w.0) (sym has.1 ∙ at)) has.2 in
    let a : HasAhead c.args.worker c.args.seat.now s = subst (λ (v : ExecStateView). HasAhead c.args.worker c.args.seat.now v) (sym c.self.view_is) c.requires.ahead in
    let of_script : c.args.book.now.script ≡ s.script = c.requires.script ∙ sym (ap (λ (v : ExecStateView). v.script) c.self.view_is) in
    let k = written_ahead c.args.worker s x.played x.chosen.arrival x.chosen.stage w.0 c.prepare.new.journal c.args.seat.now c.args.book.now.script c.self.invariant at played_is w.2 a of_script in
    let jobs = map job_facts c.args.jobs.now.jobs in
    let jobs' = map job_facts c.commit_locked.new.jobs.jobs in
    let e = c.in-Refused.ensures.done in
    let same_job : e.0 ≡ w.0 = same_Some e.0 w.0 (sym e.1 ∙ w.1) in
    let d : CommitsHere c.args.book.now s.ready.levels w.0 k.r jobs jobs' c.args.seat.now.knows c.commit_locked.new.seat.knows c.args.is_orderly.now c.commit_locked.new.is_orderly Refused_answer =
    done_here c.args.book.now s.ready.levels e.0 w.0 k.r jobs jobs' c.args.seat.now.knows c.commit_locked.new.seat.knows c.args.is_orderly.now c.commit_locked.new.is_orderly Refused_answer (newest c.prepare.new.journal) k.newest_is same_job e.2
    in
    let c1 : c.commit_locked.new.chosen ≡ x.chosen = c.commit_locked.ensures.rest ∙ ap (λ (o : Option (JobView BodyView)). record x.chosen { job = o }) c.in-Refused.ensures.place in
    let same = unchanged s x.played x.played x.chosen.arrival x.chosen.stage x.chosen.job x.chosen.job w.0 c.prepare.new.journal refl w.1 has w.2
    c.retract-in-Refused.new.self c.prepare.new.checkpoint.view refl c.retract-in-Refused.ensures c.in-Ok.ensures.same in
    let all : record s { chosen = chosen_of x.played c.commit_locked.new.chosen; journal = c.retract-in-Refused.new.self; checkpoint = c.prepare.new.checkpoint.view } ≡ s =
    ap (λ (o : Chosen). record s { chosen = chosen_of x.played o; journal = c.retract-in-Refused.new.self; checkpoint = c.prepare.new.checkpoint.view }) c1 ∙ same
    in
    let back = subst (λ (v : ExecStateView). HasChosen v (PutsBack v c.put_back-in-Refused.new.self)) (all ∙ c.self.view_is) c.put_back-in-Refused.ensures in
    let paused = subst (λ (v : ExecStateView). HasChosen c.args.self.now (PutsBack c.args.self.now v)) (sym c.pause-in-Refused.ensures) back in
    (paused.0, paused.1, record { back = paused.2; same = same_seat c.commit_locked.new.seat c.args.seat.now (c.commit_locked.ensures.seat.0 ∙ sym c.requires.seat.0) (c.commit_locked.ensures.seat.1 ∙ sym c.requires.seat.1) d.0; order = d.1 })

pub returns-in_default-clause-done : goal.returns-in_default-clause-done
returns-in_default-clause-done g c =
    let x = c.self.inside in
    let s : ExecStateView = record { script = x.home.script; executor = x.home.executor; ready = x.ready; chosen = chosen_of x.played x.chosen; journal = x.journal; checkpoint = x.checkpoint.view; fields = x.played.fields.before } in
    let same : record s { journal = c.prepare.new.journal; checkpoint = c.prepare.new.checkpoint.view } ≡ c.args.self.now =
    ap (λ j. record s { journal = j; checkpoint = c.prepare.new.checkpoint.view }) c.in_default.ensures.err ∙ ap (λ v. record s { checkpoint = v }) c.in_default.ensures.same ∙ c.self.view_is in
    let back = subst (λ (v : ExecStateView). HasChosen v (PutsBack v c.put_back.new.self)) same c.put_back.ensures in
    (back.0, back.1, record { back = back.2; same = refl; order = λ e. e })
