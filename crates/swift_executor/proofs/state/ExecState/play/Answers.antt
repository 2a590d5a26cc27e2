use Rattle.swift_executor.proofs.Prelude.{◌≡◌, ℤ, List, Some, Option, IfSome, refl, ap, sym, subst, ◌∙◌, same_Some, effect_views, frame_view, exit_view, ChosenView, ExecStateView, HasChosen, IsBegun, IsChosen, ExecInvariant, Plays, PutsBack, chosen_at, chosen_of, chosen_view, stage_of, Played, ScriptView}
use Rattle.swift_executor.proofs.ChosenJob.{begun_stage, runs, seen}
use Rattle.swift_executor.proofs.Spared.{all_hold, may_spare}
use Rattle.swift_executor.proofs.StartInvariants.{StartWell}
use Rattle.swift_executor.proofs.StateKept.{stage_keeps}
use Rattle.swift_executor.proofs.Turned.{back_unturned, begun_plays, turned, unturned}
use Rattle.swift_executor.proofs.state.ExecState.play.Goals as goal

pub play_chosen-requires : goal.play_chosen-requires
play_chosen-requires c =
    let x = c.self.inside in
    let s : ExecStateView = record { script = x.home.script; executor = x.home.executor; ready = x.ready; chosen = chosen_of x.played x.chosen; journal = x.journal; checkpoint = x.checkpoint.view; fields = x.played.fields.before } in
    let has : HasChosen s (λ c. IsBegun c.stage) = subst (λ (v : ExecStateView). HasChosen v (λ c. IsBegun c.stage)) (sym c.self.view_is) c.requires in
    let was : IsChosen s has.0 = subst (λ (o : Option ChosenView). IfSome o (IsChosen s)) has.1 c.self.invariant.chosen in
    let k = seen x.played x.chosen.arrival x.chosen.stage x.chosen.job has.0 has.1 in
    record {
      job = (has.0.job, k.job, (runs s.script s.executor has.0.job was.belongs, may_spare s.script s.executor c.rows.result.now s.fields has.0.job was.belongs c.rows.ensures (all_hold s (subst (λ (p : ScriptView). StartWell p) c.script.ensures c.facts.ensures.starts) c.invariants_stay.ensures c.self.invariant)));
      begun = begun_stage x.played x.chosen.stage (subst (λ (v : ChosenView). IsBegun v.stage) k.view has.2);
    }

pub invariant_of-self : goal.invariant_of-self
invariant_of-self c =
    let x = c.self.inside in
    let s : ExecStateView = record { script = x.home.script; executor = x.home.executor; ready = x.ready; chosen = chosen_of x.played x.chosen; journal = x.journal; checkpoint = x.checkpoint.view; fields = x.played.fields.before } in
    let h = c.in-Ok.ensures.ok in
    let p = c.play_chosen.new.played in
    let chosen = chosen_view x.played x.chosen.arrival x.chosen.stage h.0 in
    let at : s.chosen ≡ Some chosen = ap (chosen_at x.played x.chosen.arrival x.chosen.stage) h.1 in
    let was : IsChosen s chosen = subst (λ (o : Option ChosenView). IfSome o (IsChosen s)) at c.self.invariant.chosen in
    let is = turned s.script s.executor s.fields h.2.env h.2.worker h.0 h.2.job p was.belongs h.2.turned in
    subst (λ (rows : List (List ℤ)). ExecInvariant (record s { chosen = chosen_of p c.play_chosen.new.chosen; fields = rows })) (sym c.play_chosen.ensures.same)
    (subst (λ (o : Option ChosenView). ExecInvariant (record s { chosen = o })) (sym (ap (chosen_of p) h.2.new_is))
    (stage_keeps s chosen (chosen_view p x.chosen.arrival (Played h.2.worker h.2.env) h.2.job) c.self.invariant at is.belongs h.2.turned.task refl is.plays))

pub invariant_of-self-in_default : goal.invariant_of-self-in_default
invariant_of-self-in_default c =
    let x = c.self.inside in
    let s : ExecStateView = record { script = x.home.script; executor = x.home.executor; ready = x.ready; chosen = chosen_of x.played x.chosen; journal = x.journal; checkpoint = x.checkpoint.view; fields = x.played.fields.before } in
    let h = c.in_default.ensures.err in
    let p = c.play_chosen.new.played in
    let chosen = chosen_view x.played x.chosen.arrival x.chosen.stage h.0 in
    let at : s.chosen ≡ Some chosen = ap (chosen_at x.played x.chosen.arrival x.chosen.stage) h.1 in
    let was : IsChosen s chosen = subst (λ (o : Option ChosenView). IfSome o (IsChosen s)) at c.self.invariant.chosen in
    let has : HasChosen s (λ c. IsBegun c.stage) = subst (λ (v : ExecStateView). HasChosen v (λ c. IsBegun c.stage)) (sym c.self.view_is) c.requires in
    let begun : IsBegun chosen.stage = subst (λ (v : ChosenView). IsBegun v.stage) (same_Some has.0 chosen (sym has.1 ∙ at)) has.2 in
    subst (λ (rows : List (List ℤ)). ExecInvariant (record s { chosen = chosen_of p c.play_chosen.new.chosen; fields = rows })) (sym c.play_chosen.ensures.same)
    (subst (λ (o : Option ChosenView). ExecInvariant (record s { chosen = o })) (sym (ap (chosen_of p) h.2.new_is))
    (stage_keeps s chosen (chosen_view p x.chosen.arrival x.chosen.stage h.2.job)
    c.self.invariant at (unturned s.script s.executor h.0 h.2.job was.belongs h.2.unturned) h.2.unturned.task refl (begun_plays s.script s.fields h.2.job x.played p x.chosen.stage begun)))

pub put_back-requires : goal.put_back-requires
put_back-requires c =
    let x = c.self.inside in
    let h = c.in_default.ensures.err in
    let p = c.play_chosen.new.played in
    (chosen_view p x.chosen.arrival x.chosen.stage h.2.job, ap (chosen_of p) h.2.new_is, tt)

pub returns-in_default-clause-back : goal.returns-in_default-clause-back
returns-in_default-clause-back c =
    let x = c.self.inside in
    let s : ExecStateView = record { script = x.home.script; executor = x.home.executor; ready = x.ready; chosen = chosen_of x.played x.chosen; journal = x.journal; checkpoint = x.checkpoint.view; fields = x.played.fields.before } in
    let h = c.in_default.ensures.err in
    let p = c.play_chosen.new.played in
    let chosen = chosen_view x.played x.chosen.arrival x.chosen.stage h.0 in
    let at : s.chosen ≡ Some chosen = ap (chosen_at x.played x.chosen.arrival x.chosen.stage) h.1 in
    let has : HasChosen s (λ c. IsBegun c.stage) = subst (λ (v : ExecStateView). HasChosen v (λ c. IsBegun c.stage)) (sym c.self.view_is) c.requires in
    let begun : IsBegun chosen.stage = subst (λ (v : ChosenView). IsBegun v.stage) (same_Some has.0 chosen (sym has.1 ∙ at)) has.2 in
    let here = λ (o : Option ChosenView) (rows : List (List ℤ)). HasChosen (record s { chosen = o; fields = rows }) (PutsBack (record s { chosen = o; fields = rows }) c.put_back.new.self) in
    let back = subst (λ (o : Option ChosenView). here o s.fields) (ap (chosen_of p) h.2.new_is) (subst (λ (rows : List (List ℤ)). here (chosen_of p c.play_chosen.new.chosen) rows) c.play_chosen.ensures.same c.put_back.ensures) in
    subst (λ (v : ExecStateView). HasChosen v (PutsBack v c.put_back.new.self)) c.self.view_is
    (back_unturned s c.put_back.new.self x.played p x.chosen.arrival x.chosen.stage h.0 h.2.job at begun h.2.unturned back)

pub returns-clause-ok : goal.returns-clause-ok
returns-clause-ok c =
    let x = c.self.inside in
    let s : ExecStateView = record { script = x.home.script; executor = x.home.executor; ready = x.ready; chosen = chosen_of x.played x.chosen; journal = x.journal; checkpoint = x.checkpoint.view; fields = x.played.fields.before } in
    let h = c.in-Ok.ensures.ok in
    let p = c.play_chosen.new.played in
    let chosen = chosen_view x.played x.chosen.arrival x.chosen.stage h.0 in
    let at : s.chosen ≡ Some chosen = ap (chosen_at x.played x.chosen.arrival x.chosen.stage) h.1 in
    let was : IsChosen s chosen = subst (λ (o : Option ChosenView). IfSome o (IsChosen s)) at c.self.invariant.chosen in
    let is = turned s.script s.executor s.fields h.2.env h.2.worker h.0 h.2.job p was.belongs h.2.turned in
    let new : ExecStateView = record s { chosen = chosen_of p c.play_chosen.new.chosen; fields = p.fields.before } in
    subst (λ (v : ExecStateView). HasChosen v (Plays v new)) c.self.view_is (
      chosen,
      at,
      record {
        worker = h.2.worker;
        env = h.2.env;
        was = ap (stage_of x.played) h.2.was;
        job = h.2.job;
        frame = frame_view p.frame;
        fields = p.fields.after;
        effects = effect_views p.effects.items;
        exit = exit_view p.exit;
        plays = is.plays;
        same_job = is.same_job;
        script_is = h.2.turned.body.script;
        same = ap (λ (rows : List (List ℤ)). record s { chosen = chosen_of p c.play_chosen.new.chosen; fields = rows }) c.play_chosen.ensures.same ∙ ap (λ (o : Option ChosenView). record s { chosen = o }) (ap (chosen_of p) h.2.new_is);
      },
    )
