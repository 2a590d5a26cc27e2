use Rattle.swift_executor.proofs.Prelude.{◌≡◌, List, map, Some, Option, IfSome, ◌++◌, ◌∷◌, [], refl, ap, sym, subst, ◌∙◌, same_Some, BookView, Account, BookKnown, ScriptView, with_turn_begun, job_facts, has_last_root, BookSeatView, RunsAtSeat, seat_of, IsSeatFor, orders_of, records_in, seen_by, IsRefusal, ExecFault, BeginsTurn, ChosenView, ExecStateView, HasChosen, IsChosen, ExecInvariant, IsPicked, PutsBack, begun, refusal_to_begin, chosen_at, chosen_of, chosen_view, Chosen, Begun}
use Rattle.swift_events.specs.declared.event.Event.TheVariants.{Begin as Begins_event}
use Rattle.swift_tasks.specs.Refusals.{refusal_of_begin}
use Rattle.swift_executor.proofs.ChosenJob.{seen}
use Rattle.swift_executor.proofs.SeatKept.{back_knows, began_knows, orders_begun, records_begun, picked_has_ticket, picked_runs}
use Rattle.swift_executor.proofs.StateKept.{refused_so, stage_keeps, stage_picked}
use Rattle.swift_executor.proofs.state.ExecState.start.Goals as goal

pub begin_locked-requires : goal.begin_locked-requires
begin_locked-requires c =
    let x = c.self.inside in
    let s : ExecStateView = record { script = x.home.script; executor = x.home.executor; ready = x.ready; chosen = chosen_of x.played x.chosen; journal = x.journal; checkpoint = x.checkpoint.view; fields = x.played.fields.before } in
    let has : HasChosen s (λ c. IsPicked c.stage) = subst (λ (v : ExecStateView). HasChosen v (λ c. IsPicked c.stage)) (sym c.self.view_is) c.requires.picked in
    let was : IsChosen s has.0 = subst (λ (o : Option ChosenView). IfSome o (IsChosen s)) has.1 c.self.invariant.chosen in
    let seat = seat_of c.args.book.now c.args.taken.seat.knows in
    let known : IsSeatFor s seat = subst (λ (v : ExecStateView). IsSeatFor v seat) (sym c.self.view_is) c.requires.known in
    record {
      untouched = c.requires.untouched;
      job = (
        has.0.job,
        (seen x.played x.chosen.arrival x.chosen.stage x.chosen.job has.0 has.1).job,
        (
          was.belongs.script_is ∙ ap (λ (v : ExecStateView). v.script) c.self.view_is ∙ sym c.requires.script,
          picked_has_ticket s seat has.0 known has.1 (stage_picked has.0.stage has.2),
          subst (λ (p : ScriptView). RunsAtSeat p seat.knows (job_facts has.0.job)) (ap (λ (v : ExecStateView). v.script) c.self.view_is ∙ sym c.requires.script) (picked_runs s seat has.0.job known was.belongs),
        ),
      );
    }

pub invariant_of-self : goal.invariant_of-self
invariant_of-self c =
    let x = c.self.inside in
    let s : ExecStateView = record { script = x.home.script; executor = x.home.executor; ready = x.ready; chosen = chosen_of x.played x.chosen; journal = x.journal; checkpoint = x.checkpoint.view; fields = x.played.fields.before } in
    let h = c.in-Ok.ensures.ok in
    let chosen = chosen_view x.played x.chosen.arrival x.chosen.stage h.0 in
    let at : s.chosen ≡ Some chosen = ap (chosen_at x.played x.chosen.arrival x.chosen.stage) h.1 in
    let was : IsChosen s chosen = subst (λ (o : Option ChosenView). IfSome o (IsChosen s)) at c.self.invariant.chosen in
    let new : chosen_of x.played c.begin_locked.new.chosen ≡ Some (record chosen { stage = begun c.args.worker h.2.env }) =
    ap (chosen_of x.played) h.2.new_is ∙ ap (chosen_at x.played x.chosen.arrival (Begun c.args.worker h.2.env)) h.1 in
    subst (λ (o : Option ChosenView). ExecInvariant (record s { chosen = o })) (sym new)
    (stage_keeps s chosen (record chosen { stage = begun c.args.worker h.2.env }) c.self.invariant at was.belongs refl refl tt)

pub invariant_of-self-in-Err : goal.invariant_of-self-in-Err
invariant_of-self-in-Err c =
    let x = c.self.inside in
    let s : ExecStateView = record { script = x.home.script; executor = x.home.executor; ready = x.ready; chosen = chosen_of x.played x.chosen; journal = x.journal; checkpoint = x.checkpoint.view; fields = x.played.fields.before } in
    subst (λ (o : Chosen). ExecInvariant (record s { chosen = chosen_of x.played o })) (sym c.in-Err.ensures.err.0) c.self.invariant

pub put_back-requires : goal.put_back-requires
put_back-requires c =
    let x = c.self.inside in
    let s : ExecStateView = record { script = x.home.script; executor = x.home.executor; ready = x.ready; chosen = chosen_of x.played x.chosen; journal = x.journal; checkpoint = x.checkpoint.view; fields = x.played.fields.before } in
    let has : HasChosen s (λ c. IsPicked c.stage) = subst (λ (v : ExecStateView). HasChosen v (λ c. IsPicked c.stage)) (sym c.self.view_is) c.requires.picked in
    (has.0, ap (chosen_of x.played) c.in-Err.ensures.err.0 ∙ has.1, tt)

pub returns-in-Ok-clause-seat : goal.returns-in-Ok-clause-seat
returns-in-Ok-clause-seat c =
    let h = c.in-Ok.ensures.ok in
    let t = h.2.ticket in
    (c.in-Ok.ensures.seat.0, c.in-Ok.ensures.seat.1, ap (λ v. v.script) t.4 ∙ c.requires.seat.2)

pub returns-in-Ok-clause-known : goal.returns-in-Ok-clause-known
returns-in-Ok-clause-known c =
    let x = c.self.inside in
    let s : ExecStateView = record { script = x.home.script; executor = x.home.executor; ready = x.ready; chosen = chosen_of x.played x.chosen; journal = x.journal; checkpoint = x.checkpoint.view; fields = x.played.fields.before } in
    let h = c.in-Ok.ensures.ok in
    let chosen = chosen_view x.played x.chosen.arrival x.chosen.stage h.0 in
    let at : s.chosen ≡ Some chosen = ap (chosen_at x.played x.chosen.arrival x.chosen.stage) h.1 in
    let has : HasChosen s (λ c. IsPicked c.stage) = subst (λ (v : ExecStateView). HasChosen v (λ c. IsPicked c.stage)) (sym c.self.view_is) c.requires.picked in
    let was : IsPicked chosen.stage = subst (λ (v : ChosenView). IsPicked v.stage) (same_Some has.0 chosen (sym has.1 ∙ at)) has.2 in
    let seat = seat_of c.args.book.now c.args.taken.seat.knows in
    let known : IsSeatFor s seat = subst (λ (v : ExecStateView). IsSeatFor v seat) (sym c.self.view_is) c.requires.known in
    let new : chosen_of x.played c.begin_locked.new.chosen ≡ Some (record chosen { stage = begun c.args.worker h.2.env }) =
    ap (chosen_of x.played) h.2.new_is ∙ ap (chosen_at x.played x.chosen.arrival (Begun c.args.worker h.2.env)) h.1 in
    subst (λ (o : Option ChosenView). IsSeatFor (record s { chosen = o }) c.begin_locked.new.seat) (sym new)
    (began_knows s chosen _ _ c.args.worker h.2.env seat c.begin_locked.new.seat known at (stage_picked chosen.stage was) h.2.ticket c.requires.front c.in-Ok.ensures.seat.1)

pub returns-in-Ok-clause-ok : goal.returns-in-Ok-clause-ok
returns-in-Ok-clause-ok c =
    let x = c.self.inside in
    let s : ExecStateView = record { script = x.home.script; executor = x.home.executor; ready = x.ready; chosen = chosen_of x.played x.chosen; journal = x.journal; checkpoint = x.checkpoint.view; fields = x.played.fields.before } in
    let h = c.in-Ok.ensures.ok in
    let chosen = chosen_view x.played x.chosen.arrival x.chosen.stage h.0 in
    let at : s.chosen ≡ Some chosen = ap (chosen_at x.played x.chosen.arrival x.chosen.stage) h.1 in
    let has : HasChosen s (λ c. IsPicked c.stage) = subst (λ (v : ExecStateView). HasChosen v (λ c. IsPicked c.stage)) (sym c.self.view_is) c.requires.picked in
    let was : IsPicked chosen.stage = subst (λ (v : ChosenView). IsPicked v.stage) (same_Some has.0 chosen (sym has.1 ∙ at)) has.2 in
    let new : ExecStateView = record s { chosen = chosen_of x.played c.begin_locked.new.chosen } in
    let book = c.args.taken.book.value in
    let book' : BookView = record book { log = book.log ++ Begins_event h.0.task h.0.number h.2.env ∷ [] } in
    subst (λ (v : ExecStateView). BeginsTurn book c.args.worker v new) c.self.view_is
    (record {
      book_after = book';
      turn = (
        chosen,
        at,
        record {
          was = stage_picked chosen.stage was;
          env = h.2.env;
          given = h.2.given;
          book_is = refl;
          same = ap (λ (o : Option ChosenView). record s { chosen = o }) (ap (chosen_of x.played) h.2.new_is ∙ ap (chosen_at x.played x.chosen.arrival (Begun c.args.worker h.2.env)) h.1);
        },
      );
    })

pub returns-in-Err-clause-known : goal.returns-in-Err-clause-known
returns-in-Err-clause-known c =
    let x = c.self.inside in
    let s : ExecStateView = record { script = x.home.script; executor = x.home.executor; ready = x.ready; chosen = chosen_of x.played x.chosen; journal = x.journal; checkpoint = x.checkpoint.view; fields = x.played.fields.before } in
    let same : record s { chosen = chosen_of x.played c.begin_locked.new.chosen } ≡ c.args.self.now = ap (λ (o : Chosen). record s { chosen = chosen_of x.played o }) c.in-Err.ensures.err.0 ∙ c.self.view_is in
    let back = subst (λ (v : ExecStateView). HasChosen v (PutsBack v c.put_back.new.self)) same c.put_back.ensures in
    subst (λ seat. IsSeatFor c.put_back.new.self seat) (sym c.in-Err.ensures.err.1) (back_knows c.args.self.now c.put_back.new.self (seat_of c.args.book.now c.args.taken.seat.knows) c.requires.known back)

pub returns-in-Err-clause-back : goal.returns-in-Err-clause-back
returns-in-Err-clause-back c =
    let x = c.self.inside in
    let s : ExecStateView = record { script = x.home.script; executor = x.home.executor; ready = x.ready; chosen = chosen_of x.played x.chosen; journal = x.journal; checkpoint = x.checkpoint.view; fields = x.played.fields.before } in
    let same : record s { chosen = chosen_of x.played c.begin_locked.new.chosen } ≡ c.args.self.now = ap (λ (o : Chosen). record s { chosen = chosen_of x.played o }) c.in-Err.ensures.err.0 ∙ c.self.view_is in
    subst (λ (v : ExecStateView). HasChosen v (PutsBack v c.put_back.new.self)) same c.put_back.ensures

pub returns-in-Ok-clause-order : goal.returns-in-Ok-clause-order
returns-in-Ok-clause-order c =
    let t = c.in-Ok.ensures.ok.2.ticket in
    ap (λ (v : BookKnown). orders_of v) t.4 ∙ orders_begun _ _ c.args.taken.seat.knows.accounts

pub returns-in-Ok-clause-seen : goal.returns-in-Ok-clause-seen
returns-in-Ok-clause-seen c =
    let t = c.in-Ok.ensures.ok.2.ticket in
    ap (λ (v : BookKnown). seen_by v) t.4 ∙ ap (λ (xs : List Account). map (λ (a : Account). a.seen) (map (with_turn_begun c.args.taken.book.value.log (has_last_root c.args.taken.book.value.script c.args.taken.book.value.log)) xs)) c.requires.known.account.accounts

pub returns-in-Ok-clause-records : goal.returns-in-Ok-clause-records
returns-in-Ok-clause-records c =
    let t = c.in-Ok.ensures.ok.2.ticket in
    ap (λ (v : BookKnown). records_in v) t.4 ∙ records_begun _ _ c.args.taken.seat.knows.accounts

pub returns-in-Err-clause-records : goal.returns-in-Err-clause-records
returns-in-Err-clause-records c = ap (λ (s : BookSeatView). records_in s.knows) c.in-Err.ensures.err.1

pub returns-in-Err-clause-refused : goal.returns-in-Err-clause-refused
returns-in-Err-clause-refused c =
    let x = c.self.inside in
    let s : ExecStateView = record { script = x.home.script; executor = x.home.executor; ready = x.ready; chosen = chosen_of x.played x.chosen; journal = x.journal; checkpoint = x.checkpoint.view; fields = x.played.fields.before } in
    let h = c.in-Err.ensures.refused in
    let book = c.args.taken.book.value in
    let at : s.chosen ≡ Some (chosen_view x.played x.chosen.arrival x.chosen.stage h.0) = ap (chosen_at x.played x.chosen.arrival x.chosen.stage) h.1 in
    subst (λ (v : ExecStateView). IsRefusal (refusal_to_begin book v.chosen) c.from.result) c.self.view_is
    (subst (λ (o : Option ChosenView). IsRefusal (refusal_to_begin book o) c.from.result) (sym at)
    (subst (λ (f : ExecFault). IsRefusal (refusal_of_begin book.script book.log h.0) f) (sym c.from.ensures) (refused_so (refusal_of_begin book.script book.log h.0) c.in-Err.fault h.2)))

pub returns-in-Ok-clause-refused : goal.returns-in-Ok-clause-refused
returns-in-Ok-clause-refused c =
    let x = c.self.inside in
    let s : ExecStateView = record { script = x.home.script; executor = x.home.executor; ready = x.ready; chosen = chosen_of x.played x.chosen; journal = x.journal; checkpoint = x.checkpoint.view; fields = x.played.fields.before } in
    let h = c.in-Ok.ensures.refused in
    let at : s.chosen ≡ Some (chosen_view x.played x.chosen.arrival x.chosen.stage h.0) = ap (chosen_at x.played x.chosen.arrival x.chosen.stage) h.1 in
    sym (ap (λ (v : ExecStateView). refusal_to_begin c.args.taken.book.value v.chosen) c.self.view_is) ∙ ap (refusal_to_begin c.args.taken.book.value) at ∙ h.2
