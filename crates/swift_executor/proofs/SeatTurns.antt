-- What the seat of an executor knows when a turn is applied whose record was written.
use Rattle.swift_executor.proofs.Prelude.{◌≡◌, ℕ, suc, ◌-◌, ℤ, Some, None, List, [], ◌∷◌, ◌++◌, length, refl, ap, sym, subst, ◌∙◌, arith, slice_get, same_Some, effect_views, frame_view, exit_view, JobFacts, JobView, RecordView, LawfulGrows, ScriptView, BookView, BodyView, BookSeatView, after_turn, knowing, newest, BookFault, WritesRecord, refusal_of_left, IsRefusal, fault_of, IsSeatFor, ExecStateView, ExecInvariant, IsPlayed, Journals, record_at, record_by, refusal_of_stage, chosen_view, stage_of, PlayedTurn, ChosenStage, Picked, Begun}
use Rattle.std.proofs.Common.{length-append}
use Rattle.swift_shared_book.specs.Shared.{HasPlayed}
use Rattle.swift_tasks.specs.Refusals.{IsRefusal as BookRefusal}
use Rattle.swift_executor.proofs.StateKept.{refused_so}
use Rattle.swift_executor.specs.declared.chosen.ChosenStage.TheVariants.{Played as PlayedStage}
use Rattle.swift_executor.proofs.AccountKept.{forwarded}
use Rattle.swift_executor.proofs.SeatKept.{forward_counts, has_played, turned_knows}

newest_push : (rs : List RecordView) (r : RecordView) → newest (rs ++ r ∷ []) ≡ Some r
newest_push [] r = refl
newest_push (x ∷ rs) r =
    let l = rs ++ r ∷ [] in
    let len = length-append rs (r ∷ []) in
    let last : suc (length l) - 1 ≡ suc (length l - 1) = omega (arith, len) in
    ap (slice_get (x ∷ l)) last ∙ newest_push rs r

pub newest_is : (p : PlayedTurn) (stage : ChosenStage) (job : JobView BodyView) (old new : List RecordView) → IsPlayed (stage_of p stage) → WritesRecord p stage job old new → newest new ≡ record_at job (stage_of p stage)
newest_is p Picked job old new was wrote = absurd was
newest_is p (Begun worker env) job old new was wrote = absurd was
newest_is p (PlayedStage worker env) job old new was wrote = ap newest wrote ∙ newest_push old (record_by job worker env (frame_view p.frame) (effect_views p.effects.items) (exit_view p.exit))

-- The newest record is that of the turn, and the turn is that of the seat's first ticket.
pub record IsWritten (script : ScriptView) (p : PlayedTurn) (seat : BookSeatView) (job : JobView BodyView) (journal : List RecordView) : Type 0 where
  pub r : RecordView
  pub newest_is : newest journal ≡ Some r
  pub exit : r.exit ≡ exit_view p.exit
  pub effects : r.effects ≡ effect_views p.effects.items
  pub plays : HasPlayed script seat.knows job r

pub written : (s : ExecStateView) (p : PlayedTurn) (arrival : ℕ) (stage : ChosenStage) (job : JobView BodyView) (j1 : List RecordView) (seat : BookSeatView) (script : ScriptView)
    → ExecInvariant s → s.chosen ≡ Some (chosen_view p arrival stage job) → IsPlayed (stage_of p stage) → WritesRecord p stage job s.journal j1 → IsSeatFor s seat → script ≡ s.script → IsWritten script p seat job j1
written s p arrival Picked job j1 seat script is at was wrote known of_script = absurd was
written s p arrival (Begun worker env) job j1 seat script is at was wrote known of_script = absurd was
written s p arrival (PlayedStage worker env) job j1 seat script is at was wrote known of_script =
    let frame = frame_view p.frame in
    let effects = effect_views p.effects.items in
    let exit = exit_view p.exit in
    let c = chosen_view p arrival (PlayedStage worker env) job in
    let r = record_by job worker env frame effects exit in
    let plays = has_played s seat c worker env frame _ effects exit is at refl known in
    record {
      r = r;
      newest_is = newest_is p (PlayedStage worker env) job s.journal j1 tt wrote;
      exit = refl;
      effects = refl;
      plays = subst (λ (x : ScriptView). HasPlayed x seat.knows job r) (sym of_script) plays;
    }

-- once the turn is journalled, the seat is that of the executor again
pub applied : (s new : ExecStateView) (p : PlayedTurn) (arrival : ℕ) (stage : ChosenStage) (job : JobView BodyView) (j1 : List RecordView) (seat seat' : BookSeatView) (r : RecordView) (book book' : BookView) (jobs jobs' : List JobFacts)
    → ((script : ScriptView) (fields : List (List ℤ)) (rs : List RecordView) (r : RecordView) → LawfulGrows script fields rs r)
    → ExecInvariant s → s.chosen ≡ Some (chosen_view p arrival stage job) → IsPlayed (stage_of p stage) → WritesRecord p stage job s.journal j1 → IsSeatFor s seat
    → Journals book book' jobs jobs' s new (chosen_view p arrival stage job) → newest j1 ≡ Some r → seat' ≡ knowing (after_turn r seat.knows) seat → IsSeatFor new seat'
applied s new p arrival stage job j1 seat seat' r book book' jobs jobs' grows is at was wrote known h one same =
    let c = chosen_view p arrival stage job in
    let own : RecordView = record_by job h.worker h.env h.frame h.effects h.exit in
    let of_turn : r ≡ own = same_Some r own (sym one ∙ newest_is p stage job s.journal j1 was wrote ∙ ap (record_at job) h.was) in
    let here = turned_knows s seat c h.worker h.env h.frame h.fields h.effects h.exit is at h.was known new.ready grows (forwarded s.ready job.task new.ready h.forwards) (forward_counts s.ready job.task new.ready h.forwards) in
    let there : IsSeatFor new (knowing (after_turn own seat.knows) seat) = subst (λ (v : ExecStateView). IsSeatFor v (knowing (after_turn own seat.knows) seat)) (sym h.same) here in
    subst (λ (x : BookSeatView). IsSeatFor new x) (sym same) (subst (λ (x : RecordView). IsSeatFor new (knowing (after_turn x seat.knows) seat)) (sym of_turn) there)

-- why the book does not take what a turn has left that was played

pub allowed_at : (book : BookView) (p : PlayedTurn) (stage : ChosenStage) (j : JobView BodyView) → refusal_of_left book j p ≡ None → refusal_of_stage book j (stage_of p stage) ≡ None
allowed_at book p Picked j may = refl
allowed_at book p (Begun worker env) j may = refl
allowed_at book p (PlayedStage worker env) j may = may

pub refused_at : (book : BookView) (p : PlayedTurn) (stage : ChosenStage) (j : JobView BodyView) (cause : BookFault) → IsPlayed (stage_of p stage) → BookRefusal (refusal_of_left book j p) cause → IsRefusal (refusal_of_stage book j (stage_of p stage)) (fault_of cause)
refused_at book p Picked j cause was is = absurd was
refused_at book p (Begun worker env) j cause was is = absurd was
refused_at book p (PlayedStage worker env) j cause was is = refused_so (refusal_of_left book j p) cause is
