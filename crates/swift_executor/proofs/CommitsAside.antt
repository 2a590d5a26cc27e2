-- A turn that is aside, when it is committed in a book that was taken.
use Rattle.swift_executor.proofs.Prelude.{◌≡◌, ℕ, ◌≤◌, ℤ, Bool, Option, Some, None, IfSome, List, [], same_Some, refl, ap, sym, subst, ◌∙◌, inl, AreLevels, HaveStayed, ScriptView, effect_views, exit_view, EffectView, ExitView, JobView, BodyView, RecordView, JobFacts, BookFacts, BookKnown, BookView, BookLockView, BookSeatView, newest, seat_of, AreAtMost, ReadyJobsView, StageIsPlayed, IsRunning, HaveSeen, IsInRun, IsChosen, ChosenView, ExecStateView, IsPlayed, CheckpointRoomView, InvariantsStay, LawfulGrows, chosen_view, stage_of, FieldsAre, PlayedTurn, ChosenStage, Picked, Begun, Played, CommitsHere, IsThere, StageIs}
use Rattle.swift_course.proofs.Parts.{seat_learns}
use Rattle.swift_executor.specs.AsideInside.{after_aside, played_on}
use Rattle.swift_executor.specs.CommitAsideInside.{AppliesAside, CommitsAside, LeavesAside, MayCommit}
use Rattle.swift_executor.specs.PlayingInside.{HasJob}
use Rattle.swift_executor.specs.declared.aside.Aside.{Aside}
use Rattle.swift_executor.specs.declared.chosen.Chosen.{Chosen}
use Rattle.swift_shared_book.specs.Commits.{HasPlayedAhead, PlaceAfter, book_begun}
use Rattle.swift_shared_book.specs.declared.commits.Committed.{Committed}
use Rattle.swift_shared_book.specs.declared.commits.Committed.TheVariants as committed
use Rattle.swift_executor.proofs.ChosenJob.{runs}
use Rattle.swift_executor.proofs.Committed.{IsWrittenAhead, applied_so, applies_there, begins_there, done_here, stayed_ahead, written_ahead}
use Rattle.swift_executor.proofs.TurnKept.{Done, journalled}
use Rattle.swift_executor.proofs.Visits.{seen_of}

-- what is known of a book says what the accounts of a seat have seen of its log
pub seen_in_run : (v : BookKnown) (facts : BookFacts) → IsInRun v facts → HaveSeen facts.log v
seen_in_run v facts run = seen_of v facts (seat_learns v facts run.0 run.1 run.2 run.3)

stage_played : (p : PlayedTurn) (stage : ChosenStage) → StageIsPlayed stage → IsPlayed (stage_of p stage)
stage_played p Picked is = is
stage_played p (Begun worker env) is = is
stage_played p (Played worker env) is = tt

-- what was played and is known of its record
abbrev pub PlaysOn : ScriptView → BookKnown → Option RecordView → List EffectView → ExitView → ChosenStage → JobView BodyView → Type 0
PlaysOn script v written effects exit stage j = (r : RecordView) × (written ≡ Some r) × (r.exit ≡ exit) × (r.effects ≡ effects) × StageIs r.env stage × HasPlayedAhead script v j r

module _ (worker : ℕ) (l : BookLockView) (ready : ReadyJobsView BodyView) (v : BookKnown) (a : Aside) (s : ExecStateView) (m : MayCommit worker l ready v a s) where
  abbrev fields : FieldsAre
  fields = record { before = s.fields; after = m.is.after }

  abbrev p : PlayedTurn
  p = played_on a fields

  abbrev job : JobView BodyView
  job = m.is.job

  abbrev seat : BookSeatView
  seat = seat_of l v

  abbrev c : ChosenView
  c = chosen_view p a.chosen.arrival a.chosen.stage job

  was_played : IsPlayed (stage_of p a.chosen.stage)
  was_played = stage_played p a.chosen.stage m.is.played

  chosen : IsChosen s c
  chosen = subst (λ (o : Option ChosenView). IfSome o (IsChosen s)) m.is.chosen_is m.keeps.chosen

  k : IsWrittenAhead l.script p a.chosen.stage seat job a.written.value
  k = written_ahead worker s p a.chosen.arrival a.chosen.stage job a.written.value seat l.script m.keeps m.is.chosen_is was_played m.is.written m.ahead m.script_is

  -- what the book has to know of it
  pub job_runs : HasJob a.chosen.job (λ j. IsRunning j.body × (j.body.script ≡ l.script))
  job_runs = (job, m.is.place, (runs s.script s.executor job chosen.belongs, chosen.belongs.script_is ∙ sym m.script_is))

  pub job_plays : HasJob a.chosen.job (PlaysOn l.script v (newest a.written.value) (effect_views a.effects.items) (exit_view a.exit) a.chosen.stage)
  job_plays = (job, m.is.place, (k.r, k.newest_is, k.exit, k.effects, k.env, k.plays))

  pub levels_stay : (b : BookView) → HaveSeen b.log v → (n : ℕ) (given : List ℕ) → HaveStayed b.log n → AreLevels b.log given → n ≤ ready.counted → AreAtMost given ready.levels
  levels_stay b saw n given stayed are le =
      subst (λ (ls : List ℕ). AreAtMost given ls) (sym m.levels) (stayed_ahead worker s seat m.ahead b saw n given stayed are (subst (λ (most : ℕ). n ≤ most) m.counted le))

  -- what was done with it
  module _ (jobs jobs' : List JobFacts) (w : BookKnown) (was is : Bool) where
    here : (b : BookView) → IsThere l ready.levels job v was is b → IsThere l s.ready.levels job v was is b
    here b there = subst (λ (ls : List ℕ). IsThere l ls job v was is b) m.levels there

    applies : ((script : ScriptView) (fields : List (List ℤ)) (rs : List RecordView) (r : RecordView) → LawfulGrows script fields rs r) → InvariantsStay
        → CommitsHere l ready.levels job k.r jobs jobs' v w was is committed.Applied → AppliesAside worker l jobs jobs' v w was is a s m.is
    applies grows stays d =
        let room : CheckpointRoomView = record { view = s.checkpoint; room = [] } in
        let applied = applied_so worker seat s m.ahead p a.chosen.arrival a.chosen.stage job a.written.value m.is.chosen_is was_played m.is.written k.r k.newest_is d.0 jobs jobs' w k.exit k.effects d.2 in
        let f : Done (book_begun d.0 job k.r.env) d.2.after jobs jobs' s (after_aside s a m.is) c =
        journalled (book_begun d.0 job k.r.env) d.2.after jobs jobs' s p job a.chosen.arrival a.chosen.stage a.written.value a.written.value None room room s.ready grows stays m.keeps m.is.chosen_is was_played m.is.written refl m.is.few
        (refl, refl) (inl (m.is.alone, refl)) applied
        in
        record {
          applies = (
            c,
            m.is.chosen_is,
            applies_there worker seat s m.ahead p a.chosen.arrival a.chosen.stage job a.written.value m.is.chosen_is was_played m.is.written k.r k.newest_is
                l d.0 jobs jobs' w was is (seat_of l w) (after_aside s a m.is) job.task grows m.keeps k.exit k.effects (here d.0 d.1) m.script_is d.2 refl refl refl f.journals refl,
          );
          keeps = f.keeps;
        }

    by_answer : ((script : ScriptView) (fields : List (List ℤ)) (rs : List RecordView) (r : RecordView) → LawfulGrows script fields rs r) → InvariantsStay
        → (answer : Committed) → CommitsHere l ready.levels job k.r jobs jobs' v w was is answer → CommitsAside worker l jobs jobs' v w was is a s m.is answer
    by_answer grows stays committed.Applied d = applies grows stays d
    by_answer grows stays (committed.Begun env) d = (
      c,
      m.is.chosen_is,
      begins_there worker seat s m.ahead p a.chosen.arrival a.chosen.stage job a.written.value m.is.chosen_is was_played m.is.written k.r k.newest_is l d.0 env w was is (here d.0 d.1) m.script_is d.2.begins,
    )
    by_answer grows stays committed.Refused d = d

    pub commits_aside : ((script : ScriptView) (fields : List (List ℤ)) (rs : List RecordView) (r : RecordView) → LawfulGrows script fields rs r) → InvariantsStay
        → (answer : Committed) → HasJob a.chosen.job (λ j. IfSome (newest a.written.value) (λ r. CommitsHere l ready.levels j r jobs jobs' v w was is answer)) → CommitsAside worker l jobs jobs' v w was is a s m.is answer
    commits_aside grows stays answer h =
        let same : h.0 ≡ job = same_Some h.0 job (sym h.1 ∙ m.is.place) in
        by_answer grows stays answer (done_here l ready.levels h.0 job k.r jobs jobs' v w was is answer (newest a.written.value) k.newest_is same h.2)

-- what is aside then: only its place may be another
pub leaves : (old new : Aside) (answer : Committed) → new ≡ record old { chosen = new.chosen } → new.chosen ≡ record old.chosen { job = new.chosen.job } → PlaceAfter old.chosen.job new.chosen.job answer → LeavesAside old new answer
leaves old new committed.Applied same rest place = place
leaves old new (committed.Begun env) same rest place = same ∙ ap (λ (x : Chosen). record old { chosen = x }) (rest ∙ ap (λ (o : Option (JobView BodyView)). record old.chosen { job = o }) place)
leaves old new committed.Refused same rest place = same ∙ ap (λ (x : Chosen). record old { chosen = x }) (rest ∙ ap (λ (o : Option (JobView BodyView)). record old.chosen { job = o }) place)
