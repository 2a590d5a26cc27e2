-- Turns that were run one after the other.
use Rattle.swift_executor.proofs.Prelude.{◌≡◌, ℕ, zero, suc, ◌+◌, Option, Some, None, List, map, refl, sym, subst, ap, ◌∙◌, arith, inr, TaskId, ScriptView, JobFacts, job_facts, IsJobOf, AllByRecursion, GoesOn, IsOf, IsOfBook, TakenView, BookLockView, HasBegun, HasStayed, Finishes, RunsTurn, RunsTurns, IsNotEnded, IsRefused, Afresh, StaysWhole, ExecFault}
use Rattle.swift_executor.specs.BatchInside.{RunsBatch}
use Rattle.swift_executor.specs.Held.{KeepsJobs}
use Rattle.swift_shared_book.specs.Shared.{TicketedJobsView}
use Rattle.swift_executor.proofs.VisitSteps.{book_stays, ran_on, stays_begun, stays_both, stays_so}

-- only jobs have changed after the last one
pub turns_stay : (worker turns : ℕ) (last : TaskId) (jobs jobs' : List JobFacts) (old mid new : TakenView) → RunsTurns worker turns last jobs jobs' old mid → HasStayed mid new → RunsTurns worker turns last jobs jobs' old new
turns_stay worker zero last jobs jobs' old mid new ran stays = (stays_both old mid new ran.0 stays, ran.1)
turns_stay worker (suc turns) last jobs jobs' old mid new ran stays = (ran.0, ran.1, ran.2, ran.3, ran.4, ran.5, stays_both ran.3 mid new ran.6 stays)

-- one more was run
pub turns_push : (worker turns : ℕ) (before last : TaskId) (jobs mid jobs' : List JobFacts) (old r new : TakenView) → RunsTurns worker turns before jobs mid old r → Afresh (RunsTurn worker last mid jobs') r new → RunsTurns worker (suc turns) last jobs jobs' old new
turns_push worker turns before last jobs mid jobs' old r new ran one =
    (before, mid, one.ready, new, turns_stay worker turns before jobs mid old r one.ready ran one.whole.stays, one.does, stays_so new (ran_on worker last mid jobs' one.ready new one.does).1)

-- one was run
pub one_turn : (worker : ℕ) (task : TaskId) (jobs jobs' : List JobFacts) (old r new : TakenView) → StaysWhole old r → Afresh (RunsTurn worker task jobs jobs') r new → RunsTurns worker 1 task jobs jobs' old new
one_turn worker task jobs jobs' old r new whole one = turns_push worker 0 task task jobs jobs jobs' old r new (whole.stays, refl) one

-- the visit goes on with the state of the same executor
pub turns_goes : (worker turns : ℕ) (last : TaskId) (jobs jobs' : List JobFacts) (old new : TakenView) → RunsTurns worker turns last jobs jobs' old new → GoesOn old new
turns_goes worker zero last jobs jobs' old new ran = ran.0.goes_on
turns_goes worker (suc turns) last jobs jobs' old new ran =
    let early = turns_goes worker turns ran.0 jobs ran.1 old ran.2 ran.4 in
    let one = ran_on worker last ran.1 jobs' ran.2 ran.3 ran.5 in
    (ran.6.goes_on.0 ∙ one.0 ∙ early.0, ran.6.goes_on.1)

-- what the jobs of a list are of, over two steps
pub jobs_more : (p q : ScriptView) (a b c : TicketedJobsView) → q ≡ p → KeepsJobs p a b → KeepsJobs q b c → KeepsJobs p a c
jobs_more p q a b c same one two =
    (two.0 ∙ one.0, λ all. subst (λ (x : ScriptView). AllByRecursion (IsJobOf x) c.jobs) same (two.1 (subst (λ (x : ScriptView). AllByRecursion (IsJobOf x) b.jobs) (sym same) (one.1 all))))

-- what was done afresh, after only jobs have changed
pub afresh_after : (P : TakenView → TakenView → Type 0) (old mid new : TakenView) → StaysWhole old mid → Afresh P mid new → Afresh P old new
afresh_after P old mid new w a = record { ready = a.ready; whole = record { stays = stays_both old mid a.ready w.stays a.whole.stays; is_of = λ x. a.whole.is_of (w.is_of x) }; does = a.does }

-- A batch in which no turn was run.
pub batch_none : (worker n : ℕ) (last : TaskId) (jobs jobs' : List JobFacts) (old new : TakenView) → RunsBatch worker n last None jobs jobs' old new → n ≡ 0 → StaysWhole old new
batch_none worker n last jobs jobs' old new ran none =
    let zero_runs = subst (λ (k : ℕ). RunsTurns worker k last jobs jobs' old new) none ran.0 in
    record { stays = zero_runs.0; is_of = λ x. ran.1 }

-- The turn of a task has begun behind those of a batch.
module _ (worker n : ℕ) (last task : TaskId) (jobs mid : List JobFacts) (old r : TakenView) (ran : RunsBatch worker n last (Some task) jobs mid old r) where
  pub begun_name : GoesOn old ran.0
  begun_name = turns_goes worker n last jobs mid old ran.0 ran.1

  pub begun_of : (b : BookLockView) → IsOfBook b old → IsOfBook b r
  begun_of b of = book_stays b old r (ran.3.name ∙ begun_name.0) of

  pub begun_finished : (jobs' : List JobFacts) (new : TakenView) → Finishes mid jobs' r new → RunsTurns worker (n + 1) task jobs jobs' old new
  begun_finished jobs' new f =
      let one : RunsTurn worker task mid jobs' ran.0 new = record { begun = r; begins = ran.3; finishes = f } in
      let same : suc n ≡ n + 1 = omega arith in
      subst (λ (k : ℕ). RunsTurns worker k task jobs jobs' old new) same (last, mid, ran.0, new, ran.1, one, stays_so new f.goes_on.1)

  pub begun_refused : (new : TakenView) (fault : ExecFault) → n ≡ 0 → HasStayed r new → IsNotEnded r fault new → Afresh (IsRefused worker fault) old new
  begun_refused new fault none stays why =
      let zero_runs = subst (λ (k : ℕ). RunsTurns worker k last jobs mid old ran.0) none ran.1 in
      record {
        ready = ran.0;
        whole = record { stays = zero_runs.0; is_of = λ x. ran.2 };
        does = record { stays = stays_begun worker task ran.0 r new ran.3 stays; why = inr (record { task = task; begun = r; begins = ran.3; why = why }) };
      }

  pub begun_stays : (new : TakenView) → HasStayed r new → RunsTurns worker n last jobs mid old new
  begun_stays new stays = turns_stay worker n last jobs mid old ran.0 new ran.1 (stays_begun worker task ran.0 r new ran.3 stays)
