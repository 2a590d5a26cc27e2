-- A turn that a visit has run wrote one record, and turns that it has run one after the other one each.
use Rattle.swift_executor.proofs.Prelude.{◌≡◌, ℕ, zero, suc, List, [], ◌∷◌, ◌++◌, length, map, refl, ap, sym, ◌∙◌, arith, same_Some, JobFacts, TaskId, TakenView, HasStayed, RunsTurn, RecordView, job_facts, with_record, Account, BookSeatView, job_seen, ready_jobs, record_seen, ready_job, records_in, ChosenStageView, ChosenView, ExecStateView, journal_with, picked, begun, played, record_at, record_by, record_of, TurnsWriteAll, TurnsWriteOne, WritesAll, journal_with_all}
use Rattle.swift_executor.proofs.AccountKept.{front_less}
use Rattle.swift_executor.proofs.Visits.{only_both, only_played, only_started}

records_applied : (r : RecordView) (xs : List Account) → map (λ (a : Account). a.records) (map (with_record r) xs) ≡ map (λ rs. rs ++ r ∷ []) (map (λ (a : Account). a.records) xs)
records_applied r [] = refl
records_applied r (x ∷ xs) = ap (λ (l : List (List RecordView)). (x.records ++ r ∷ []) ∷ l) (records_applied r xs)

-- the worker of a turn that has begun
abbrev worker_of : ChosenStageView → ℕ
worker_of picked = 0
worker_of (begun worker env) = worker
worker_of (played worker env frame fields effects exit) = worker

pub writes_one : TurnsWriteOne
writes_one worker task jobs jobs' old new ran =
    let s = ran.begins.starts in
    let f = ran.finishes in
    let ch = s.chooses in
    let b = s.begins.begins.turn in
    let p = f.plays in
    let e = f.ends.turn in
    let r = f.written in
    let first : ChosenView = record { job = ch.job; arrival = ch.arrival; stage = picked } in
    let was : first ≡ b.0 = same_Some first b.0 (sym (ap (λ (x : ExecStateView). x.chosen) ch.same) ∙ b.1) in
    let going : ChosenView = record b.0 { stage = begun worker b.2.env } in
    let goes : p.0 ≡ going = same_Some p.0 going (sym p.1 ∙ ap (λ (x : ExecStateView). x.chosen) s.begins.given ∙ ap (λ (x : ExecStateView). x.chosen) b.2.same) in
    let done : ChosenView = record { job = p.2.job; arrival = p.0.arrival; stage = played p.2.worker p.2.env p.2.frame p.2.fields p.2.effects p.2.exit } in
    let own : RecordView = record_by p.2.job p.2.worker p.2.env p.2.frame p.2.effects p.2.exit in
    let is : r ≡ own = same_Some r own (sym f.is_written ∙ ap (λ (x : ExecStateView). record_of x.chosen) p.2.same) in
    let ended : RecordView = record_by e.0.job e.2.worker e.2.env e.2.frame e.2.effects e.2.exit in
    let ends : r ≡ ended = same_Some r ended (sym f.is_written ∙ ap record_of e.1 ∙ ap (record_at e.0.job) e.2.was) in
    let of_job : record_seen r ≡ job_seen (job_facts ch.job) =
    ap record_seen is ∙ ap job_seen p.2.same_job ∙ ap (λ (x : ChosenView). job_seen (job_facts x.job)) (goes ∙ ap (λ (x : ChosenView). record x { stage = begun worker b.2.env }) (sym was))
    in
    let stayed : f.played.journal ≡ old.state.journal =
    ap (λ (x : ExecStateView). x.journal) (only_both old.state ran.begun.state f.played (only_started worker task old.seat.knows old.state ran.begun.state s) (only_played ran.begun.state f.played p))
    in
    record {
      written = r;
      job = job_facts ch.job;
      others = ready_jobs s.picked.ready;
      was_ready = front_less old.state.ready s.picked.ready (ready_job ch.job ch.arrival) ch.rest (ap (λ (x : ExecStateView). x.ready.behind) ch.same);
      of_job = of_job;
      of_task = ap (λ x. x.task) of_job ∙ ap (λ (t : TaskId). t.0) ch.task_is;
      on_worker = ap (λ (x : RecordView). x.worker) is ∙ ap worker_of (sym p.2.was ∙ ap (λ (x : ChosenView). x.stage) goes);
      journal = ap (λ (x : ExecStateView). x.journal) e.2.same ∙ ap (λ (js : List RecordView). journal_with js ended) stayed ∙ ap (journal_with old.state.journal) (sym ends);
      account = ap (λ (x : BookSeatView). records_in x.knows) f.told ∙ records_applied r ran.begun.seat.knows.accounts ∙ ap (map (λ rs. rs ++ r ∷ [])) ran.begins.records;
    }

-- records behind others
none_behind : (xs : List RecordView) → xs ≡ xs ++ []
none_behind [] = refl
none_behind (x ∷ xs) = ap (λ (ys : List RecordView). x ∷ ys) (none_behind xs)

one_behind : (xs ws : List RecordView) (r : RecordView) → (xs ++ ws) ++ r ∷ [] ≡ xs ++ (ws ++ r ∷ [])
one_behind [] ws r = refl
one_behind (x ∷ xs) ws r = ap (λ (ys : List RecordView). x ∷ ys) (one_behind xs ws r)

length_more : (ws : List RecordView) (r : RecordView) → length (ws ++ r ∷ []) ≡ suc (length ws)
length_more [] r = refl
length_more (w ∷ ws) r = ap suc (length_more ws r)

journal_more : (ws : List RecordView) (r : RecordView) (journal : List RecordView) → journal_with_all journal (ws ++ r ∷ []) ≡ journal_with (journal_with_all journal ws) r
journal_more [] r journal = refl
journal_more (w ∷ ws) r journal = journal_more ws r (journal_with journal w)

same_accounts : (xs : List (List RecordView)) → xs ≡ map (λ rs. rs ++ []) xs
same_accounts [] = refl
same_accounts (x ∷ xs) = ap (λ (y : List RecordView). y ∷ xs) (none_behind x) ∙ ap (λ (ys : List (List RecordView)). (x ++ []) ∷ ys) (same_accounts xs)

more_accounts : (ws : List RecordView) (r : RecordView) (xs : List (List RecordView)) → map (λ rs. rs ++ r ∷ []) (map (λ rs. rs ++ ws) xs) ≡ map (λ rs. rs ++ (ws ++ r ∷ [])) xs
more_accounts ws r [] = refl
more_accounts ws r (x ∷ xs) =
    ap (λ (y : List RecordView). y ∷ map (λ rs. rs ++ r ∷ []) (map (λ rs. rs ++ ws) xs)) (one_behind x ws r) ∙ ap (λ (ys : List (List RecordView)). (x ++ (ws ++ r ∷ [])) ∷ ys) (more_accounts ws r xs)

-- A turn more was run behind those that wrote these.
writes_more : (worker turns : ℕ) (before last : TaskId) (mid jobs' : List JobFacts) (old r s new : TakenView) → WritesAll turns before old r → RunsTurn worker last mid jobs' r s → HasStayed s new → WritesAll (suc turns) last old new
writes_more worker turns before last mid jobs' old r s new early turn after =
    let one = writes_one worker last mid jobs' r s turn in
    let ws = early.written in
    let w = one.written in
    record {
      written = ws ++ w ∷ [];
      as_many = length_more ws w ∙ ap suc early.as_many;
      journal = ap (λ (x : ExecStateView). x.journal) after.jobs ∙ one.journal ∙ ap (λ (j : List RecordView). journal_with j w) early.journal ∙ sym (journal_more ws w old.state.journal);
      account = after.records ∙ one.account ∙ ap (map (λ rs. rs ++ w ∷ [])) early.account ∙ more_accounts ws w (records_in old.seat.knows);
      last_is = λ some. (ws, w, refl, one.of_task);
    }

pub writes_all : TurnsWriteAll
writes_all worker zero last jobs jobs' old new ran = record {
  written = [];
  as_many = refl;
  journal = ap (λ (x : ExecStateView). x.journal) ran.0.jobs;
  account = ran.0.records ∙ same_accounts (records_in old.seat.knows);
  last_is = λ some. absurd (omega (arith, some));
}
writes_all worker (suc turns) last jobs jobs' old new ran =
    writes_more worker turns ran.0 last ran.1 jobs' old ran.2 ran.3 new (writes_all worker turns ran.0 jobs ran.1 old ran.2 ran.4) ran.5 ran.6
