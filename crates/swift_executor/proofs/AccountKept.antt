-- What each call keeps of the account of an executor.
use Rattle.swift_executor.proofs.Prelude.{◌≡◌, ℕ, suc, ◌==◌, ℤ, Bool, true, false, if◌then◌else◌, Option, Some, None, List, [], ◌∷◌, ◌++◌, length, map, refl, ap, sym, subst, ◌∙◌, inl, inr, append_assoc, map-append, IsPermutation-append, IsPermutation-append_comm, IsPermutation-append_left, IsPermutation-append_right, IsPermutation-cons, IsPermutation-map, IsPermutation-middle, IsPermutation-refl, IsPermutation-sym, IsPermutation-to_front, IsPermutation-trans, IsPermutation, TaskId, FOLD, BodyView, JobView, CheckpointView, folded_of, folds, RecordView, Event, JobFacts, BookView, job_facts, AreTaken, HasTaken, SeenJob, chosen_jobs, folded_named, job_named, job_seen, ready_jobs, record_seen, Adds, Forwards, ReadyJobsView, ReadyJob, ready_job, BeginsChosen, Chooses, ChoosesAhead, ChosenView, ExecStateView, HasChosen, HasNone, Journals, LacksTask, Plays, PutsBack, ChosenStageView, played, before_turn, record_by}
use Rattle.std.proofs.lemmas.List.{append-nil}

module _ {X : Type 0} where
  -- one more was taken, and is ready
  one_more : (ts r r' rest : List X) (e : X) → IsPermutation ts (r ++ rest) → IsPermutation (e ∷ r) r' → IsPermutation (ts ++ e ∷ []) (r' ++ rest)
  one_more ts r r' rest e was more =
      IsPermutation-trans (ts ++ e ∷ []) (e ∷ ts) (r' ++ rest) (IsPermutation-to_front ts e)
      (IsPermutation-trans (e ∷ ts) (e ∷ (r ++ rest)) (r' ++ rest) (IsPermutation-cons e ts (r ++ rest) was) (IsPermutation-append_left rest (e ∷ r) r' more))

  -- one that was ready is chosen
  one_out : (ts r r' rest : List X) (e : X) → IsPermutation ts (r ++ rest) → IsPermutation r (e ∷ r') → IsPermutation ts (r' ++ e ∷ rest)
  one_out ts r r' rest e was out =
      IsPermutation-trans ts (r ++ rest) (r' ++ e ∷ rest) was
      (IsPermutation-trans (r ++ rest) (e ∷ (r' ++ rest)) (r' ++ e ∷ rest) (IsPermutation-append_left rest r (e ∷ r') out) (IsPermutation-sym (r' ++ e ∷ rest) (e ∷ (r' ++ rest)) (IsPermutation-middle r' e rest)))

  -- the chosen one is ready again
  one_back : (ts r r' rest : List X) (e : X) → IsPermutation ts (r ++ e ∷ rest) → IsPermutation (e ∷ r) r' → IsPermutation ts (r' ++ rest)
  one_back ts r r' rest e was back =
      IsPermutation-trans ts (r ++ e ∷ rest) (r' ++ rest) was
      (IsPermutation-trans (r ++ e ∷ rest) (e ∷ (r ++ rest)) (r' ++ rest) (IsPermutation-middle r e rest) (IsPermutation-append_left rest (e ∷ r) r' back))

  -- both parts are in another order
  both : (ts r r' rest rest' : List X) → IsPermutation ts (r ++ rest) → IsPermutation r r' → IsPermutation rest rest' → IsPermutation ts (r' ++ rest')
  both ts r r' rest rest' was one two = IsPermutation-trans ts (r ++ rest) (r' ++ rest') was (IsPermutation-append r r' rest rest' one two)

  -- one more at the end of the first part
  at_end : (xs ys : List X) (e : X) → IsPermutation (e ∷ (xs ++ ys)) ((xs ++ e ∷ []) ++ ys)
  at_end xs ys e = IsPermutation-append_left ys (e ∷ xs) (xs ++ e ∷ []) (IsPermutation-sym (xs ++ e ∷ []) (e ∷ xs) (IsPermutation-to_front xs e))

  -- one more at the end of both parts
  at_last : (xs ys : List X) (e : X) → IsPermutation (e ∷ (xs ++ ys)) (xs ++ (ys ++ e ∷ []))
  at_last xs ys e = subst (IsPermutation (e ∷ (xs ++ ys))) (append_assoc xs ys (e ∷ [])) (IsPermutation-sym ((xs ++ ys) ++ e ∷ []) (e ∷ (xs ++ ys)) (IsPermutation-to_front (xs ++ ys) e))

  -- the parts change places, and there is one more
  at_turn : (xs ys : List X) (e : X) → IsPermutation (e ∷ (xs ++ ys)) (ys ++ (xs ++ e ∷ []))
  at_turn xs ys e =
      IsPermutation-trans (e ∷ (xs ++ ys)) ((xs ++ e ∷ []) ++ ys) (ys ++ (xs ++ e ∷ [])) (at_end xs ys e) (IsPermutation-append_comm (xs ++ e ∷ []) ys)

-- a job in front
abbrev pub front_job : ReadyJob BodyView → JobFacts
front_job x = job_facts x.job

-- one job more in front
pub front_more : (r new : ReadyJobsView BodyView) (x : ReadyJob BodyView) → IsPermutation (x ∷ r.front) new.front → new.behind ≡ r.behind → IsPermutation (front_job x ∷ ready_jobs r) (ready_jobs new)
front_more r new x perm same =
    subst (λ (js : List (JobView BodyView)). IsPermutation (front_job x ∷ ready_jobs r) (map front_job new.front ++ map job_facts js)) (sym same)
    (IsPermutation-append_left (map job_facts r.behind) (map front_job (x ∷ r.front)) (map front_job new.front) (IsPermutation-map front_job (x ∷ r.front) new.front perm))

-- one job less in front
pub front_less : (r new : ReadyJobsView BodyView) (x : ReadyJob BodyView) → IsPermutation r.front (x ∷ new.front) → new.behind ≡ r.behind → IsPermutation (ready_jobs r) (front_job x ∷ ready_jobs new)
front_less r new x perm same =
    subst (λ (js : List (JobView BodyView)). IsPermutation (ready_jobs r) (front_job x ∷ (map front_job new.front ++ map job_facts js))) (sym same)
    (IsPermutation-append_left (map job_facts r.behind) (map front_job r.front) (map front_job (x ∷ new.front)) (IsPermutation-map front_job r.front (x ∷ new.front) perm))

-- those in front in another order
pub front_moved : (r new : ReadyJobsView BodyView) → IsPermutation r.front new.front → new.behind ≡ r.behind → IsPermutation (ready_jobs r) (ready_jobs new)
front_moved r new perm same =
    subst (λ (js : List (JobView BodyView)). IsPermutation (ready_jobs r) (map front_job new.front ++ map job_facts js)) (sym same)
    (IsPermutation-append_left (map job_facts r.behind) (map front_job r.front) (map front_job new.front) (IsPermutation-map front_job r.front new.front perm))

-- a job that is added
pub added : (r : ReadyJobsView BodyView) (job : JobView BodyView) (new : ReadyJobsView BodyView) → Adds r job new → IsPermutation (job_facts job ∷ ready_jobs r) (ready_jobs new)
added r job new (inl h) = front_more r new (ready_job job r.arrived) h.1 (ap (λ (x : ReadyJobsView BodyView). x.behind) h.2)
added r job new (inr h) =
    let at : ready_jobs new ≡ map front_job r.front ++ (map job_facts r.behind ++ job_facts job ∷ []) =
    ap (λ (x : ReadyJobsView BodyView). ready_jobs x) h.1 ∙ ap (λ es. map front_job r.front ++ es) (map-append job_facts r.behind (job ∷ [])) in
    subst (IsPermutation (job_facts job ∷ ready_jobs r)) (sym at) (at_last (map front_job r.front) (map job_facts r.behind) (job_facts job))

-- a job from behind may come to the front
pub forwarded : (r : ReadyJobsView BodyView) (task : TaskId) (new : ReadyJobsView BodyView) → Forwards r task new → IsPermutation (ready_jobs r) (ready_jobs new)
forwarded r task new (inl h) = subst (λ (x : ReadyJobsView BodyView). IsPermutation (ready_jobs r) (ready_jobs x)) (sym h.1) (IsPermutation-refl (ready_jobs r))
forwarded r task new (inr h) =
    let before = h.0 in
    let after = h.1 in
    let job = h.2 in
    let x = ready_job job r.arrived in
    let front = map front_job r.front in
    let behind = map job_facts (before ++ after) in
    let here : IsPermutation (map job_facts r.behind) (job_facts job ∷ behind) =
    subst (λ (js : List (JobView BodyView)). IsPermutation (map job_facts js) (job_facts job ∷ behind)) (sym h.3)
    (IsPermutation-map job_facts (before ++ job ∷ after) (job ∷ (before ++ after)) (IsPermutation-middle before job after)) in
    let out : IsPermutation (ready_jobs r) (front ++ job_facts job ∷ behind) = IsPermutation-append_right front (map job_facts r.behind) (job_facts job ∷ behind) here in
    let there : IsPermutation (job_facts job ∷ front) (map front_job new.front) = IsPermutation-map front_job (x ∷ r.front) new.front h.6 in
    subst (λ (js : List (JobView BodyView)). IsPermutation (ready_jobs r) (map front_job new.front ++ map job_facts js)) (sym (ap (λ (y : ReadyJobsView BodyView). y.behind) h.7))
    (one_back (ready_jobs r) front (map front_job new.front) behind (job_facts job) out there)

-- what is seen of a record, once that is folded
seen_named : SeenJob → ℕ × ℕ
seen_named s = (s.task, s.number)

jobs_named : (js : List JobFacts) → map seen_named (map job_seen js) ≡ map job_named js
unfolding seen_named
jobs_named [] = refl
jobs_named (j ∷ js) = ap (λ es. job_named j ∷ es) (jobs_named js)

records_named : (rs : List RecordView) → map seen_named (map record_seen rs) ≡ map folded_named (map folded_of rs)
unfolding seen_named
records_named [] = refl
records_named (r ∷ rs) = ap (λ es. (r.task, r.number) ∷ es) (records_named rs)

-- jobs of records are known by task and number once these are folded
fold_named : (js : List JobFacts) (rs : List RecordView) → map job_seen js ≡ map record_seen rs → map job_named js ≡ map folded_named (map folded_of rs)
fold_named js rs same = sym (jobs_named js) ∙ ap (map seen_named) same ∙ records_named rs

-- What is said of jobs that were taken, by those that are not run yet.
module _ (taken unrun unrun' : List JobFacts) (journal : List RecordView) (c : CheckpointView) (was : AreTaken taken unrun journal c) where
  -- these in another order
  moved : IsPermutation unrun unrun' → AreTaken taken unrun' journal c
  moved perm = record {
    journalled = was.journalled;
    folded = was.folded;
    all = both taken unrun unrun' (was.journalled ++ was.folded) (was.journalled ++ was.folded) was.all perm (IsPermutation-refl (was.journalled ++ was.folded));
    records = was.records;
    past = was.past;
  }

  -- one more was taken, and is one of these
  took_one : (j : JobFacts) → IsPermutation (j ∷ unrun) unrun' → AreTaken (taken ++ j ∷ []) unrun' journal c
  took_one j more = record {
    journalled = was.journalled;
    folded = was.folded;
    all = one_more taken unrun unrun' (was.journalled ++ was.folded) j was.all more;
    records = was.records;
    past = was.past;
  }

  -- one of these is journalled, and the journal may then be folded
  journals : (j : JobFacts) (r : RecordView) (rows : List (List ℤ)) (b : Bool) → IsPermutation unrun (j ∷ unrun') → job_seen j ≡ record_seen r
      → AreTaken taken unrun' (if b then [] else (journal ++ r ∷ [])) (if b then folds c (journal ++ r ∷ []) rows else c)
  journals j r rows b out same =
      let rest = was.journalled ++ was.folded in
      let less : IsPermutation taken (unrun' ++ j ∷ rest) = one_out taken unrun unrun' rest j was.all out in
      let records : map job_seen (was.journalled ++ j ∷ []) ≡ map record_seen (journal ++ r ∷ []) =
      map-append job_seen was.journalled (j ∷ [])
      ∙ ap (λ es. es ++ job_seen j ∷ []) was.records
      ∙ ap (λ e. map record_seen journal ++ e ∷ []) same
      ∙ sym (map-append record_seen journal (r ∷ [])) in
      by b less records
    where
      by : (b : Bool) → IsPermutation taken (unrun' ++ j ∷ (was.journalled ++ was.folded)) → map job_seen (was.journalled ++ j ∷ []) ≡ map record_seen (journal ++ r ∷ [])
          → AreTaken taken unrun' (if b then [] else (journal ++ r ∷ [])) (if b then folds c (journal ++ r ∷ []) rows else c)
      by true less records = record {
        journalled = [];
        folded = was.folded ++ (was.journalled ++ j ∷ []);
        all = IsPermutation-trans taken (unrun' ++ j ∷ (was.journalled ++ was.folded)) (unrun' ++ (was.folded ++ (was.journalled ++ j ∷ []))) less
            (IsPermutation-append_right unrun' (j ∷ (was.journalled ++ was.folded)) (was.folded ++ (was.journalled ++ j ∷ [])) (at_turn was.journalled was.folded j));
        records = refl;
        past = map-append job_named was.folded (was.journalled ++ j ∷ [])
            ∙ ap (λ es. es ++ map job_named (was.journalled ++ j ∷ [])) was.past
            ∙ ap (λ es. map folded_named c.folded ++ es) (fold_named (was.journalled ++ j ∷ []) (journal ++ r ∷ []) records)
            ∙ sym (map-append folded_named c.folded (map folded_of (journal ++ r ∷ [])));
      }
      by false less records = record {
        journalled = was.journalled ++ j ∷ [];
        folded = was.folded;
        all = IsPermutation-trans taken (unrun' ++ j ∷ (was.journalled ++ was.folded)) (unrun' ++ ((was.journalled ++ j ∷ []) ++ was.folded)) less
            (IsPermutation-append_right unrun' (j ∷ (was.journalled ++ was.folded)) ((was.journalled ++ j ∷ []) ++ was.folded) (at_end was.journalled was.folded j));
        records = records;
        past = was.past;
      }

-- the jobs that are not run yet, where this is the chosen one
abbrev unrun_jobs : ReadyJobsView BodyView → Option ChosenView → List JobFacts
unrun_jobs r o = ready_jobs r ++ chosen_jobs o

taken_with : (taken : List JobFacts) (s : ExecStateView) (o : Option ChosenView) → HasTaken taken s → s.chosen ≡ o → AreTaken taken (unrun_jobs s.ready o) s.journal s.checkpoint
taken_with taken s o was is = subst (λ (p : Option ChosenView). AreTaken taken (unrun_jobs s.ready p) s.journal s.checkpoint) is was

pub accepted : (taken : List JobFacts) (job : JobView BodyView) (old new : ExecStateView) → HasTaken taken old → Adds old.ready job new.ready → new ≡ record old { ready = new.ready } → HasTaken (taken ++ job_facts job ∷ []) new
accepted taken job old new was adds same =
    subst (HasTaken (taken ++ job_facts job ∷ [])) (sym same)
    (took_one taken (unrun_jobs old.ready old.chosen) (unrun_jobs new.ready old.chosen) old.journal old.checkpoint was (job_facts job)
    (IsPermutation-append_left (chosen_jobs old.chosen) (job_facts job ∷ ready_jobs old.ready) (ready_jobs new.ready) (added old.ready job new.ready adds)))

pub chose : (taken : List JobFacts) (log : List Event) (task : TaskId) (old new : ExecStateView) → HasTaken taken old → old.chosen ≡ None → Chooses log old new task → HasTaken taken new
chose taken log task old new was free h =
    let ready = record old.ready { front = new.ready.front; levels = new.ready.levels } in
    let j = job_facts h.job in
    let less = front_less old.ready ready (ready_job h.job h.arrival) h.rest refl in
    subst (HasTaken taken) (sym h.same)
    (moved taken (ready_jobs old.ready ++ []) (ready_jobs ready ++ j ∷ []) old.journal old.checkpoint (taken_with taken old None was free)
    (one_out (ready_jobs old.ready ++ []) (ready_jobs old.ready) (ready_jobs ready) [] j (IsPermutation-refl (ready_jobs old.ready ++ [])) less))

pub chose_ahead : (taken : List JobFacts) (task : TaskId) (old new : ExecStateView) → HasTaken taken old → old.chosen ≡ None → ChoosesAhead old new task → HasTaken taken new
chose_ahead taken task old new was free h =
    let ready = record old.ready { front = new.ready.front } in
    let j = job_facts h.job in
    let less = front_less old.ready ready (ready_job h.job h.arrival) h.rest refl in
    subst (HasTaken taken) (sym h.same)
    (moved taken (ready_jobs old.ready ++ []) (ready_jobs ready ++ j ∷ []) old.journal old.checkpoint (taken_with taken old None was free)
    (one_out (ready_jobs old.ready ++ []) (ready_jobs old.ready) (ready_jobs ready) [] j (IsPermutation-refl (ready_jobs old.ready ++ [])) less))

pub lacked : (taken : List JobFacts) (log : List Event) (old new : ExecStateView) → HasTaken taken old → LacksTask log old new → HasTaken taken new
lacked taken log old new was h =
    let ready = record old.ready { front = new.ready.front; levels = new.ready.levels } in
    subst (HasTaken taken) (sym h.same)
    (moved taken (unrun_jobs old.ready old.chosen) (unrun_jobs ready old.chosen) old.journal old.checkpoint was
    (IsPermutation-append_left (chosen_jobs old.chosen) (ready_jobs old.ready) (ready_jobs ready) (front_moved old.ready ready h.rest refl)))

pub had_none : (taken : List JobFacts) (log : List Event) (old new : ExecStateView) → HasTaken taken old → HasNone log old new → HasTaken taken new
had_none taken log old new was h = subst (HasTaken taken) (sym h.same) was

pub started : (taken : List JobFacts) (book book' : BookView) (worker : ℕ) (old new : ExecStateView) → HasTaken taken old → HasChosen old (BeginsChosen book book' worker old new) → HasTaken taken new
started taken book book' worker old new was (c, is, h) =
    let same : before_turn c.stage c.job ≡ job_facts c.job = ap (λ (st : ChosenStageView). before_turn st c.job) h.was in
    subst (HasTaken taken) (sym h.same)
    (subst (λ j. AreTaken taken (ready_jobs old.ready ++ j ∷ []) old.journal old.checkpoint) same (taken_with taken old (Some c) was is))

pub put_back : (taken : List JobFacts) (old new : ExecStateView) → HasTaken taken old → HasChosen old (PutsBack old new) → HasTaken taken new
put_back taken old new was (c, is, h) =
    let ready = record old.ready { front = new.ready.front } in
    let j = before_turn c.stage c.job in
    let more = subst (λ e. IsPermutation (e ∷ ready_jobs old.ready) (ready_jobs ready)) h.same_job (front_more old.ready ready (ready_job h.job c.arrival) h.front refl) in
    subst (HasTaken taken) (sym h.same)
    (moved taken (ready_jobs old.ready ++ j ∷ []) (ready_jobs ready ++ []) old.journal old.checkpoint (taken_with taken old (Some c) was is)
    (one_back (ready_jobs old.ready ++ j ∷ []) (ready_jobs old.ready) (ready_jobs ready) [] j (IsPermutation-refl (ready_jobs old.ready ++ j ∷ [])) more))

pub was_played : (taken : List JobFacts) (old new : ExecStateView) → HasTaken taken old → HasChosen old (Plays old new) → HasTaken taken new
was_played taken old new was (c, is, h) =
    let same : before_turn c.stage c.job ≡ before_turn (played h.worker h.env h.frame h.fields h.effects h.exit) h.job = ap (λ (st : ChosenStageView). before_turn st c.job) h.was ∙ sym h.same_job in
    subst (HasTaken taken) (sym h.same)
    (subst (λ j. AreTaken taken (ready_jobs old.ready ++ j ∷ []) old.journal old.checkpoint) same (taken_with taken old (Some c) was is))

pub turned : (taken : List JobFacts) (book book' : BookView) (jobs jobs' : List JobFacts) (old new : ExecStateView) → HasTaken taken old → HasChosen old (Journals book book' jobs jobs' old new) → HasTaken taken new
turned taken book book' jobs jobs' old new was (c, is, h) =
    let r = record_by c.job h.worker h.env h.frame h.effects h.exit in
    let j = before_turn c.stage c.job in
    let same : job_seen j ≡ record_seen r = ap (λ (st : ChosenStageView). job_seen (before_turn st c.job)) h.was in
    let out = IsPermutation-trans (ready_jobs old.ready ++ j ∷ []) (j ∷ (ready_jobs old.ready ++ [])) (j ∷ (ready_jobs new.ready ++ [])) (IsPermutation-middle (ready_jobs old.ready) j [])
    (IsPermutation-cons j (ready_jobs old.ready ++ []) (ready_jobs new.ready ++ []) (IsPermutation-append_left [] (ready_jobs old.ready) (ready_jobs new.ready) (forwarded old.ready c.job.task new.ready h.forwards))) in
    subst (HasTaken taken) (sym h.same)
    (journals taken (ready_jobs old.ready ++ j ∷ []) (ready_jobs new.ready ++ []) old.journal old.checkpoint (taken_with taken old (Some c) was is) j r h.fields (suc (length old.journal) == FOLD) out same)

-- the jobs that are ready, as they are given up
front_jobs : (xs : List (ReadyJob BodyView)) → map job_facts (map (λ x. x.job) xs) ≡ map front_job xs
front_jobs [] = refl
front_jobs (x ∷ xs) = ap (λ es. front_job x ∷ es) (front_jobs xs)

pub given_up : (taken : List JobFacts) (s : ExecStateView) (jobs : List (JobView BodyView)) → HasTaken taken s → s.chosen ≡ None → IsPermutation (map (λ x. x.job) s.ready.front ++ s.ready.behind) jobs
    → AreTaken taken (map job_facts jobs) s.journal s.checkpoint
given_up taken s jobs was free perm =
    let ready = map (λ (x : ReadyJob BodyView). x.job) s.ready.front ++ s.ready.behind in
    let at : map job_facts ready ≡ ready_jobs s.ready = map-append job_facts (map (λ (x : ReadyJob BodyView). x.job) s.ready.front) s.ready.behind ∙ ap (λ es. es ++ map job_facts s.ready.behind) (front_jobs s.ready.front) in
    let out = subst (λ es. IsPermutation es (map job_facts jobs)) (at ∙ sym (append-nil (ready_jobs s.ready))) (IsPermutation-map job_facts ready jobs perm) in
    moved taken (ready_jobs s.ready ++ []) (map job_facts jobs) s.journal s.checkpoint (taken_with taken s None was free) out
