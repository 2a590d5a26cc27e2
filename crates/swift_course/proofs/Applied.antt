-- A turn that is applied keeps the rule.
use Rattle.swift_course.proofs.Prelude.{◌≡◌, ◌≢◌, ◌⊎◌, ℕ, ℤ, ◌+◌, ◌≤◌, ◌<◌, ◌==◌, true, List, [], ◌∷◌, ◌++◌, map, set, count_by, if◌then◌else◌, refl, sym, ap, ◌∙◌, subst, arith, inl, inr, All, Option, Some, None, IfSome, is_some, sum_by, append-nil, All-append, All-cons, All-head, All-nil, All-tail, Env, Priority, ScriptView, executor_count, executor_start, root_count, FrameView, EffectView, ExitView, Advanced, HasFirst, advanced, callers_of, Event, Apply, Begun, Origin, tasks_of, life_of, RecordView, IsLawfulRecord, replay, counters, fits_turn, is_begun, is_current, ran, RecordStands, Standing, after_block, at_first, begun_priority, fields_of, folded_in, frames_applied, job_applied, left_as, record_in, records_of, root_in, taken, with_jobs, WaitingTaskView, JobFacts, TurnEnd, effect_events, exit_events, gives, log_after, task, turn_end, IsOrderly, frames_executor, job_executor, HasUnderWay, IsFront, IsGiven, IsIn, IsOwned, IsUnderWay, SaysOrder, is_for, one_if, ways, standing, starts, tickets_in, waits, IsTurn, TurnsMayBeApplied, end_of, knowing_turn, order_applied, with_record, Account, BookFacts, BookKnown, Ticket, TurnOrder, fresh}
use Rattle.swift_course.proofs.Begun.{TurnKeeps, turn_keeps}
use Rattle.swift_course.proofs.Blocks.{after_push, allowed_push, filter_none, filter_some, stand_push}
use Rattle.swift_course.proofs.Lists.{count_append, count_cons, equal, if_some, no_one, one, total_set, unequal}
use Rattle.swift_course.proofs.Order.{applied_has, changed_at, changed_else, front_goes_on, ordered_applied, ordered_before, orders_changed, own_changed}
use Rattle.swift_course.proofs.Seats.{given_fresh, other_counts, others, others_and, rest_counts, seats_after, tickets_stay}
use Rattle.swift_course.proofs.Stages.{stage_of}
use Rattle.swift_course.proofs.Starts.{start_fields}
use Rattle.swift_course.proofs.Turns.{TurnLeaves, turn_leaves}
use Rattle.swift_course.proofs.Waking.{count_fresh, jobs_stay, jobs_there, times}

-- where the turn of a job leads, as a record has it
abbrev pub after_turn : BookFacts → Standing → JobFacts → RecordView → Standing
after_turn facts s j r = record { log = (end_of facts j r).log; held = (end_of facts j r).held; jobs = with_jobs (end_of facts j r).jobs (taken j.task s.jobs) }

first_is : (fs : List FrameView) (p : FrameView) → HasFirst fs (λ q. q ≡ p) → fs ≡ p ∷ callers_of fs
first_is [] p has = absurd has
first_is (q ∷ fs) p has = ap (λ x. x ∷ fs) has

-- The block of such a record leads there.
block_leads : (facts : BookFacts) (s : Standing) (a : Account) (k : Ticket) (r : RecordView) → facts.log ≡ s.log → facts.held ≡ s.held → IsGiven s k → IsTurn facts a k r
    → after_block facts.script s (ran a.executor r) ≡ after_turn facts s k.job r
block_leads facts s a k r log held given turn =
    let script = facts.script in
    let j = k.job in
    let callers = callers_of j.frames.frames in
    let led : ℕ → ℕ → Standing = (λ t n. frames_applied script s t n (r.frame ∷ callers) j.frames.outer r.effects r.exit r.after) in
    let ends : List Event → List (Option WaitingTaskView) → Standing =
    (λ l h. let e = turn_end script l h j.task j.number (begun_priority (life_of j.task l).stage) r.effects r.exit (advanced script (left_as r.frame r.effects r.after) callers j.frames.outer r.exit) in
    record { log = e.log; held = e.held; jobs = with_jobs e.jobs (taken j.task s.jobs) })
    in
    ap (λ (o : Option JobFacts). job_applied script s r.task r.number o r.effects r.exit r.after) (ap s.jobs turn.task_is ∙ given.job)
    ∙ ap (λ (fs : List FrameView). frames_applied script s r.task r.number fs j.frames.outer r.effects r.exit r.after) (first_is j.frames.frames r.frame turn.runs)
    ∙ ap (λ t. led t r.number) turn.task_is ∙ ap (led j.task) turn.number_is
    ∙ ap (λ l. ends l s.held) (sym log) ∙ ap (ends facts.log) (sym held)

-- The record may stand there.
record_stands : (facts : BookFacts) (s : Standing) (fields : List (List ℤ)) (a : Account) (k : Ticket) (r : RecordView) → facts.log ≡ s.log → IsGiven s k → IsTurn facts a k r
    → IsLawfulRecord facts.script fields r → RecordStands facts.script s fields a.executor r
record_stands facts s fields a k r log given turn lawful =
    let script = facts.script in
    let j = k.job in
    let has_begun : (life_of j.task s.log).stage ≡ Some (Begun r.env) = subst (λ (o : Option Env). IfSome o (λ env. (life_of j.task s.log).stage ≡ Some (Begun env))) turn.begun given.begun in
    let fits : fits_turn script j.task facts.log (counters j.task facts.log r.env.room) r.effects r.exit ≡ true = turn.fits r.env (ap (stage_of j.task) log ∙ has_begun) in
    record {
      job = j;
      stands = record {
        given = ap s.jobs turn.task_is ∙ given.job;
        number = sym turn.number_is;
        current = subst (λ (l : List Event). is_current (life_of r.task l) r.number j.resume ≡ true) log
            (subst (λ (t : ℕ). is_current (life_of t facts.log) r.number j.resume ≡ true) (sym turn.task_is)
            (subst (λ (n : ℕ). is_current (life_of j.task facts.log) n j.resume ≡ true) (sym turn.number_is) turn.current));
        has_begun = ap (λ (t : ℕ). (life_of t s.log).stage) turn.task_is ∙ has_begun;
        fits = subst (λ (l : List Event). fits_turn script r.task l (counters r.task l r.env.room) r.effects r.exit ≡ true) log
            (subst (λ (t : ℕ). fits_turn script t facts.log (counters t facts.log r.env.room) r.effects r.exit ≡ true) (sym turn.task_is) fits);
        runs = (callers_of j.frames.frames, first_is j.frames.frames r.frame turn.runs);
        on = turn.on;
      };
      resume = turn.resume_is;
      outer = turn.outer_is;
      lawful = lawful;
    }

own_record : (e : ℕ) (r : RecordView) → record_in e (ran e r) ≡ Some r
own_record e r = ap (λ b. if b then Some r else None) (equal e e refl)

pub other_record : (e k : ℕ) (r : RecordView) → k ≢ e → record_in e (ran k r) ≡ None
other_record e k r apart = ap (λ b. if b then Some r else None) (unequal k e apart)

-- A turn is applied: in how many ways each task can go on, without its ticket, before and after.
record Counts (taken : BookFacts) (views views' : List BookKnown) (o : ℕ → ℕ) (j : JobFacts) (e : TurnEnd) : Type 0 where
  leaves : TurnLeaves (root_count taken.script) taken.log taken.held j.task e
  single : (x : ℕ) → ways x taken views ≤ 1
  unmade : (x : ℕ) → tasks_of (root_count taken.script) taken.log ≤ x → ways x taken views ≡ 0
  before : (x : ℕ) → o x + one_if (x == j.task) ≡ sum_by (tickets_in x) views
  after : (x : ℕ) → sum_by (tickets_in x) views' + one_if (x == j.task) ≡ sum_by (tickets_in x) views + times x e.jobs

module _ (facts : BookFacts) (views views' : List BookKnown) (o : ℕ → ℕ) (j : JobFacts) (e : TurnEnd) (c : Counts facts views views' o j e) where
  abbrev roots : ℕ
  roots = root_count facts.script

  lt_or : (x y : ℕ) → (x < y) ⊎ (y ≤ x)
  lt_or x y = grind arith

  still_single : (x : ℕ) → sum_by (tickets_in x) views' + waits x e.held ≤ 1
  still_single x = elim (lt_or x (tasks_of roots facts.log)) [
    | inl lt ↦ (let s = c.single x in let a = c.after x in let old = c.leaves.old x lt in omega (arith, s, a, old))
    | inr le ↦ (let none = c.unmade x le in let a = c.after x in let new = c.leaves.new x in omega (arith, none, a, new))
  ]

  still_none : (x : ℕ) → ways x facts views ≡ 0 → (x < tasks_of roots facts.log) ⊎ (tasks_of roots e.log ≤ x) → sum_by (tickets_in x) views' + waits x e.held ≡ 0
  still_none x none (inl lt) = (let a = c.after x in let old = c.leaves.old x lt in omega (arith, none, a, old))
  still_none x none (inr le) = (let a = c.after x in let beyond = c.leaves.beyond x le in omega (arith, none, a, beyond))

  -- no job is made of a task that has a ticket elsewhere
  other_task : (x : ℕ) → 1 ≤ o x → j.task ≢ x
  other_task x some_one same = (let yes = one x j.task (sym same) in let b = c.before x in let s = c.single x in omega (arith, some_one, yes, b, s))

  made_before : (x : ℕ) → 1 ≤ o x → x < tasks_of roots facts.log
  made_before x some_one = elim (lt_or x (tasks_of roots facts.log)) [
    | inl lt ↦ lt
    | inr le ↦ (let none = c.unmade x le in let b = c.before x in omega (arith, some_one, none, b))
  ]

  no_job : (x : ℕ) → 1 ≤ o x → times x e.jobs ≡ 0
  no_job x some_one =
      let not_one = no_one x j.task (λ same. other_task x some_one (sym same)) in
      omega (arith, some_one, not_one, c.leaves.old x (made_before x some_one), c.before x, c.single x)

  -- and of no task two
  few_jobs : (x : ℕ) → times x e.jobs ≤ 1
  few_jobs x = (let s = still_single x in let a = c.after x in let b = c.before x in omega (arith, s, a, b))

-- a ticket of a task that has one elsewhere stays what it is
stays : (facts : BookFacts) (views views' : List BookKnown) (o : ℕ → ℕ) (s : Standing) (j : JobFacts) (r : RecordView) → Counts facts views views' o j (end_of facts j r) → facts.log ≡ s.log
    → (k : Ticket) → 1 ≤ o k.job.task → IsGiven s k → IsGiven (after_turn facts s j r) k
stays facts views views' o s j r c log k some_one is =
    let x = k.job.task in
    let e = end_of facts j r in
    let apart = other_task facts views views' o j e c x some_one in
    let none = no_job facts views views' o j e c x some_one in
    record {
      job = jobs_stay e.jobs (taken j.task s.jobs) x none ∙ ap (λ b. if b then None else s.jobs x) (unequal x j.task (λ same. apart (sym same))) ∙ is.job;
      begun = if_some k.begun _ _ (λ env has. c.leaves.stage x apart (made_before facts views views' o j e c x some_one) none ∙ ap (stage_of x) log ∙ has) is.begun;
    }

-- the jobs that the turn makes have their tickets
given_new : (facts : BookFacts) (views views' : List BookKnown) (o : ℕ → ℕ) (s : Standing) (j : JobFacts) (r : RecordView) → Counts facts views views' o j (end_of facts j r) → All (IsGiven (after_turn facts s j r)) (map fresh (end_of facts j r).jobs)
given_new facts views views' o s j r c = (let e = end_of facts j r in given_fresh (after_turn facts s j r) e.jobs (jobs_there e.jobs (taken j.task s.jobs) (few_jobs facts views views' o j e c)))

-- the turn was under way on its executor
under_way_is : (facts : BookFacts) (s : Standing) (a : Account) (k : Ticket) (r : RecordView) → IsGiven s k → IsTurn facts a k r → IsUnderWay facts.script s a.executor k.job.task
under_way_is facts s a k r given turn = (
  ap (job_executor facts.script) given.job ∙ ap (frames_executor facts.script) (first_is k.job.frames.frames r.frame turn.runs) ∙ ap (λ (e : ℕ). Some e) turn.on,
  ap is_begun (subst (λ (o : Option Env). IfSome o (λ env. (life_of k.job.task s.log).stage ≡ Some (Begun env))) turn.begun given.begun),
)

-- what a turn leaves goes on from the log that it has found
effects_go_on : (es : List EffectView) (n t : ℕ) (own : Priority) (log : List Event) → IsFront log (log_after n t own log es)
effects_go_on [] n t own log = ([], sym (append-nil log))
effects_go_on (e ∷ es) n t own log =
    let events = effect_events n t own log e in
    front_goes_on log (log ++ events) (log_after n t own (log ++ events) es) (events, refl) (effects_go_on es n t own (log ++ events))

turn_goes_on : (script : ScriptView) (log : List Event) (held : List (Option WaitingTaskView)) (t n : ℕ) (own : Priority) (effects : List EffectView) (exit : ExitView) (after : Advanced)
    → IsFront log (turn_end script log held t n own effects exit after).log
turn_goes_on script log held t n own effects exit after =
    let e = turn_end script log held t n own effects exit after in
    let start = log ++ Apply (task t) n ∷ [] in
    let done = log_after (root_count script) t own start effects in
    let events = exit_events t done exit after.step in
    front_goes_on log start e.log (Apply (task t) n ∷ [], refl)
    (front_goes_on start done e.log (effects_go_on effects (root_count script) t own start)
    (front_goes_on done (done ++ events) e.log (events, refl) (gives e.jobs, refl)))

pub turn_applied_is : TurnsMayBeApplied
turn_applied_is v taken a k rest r one_account is turn views seat c at =
    let script = taken.script in
    let bs = c.blocks in
    let s = standing script bs in
    let j = k.job in
    let e = end_of taken j r in
    let x = a.executor in
    let b = ran x r in
    let bs' = bs ++ b ∷ [] in
    let w = knowing_turn taken a k rest r v in
    let views' = set views seat w in
    let right = c.seats seat v at in
    let tickets : All (IsGiven s) (k ∷ rest) = subst (All (IsGiven s)) is right.tickets in
    let own : IsGiven s k = All-head (IsGiven s) k rest tickets in
    let known : IsIn bs a = All-head (IsIn bs) a [] (subst (All (IsIn bs)) one_account right.accounts) in
    let mine : IsOwned c.owner c.maker.executors seat a = All-head (IsOwned c.owner c.maker.executors seat) a [] (subst (All (IsOwned c.owner c.maker.executors seat)) one_account right.owns) in
    let says : SaysOrder taken.log c.order a = All-head (SaysOrder taken.log c.order) a [] (subst (All (SaysOrder taken.log c.order)) one_account (c.orders seat v at)) in
    let keeps : (y : ℕ) → TurnKeeps (root_count script) j.task y taken.log e = (λ y. turn_keeps script taken.log taken.held j.task j.number y _ r.effects r.exit _) in
    let on : IsFront taken.log e.log = turn_goes_on script taken.log taken.held j.task j.number _ r.effects r.exit _ in
    let order : ℕ → TurnOrder = changed_at x order_applied c.order in
    let within : x < executor_count script = (let lt = mine.1 in let few = c.few in omega (arith, lt, few)) in
    let push : standing script bs' ≡ after_turn taken s j r = after_push script (at_first script) bs b ∙ block_leads taken s a k r c.log_is c.held_is own turn in
    let lawful : IsLawfulRecord script (fields_of script (starts script) x bs) r =
    subst (λ (fs : List (List ℤ)). IsLawfulRecord script (replay script fs (records_of x bs)) r) (sym (start_fields script x within))
    (subst (λ (rs : List RecordView). IsLawfulRecord script (replay script (executor_start script x) rs) r) known turn.lawful)
    in
    let o = others views seat v rest in
    let counts : Counts taken views views' o j e =
    record {
      leaves = turn_leaves script taken.log taken.held j.task j.number _ r.effects r.exit _;
      single = c.single;
      unmade = c.unmade;
      before = λ y. others_and views seat v k rest y at is;
      after = λ y.
          (let t = total_set (tickets_in y) views seat v w at in
          let was : tickets_in y v ≡ one_if (y == j.task) + count_by (is_for y) rest = ap (count_by (is_for y)) is ∙ count_cons y k rest in
          let now = count_append y (map fresh e.jobs) rest in
          let jobs = count_fresh y e.jobs in
          omega (arith, t, was, now, jobs));
    }
    in
    let stay : (ks : List Ticket) → ((y : ℕ) → count_by (is_for y) ks ≤ o y) → All (IsGiven s) ks → All (IsGiven (standing script bs')) ks =
    (λ ks le all. subst (λ (z : Standing). All (IsGiven z) ks) (sym push) (tickets_stay s (after_turn taken s j r) o (stays taken views views' o s j r counts c.log_is) ks le all))
    in
    let new : All (IsGiven (standing script bs')) (map fresh e.jobs) =
    subst (λ (z : Standing). All (IsGiven z) (map fresh e.jobs)) (sym push) (given_new taken views views' o s j r counts)
    in (
      w,
      record {
        blocks = bs';
        stand = stand_push script (starts script) bs b c.stand (record_stands taken s (fields_of script (starts script) x bs) a k r c.log_is own turn lawful);
        none_folded = λ i. filter_none (folded_in i) bs b refl ∙ c.none_folded i;
        log_is = ap (λ (z : Standing). z.log) (sym push);
        held_is = ap (λ (z : Standing). z.held) (sym push);
        maker = c.maker;
        maker_seat = c.maker_seat;
        owner = c.owner;
        few = c.few;
        none_else = λ i le. filter_none (record_in i) bs b (other_record i x r (λ same. (let lt = mine.1 in omega (arith, same, lt, le)))) ∙ c.none_else i le;
        roots = filter_none root_in bs b refl ∙ c.roots;
        there = λ i lt. ap (λ (o : Option Origin). is_some o) ((keeps i).origin lt) ∙ c.there i lt;
        order = order;
        under_way = λ i. subst (λ (z : Standing). HasUnderWay script z i (order i)) (sym push)
            (applied_has script taken.log s j.task x e c.order c.log_is keeps (under_way_is taken s a k r own turn) c.under_way i);
        unopened = λ i le. changed_else x order_applied c.order i (λ same. (let lt = mine.1 in omega (arith, same, lt, le))) ∙ c.unopened i le;
        orders = orders_changed taken.log e.log x order_applied c.order c.owner c.maker.executors views seat w c.orders (λ i u at'. (c.seats i u at').owns) mine.0 on
            (own_changed taken.log e.log order_applied c.order a (with_record r a) says refl refl (front_goes_on a.seen taken.log e.log says.1 on));
        orderly = λ all. allowed_push (IsOrderly script) bs b (c.orderly (ordered_before x order_applied c.order (ordered_applied (c.order x)) all)) tt;
        single = still_single taken views views' o j e counts;
        unadded = λ y le few. still_none taken views views' o j e counts y (c.unadded y le few) (inl (omega (arith, few)));
        unmade = λ y le. still_none taken views views' o j e counts y (c.unmade y (let grows = counts.leaves.grows in omega (arith, le, grows))) (inr le);
        seats = seats_after script bs bs' c.owner c.maker c.maker c.maker_seat views seat w c.seats
            (record {
              script_is = right.script_is;
              accounts = All-cons (IsIn bs') (with_record r a) [] (ap (λ (rs : List RecordView). rs ++ r ∷ []) known ∙ sym (filter_some (record_in x) bs b r (own_record x r))) (All-nil (IsIn bs'));
              owns = All-cons (IsOwned c.owner c.maker.executors seat) (with_record r a) [] mine (All-nil (IsOwned c.owner c.maker.executors seat));
              tickets = All-append (IsGiven (standing script bs')) (map fresh e.jobs) rest new (stay rest (λ y. rest_counts views seat v rest y at) (All-tail (IsGiven s) k rest tickets));
              maker_is = right.maker_is;
            })
            refl (λ apart. refl)
            (λ other apart here. here ∙ sym (filter_none (record_in other.executor) bs b (other_record other.executor x r (λ same. apart (ap c.owner (sym same) ∙ mine.0)))))
            (λ i u apart there. stay u.tickets (λ y. other_counts views seat v rest i u y apart there) (c.seats i u there).tickets);
      },
      refl,
    )
