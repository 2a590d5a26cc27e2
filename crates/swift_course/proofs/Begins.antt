-- A turn that begins keeps the rule.
use Rattle.swift_course.proofs.Prelude.{◌≡◌, ◌≢◌, ℕ, ◌+◌, ◌≤◌, ◌==◌, true, List, [], ◌∷◌, ◌++◌, map, set, count_by, refl, sym, ap, ◌∙◌, subst, arith, inl, All, Option, Some, is_some, sum_by, All-cons, All-head, All-nil, All-tail, Env, ScriptView, root_count, Event, Begin, Origin, tasks_of, life_of, IsEnv, is_current, begun, Standing, after_block, at_first, folded_in, record_in, root_in, IsOrderly, has_last_root, job_executor, JobFacts, task, HasUnderWay, IsGiven, IsIn, IsOrdered, IsOwned, SaysOrder, is_for, one_if, standing, starts, tickets_in, TurnsMayBegin, knowing_begin, order_begun, with_turn_begun, Account, Ticket, TurnOrder, at_rest}
use Rattle.swift_course.proofs.Begun.{origin_push}
use Rattle.swift_course.proofs.Blocks.{after_push, allowed_push, filter_none, stand_push}
use Rattle.swift_course.proofs.Order.{begin_has, begin_orderly, changed_at, changed_else, changed_there, ordered_before, ordered_begun, orders_changed, own_changed}
use Rattle.swift_course.proofs.Lists.{count_cons, if_some, one, total_set}
use Rattle.swift_course.proofs.Seats.{other_counts, others, others_and, rest_counts, seats_after, tickets_stay}
use Rattle.swift_course.proofs.Stages.{begin_stage, stage_stays, tasks_stay}

abbrev after_begin : ScriptView → Standing → JobFacts → Env → Standing
after_begin script s j env = after_block script s (begun j.task j.number env)

-- a ticket of another task stays what it is
stays : (script : ScriptView) (s : Standing) (j : JobFacts) (env : Env) (k : Ticket) → j.task ≢ k.job.task → IsGiven s k → IsGiven (after_begin script s j env) k
stays script s j env k apart is = record {
  job = is.job;
  begun = if_some k.begun _ _ (λ e has. stage_stays (Begin (task j.task) j.number env ∷ []) k.job.task s.log (inl apart, tt) ∙ has) is.begun;
}

ordered_is : {o : TurnOrder} → o ≡ at_rest → IsOrdered o
ordered_is is = subst IsOrdered (sym is) tt

pub turn_begun : TurnsMayBegin
turn_begun v taken a k rest env one_account is on current env_is views seat c at =
    let script = taken.script in
    let bs = c.blocks in
    let s = standing script bs in
    let j = k.job in
    let b = begun j.task j.number env in
    let bs' = bs ++ b ∷ [] in
    let there = has_last_root script taken.log in
    let x = a.executor in
    let w = knowing_begin taken.log there k rest env v in
    let begins = order_begun there in
    let order : ℕ → TurnOrder = changed_at x begins c.order in
    let k' : Ticket = record { job = j; begun = Some env } in
    let push : standing script bs' ≡ after_begin script s j env = after_push script (at_first script) bs b in
    let right = c.seats seat v at in
    let mine : All (IsGiven s) (k ∷ rest) = subst (All (IsGiven s)) is right.tickets in
    let own : IsGiven s k = All-head (IsGiven s) k rest mine in
    let mine_too : IsOwned c.owner c.maker.executors seat a = All-head (IsOwned c.owner c.maker.executors seat) a [] (subst (All (IsOwned c.owner c.maker.executors seat)) one_account right.owns) in
    let known : IsIn bs a = All-head (IsIn bs) a [] (subst (All (IsIn bs)) one_account right.accounts) in
    let says : SaysOrder taken.log c.order a = All-head (SaysOrder taken.log c.order) a [] (subst (All (SaysOrder taken.log c.order)) one_account (c.orders seat v at)) in
    let on_own : job_executor script (s.jobs j.task) ≡ Some x = ap (job_executor script) own.job ∙ on in
    let both : ((e : ℕ) → IsOrdered (order e)) → (there ≡ true) × (c.order x ≡ at_rest) = (λ all. ordered_begun there (c.order x) (subst IsOrdered (changed_there x begins c.order x refl) (all x))) in
    let sum : (x : ℕ) → sum_by (tickets_in x) (set views seat w) ≡ sum_by (tickets_in x) views =
    (λ x. let t = total_set (tickets_in x) views seat v w at in
    let was : tickets_in x v ≡ one_if (x == j.task) + count_by (is_for x) rest = ap (count_by (is_for x)) is ∙ count_cons x k rest in
    let now = count_cons x k' rest in
    omega (arith, t, was, now))
    in
    let tasks : tasks_of (root_count script) (taken.log ++ Begin (task j.task) j.number env ∷ []) ≡ tasks_of (root_count script) taken.log = tasks_stay (Begin (task j.task) j.number env ∷ []) (root_count script) taken.log (refl, tt) in
    let stay : (ks : List Ticket) → ((x : ℕ) → count_by (is_for x) ks ≤ others views seat v rest x) → All (IsGiven s) ks → All (IsGiven (standing script bs')) ks =
    (λ ks le all. subst (λ (z : Standing). All (IsGiven z) ks) (sym push)
    (tickets_stay s (after_begin script s j env) (others views seat v rest)
    (λ l some_one given. stays script s j env l
    (λ same. (let yes = one l.job.task j.task (sym same) in
    let both = others_and views seat v k rest l.job.task at is in
    let single = c.single l.job.task in
    omega (arith, some_one, yes, both, single))) given) ks le all))
    in (
      w,
      record {
        blocks = bs';
        stand = stand_push script (starts script) bs b c.stand
            (j, own.job, subst (λ (l : List Event). is_current (life_of j.task l) j.number j.resume ≡ true) c.log_is current, subst (λ (l : List Event). IsEnv (root_count script) (task j.task) l env) c.log_is env_is);
        none_folded = λ e. filter_none (folded_in e) bs b refl ∙ c.none_folded e;
        log_is = ap (λ (l : List Event). l ++ Begin (task j.task) j.number env ∷ []) c.log_is ∙ ap (λ (z : Standing). z.log) (sym push);
        held_is = c.held_is ∙ ap (λ (z : Standing). z.held) (sym push);
        maker = c.maker;
        maker_seat = c.maker_seat;
        owner = c.owner;
        few = c.few;
        none_else = λ e le. filter_none (record_in e) bs b refl ∙ c.none_else e le;
        roots = filter_none root_in bs b refl ∙ c.roots;
        there = λ r lt. ap (λ (o : Option Origin). is_some o) (origin_push (root_count script) r taken.log (Begin (task j.task) j.number env) (inl refl) lt) ∙ c.there r lt;
        order = order;
        under_way = λ e. subst (λ (z : Standing). HasUnderWay script z e (order e)) (sym push) (begin_has script s j.task j.number x env there c.order on_own c.under_way e);
        unopened = λ e le. changed_else x begins c.order e (λ same. (let lt = mine_too.1 in omega (arith, same, lt, le))) ∙ c.unopened e le;
        orders = orders_changed taken.log (taken.log ++ Begin (task j.task) j.number env ∷ []) x begins c.order c.owner c.maker.executors views seat w c.orders (λ i u at'. (c.seats i u at').owns) mine_too.0 (Begin (task j.task) j.number env ∷ [], refl)
            (subst (λ (xs : List Account). All (SaysOrder (taken.log ++ Begin (task j.task) j.number env ∷ []) order) (map (with_turn_begun taken.log there) xs)) (sym one_account) (own_changed taken.log (taken.log ++ Begin (task j.task) j.number env ∷ []) begins c.order a (with_turn_begun taken.log there a) says refl refl (Begin (task j.task) j.number env ∷ [], refl)));
        orderly = λ all. allowed_push (IsOrderly script) bs b (c.orderly (ordered_before x begins c.order (λ is'. ordered_is (both all).1) all))
            (begin_orderly script bs j.task j.number x c.maker.roots env taken.log c.log_is c.there (both all).0 on_own (subst (HasUnderWay script s x) (both all).1 (c.under_way x)));
        single = λ x. (let was = c.single x in let now = sum x in omega (arith, was, now));
        unadded = λ x le few. (let was = c.unadded x le few in let now = sum x in omega (arith, was, now));
        unmade = λ x le. (let was = c.unmade x (omega (arith, le, tasks)) in let now = sum x in omega (arith, was, now));
        seats = seats_after script bs bs' c.owner c.maker c.maker c.maker_seat views seat w c.seats
            (record {
              script_is = right.script_is;
              accounts = subst (λ (xs : List Account). All (IsIn bs') (map (with_turn_begun taken.log there) xs)) (sym one_account)
                  (All-cons (IsIn bs') (with_turn_begun taken.log there a) [] (known ∙ sym (filter_none (record_in x) bs b refl)) (All-nil (IsIn bs')));
              owns = subst (λ (xs : List Account). All (IsOwned c.owner c.maker.executors seat) (map (with_turn_begun taken.log there) xs)) (sym one_account)
                  (All-cons (IsOwned c.owner c.maker.executors seat) (with_turn_begun taken.log there a) [] mine_too (All-nil (IsOwned c.owner c.maker.executors seat)));
              tickets = All-cons (IsGiven (standing script bs')) k' rest
                  (subst (λ (z : Standing). IsGiven z k') (sym push) (record { job = own.job; begun = begin_stage s.log (task j.task) j.number env }))
                  (stay rest (λ x. rest_counts views seat v rest x at) (All-tail (IsGiven s) k rest mine));
              maker_is = right.maker_is;
            })
            refl (λ apart. refl) (λ a other here. here ∙ sym (filter_none (record_in a.executor) bs b refl))
            (λ i u apart there. stay u.tickets (λ x. other_counts views seat v rest i u x apart there) (c.seats i u there).tickets);
      },
      refl,
    )
