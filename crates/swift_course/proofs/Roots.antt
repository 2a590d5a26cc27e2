-- A root that is added keeps the rule.
use Rattle.swift_course.proofs.Prelude.{◌≡◌, ◌≢◌, ℕ, ◌+◌, ◌≤◌, ◌<◌, ◌==◌, true, List, [], ◌∷◌, ◌++◌, set, count_by, if◌then◌else◌, refl, sym, ap, ◌∙◌, subst, arith, inl, inr, All, Option, Some, None, IfSome, nat_lt, sum_by, cases_eq, nat_tests, All-append, some, get_elem?, ScriptView, root_count, Event, tasks_of, life_of, added, Standing, after_block, at_first, folded_in, record_in, root_in, root_events, root_job, IsOrderly, HasUnderWay, IsCourse, IsGiven, IsIn, SaysOrder, is_for, one_if, ways, standing, starts, tickets_in, RootsMayBeAdded, knowing_root, with_root, Account, BookFacts, Maker, BookKnown, Ticket, fresh}
use Rattle.swift_course.proofs.Blocks.{after_push, allowed_push, filter_none, filter_some, range_next, stand_push}
use Rattle.swift_course.proofs.Lists.{all_each, count_append, count_cons, equal, if_some, no_one, one, total_most, total_set, unequal}
use Rattle.swift_course.proofs.Order.{orders_go_on, orders_kept, root_has, root_orderly, root_there}
use Rattle.swift_course.proofs.Seats.{given_fresh, seats_after, tickets_stay}
use Rattle.swift_course.proofs.Stages.{AreSilent, stage_stays, tasks_stay}

below : (r n : ℕ) → nat_lt r n ≡ true → r < n
below r n is = grind (arith, nat_tests)

-- where the root's block leads
abbrev after_root : ScriptView → Standing → ℕ → Standing
after_root script s r = after_block script s (added r)

root_silent : (script : ScriptView) (r x : ℕ) → r ≢ x → AreSilent x (root_events script r)
root_silent script r x apart = (inl apart, (inl apart, tt))

-- a ticket of another task stays what it is
stays : (script : ScriptView) (s : Standing) (r : ℕ) (k : Ticket) → k.job.task ≢ r → IsGiven s k → IsGiven (after_root script s r) k
stays script s r k apart is = record {
  job = ap (λ b. if b then Some (root_job script r) else s.jobs k.job.task) (unequal k.job.task r apart) ∙ is.job;
  begun = if_some k.begun _ _ (λ env has. stage_stays (root_events script r) k.job.task s.log (root_silent script r k.job.task (λ same. apart (sym same))) ∙ has) is.begun;
}

-- the root has its job
given : (script : ScriptView) (s : Standing) (r : ℕ) → All (IsGiven (after_root script s r)) (fresh (root_job script r) ∷ [])
given script s r = given_fresh (after_root script s r) (root_job script r ∷ []) (ap (λ b. if b then Some (root_job script r) else s.jobs r) (equal r r refl), tt)

-- the rule's own maker adds the root
add_next : (v : BookKnown) (taken : BookFacts) (views : List BookKnown) (seat : ℕ) (c : IsCourse taken views) → get_elem? views seat ≡ some v → v.maker ≡ Some c.maker → c.maker_seat ≡ seat
    → nat_lt c.maker.roots (root_count taken.script) ≡ true → (life_of c.maker.roots taken.log).origin ≡ None
    → IsCourse (with_root taken c.maker.roots) (set views seat (knowing_root taken.script c.maker v))
add_next v taken views seat c at makes maker_seat lt unborn =
    let script = taken.script in
    let bs = c.blocks in
    let s = standing script bs in
    let r = c.maker.roots in
    let b = added r in
    let bs' = bs ++ b ∷ [] in
    let w = knowing_root script c.maker v in
    let push : standing script bs' ≡ after_root script s r = after_push script (at_first script) bs b in
    let within : r < root_count script = below r (root_count script) lt in
    let right = c.seats seat v at in
    let none_yet : ways r taken views ≡ 0 = c.unadded r (omega arith) within in
    let sum : (x : ℕ) → sum_by (tickets_in x) (set views seat w) ≡ sum_by (tickets_in x) views + one_if (x == r) =
    (λ x. let t = total_set (tickets_in x) views seat v w at in
    omega (arith, t, count_append x v.tickets (fresh (root_job script r) ∷ []), count_cons x (fresh (root_job script r)) []))
    in
    let tasks : tasks_of (root_count script) (taken.log ++ root_events script r) ≡ tasks_of (root_count script) taken.log = tasks_stay (root_events script r) (root_count script) taken.log (refl, (refl, tt)) in
    let stay : (ks : List Ticket) → ((x : ℕ) → count_by (is_for x) ks ≤ sum_by (tickets_in x) views) → All (IsGiven s) ks → All (IsGiven (standing script bs')) ks =
    (λ ks le all. subst (λ (z : Standing). All (IsGiven z) ks) (sym push)
    (tickets_stay s (after_root script s r) (λ x. sum_by (tickets_in x) views)
    (λ k some_one is. stays script s r k (λ same. (let none = ap (λ x. sum_by (tickets_in x) views) same in omega (arith, some_one, none, none_yet))) is) ks le all))
    in
    record {
      blocks = bs';
      stand = stand_push script (starts script) bs b c.stand (lt, subst (λ (l : List Event). (life_of r l).origin ≡ None) c.log_is unborn);
      none_folded = λ e. filter_none (folded_in e) bs b refl ∙ c.none_folded e;
      log_is = ap (λ (l : List Event). l ++ root_events script r) c.log_is ∙ ap (λ (z : Standing). z.log) (sym push);
      held_is = c.held_is ∙ ap (λ (z : Standing). z.held) (sym push);
      maker = record { executors = c.maker.executors; roots = r + 1 };
      maker_seat = c.maker_seat;
      owner = c.owner;
      few = c.few;
      none_else = λ e le. filter_none (record_in e) bs b refl ∙ c.none_else e le;
      there = λ x few. root_there script taken.log r x (c.there x few);
      order = c.order;
      under_way = λ e. subst (λ (z : Standing). HasUnderWay script z e (c.order e)) (sym push) (root_has script s r c.order c.under_way e);
      unopened = c.unopened;
      orders = (let log' = taken.log ++ root_events script r in let on : (accounts : List Account) → All (SaysOrder taken.log c.order) accounts → All (SaysOrder log' c.order) accounts = (λ accounts. orders_go_on taken.log log' c.order accounts (root_events script r, refl)) in
          orders_kept log' c.order views seat w (λ j u at'. on u.accounts (c.orders j u at')) (on v.accounts (c.orders seat v at)));
      orderly = λ all. allowed_push (IsOrderly script) bs b (c.orderly all) (root_orderly script bs r taken.log c.log_is within c.there);
      roots = filter_some root_in bs b r refl ∙ ap (λ (xs : List ℕ). xs ++ r ∷ []) c.roots ∙ range_next r;
      single = λ x. elim (cases_eq x r) [
        | inl same ↦
            (let was : ways x taken views ≡ 0 = ap (λ y. ways y taken views) same ∙ none_yet in
            omega (arith, was, sum x, one x r same))
        | inr apart ↦ (let was = c.single x in let now = sum x in let not_one = no_one x r apart in omega (arith, was, now, not_one))
      ];
      unadded = λ x le few. (let was = c.unadded x (omega (arith, le)) few in let now = sum x in let not_one = no_one x r (λ same. omega (arith, same, le)) in omega (arith, was, now, not_one));
      unmade = λ x le. (let was = c.unmade x (omega (arith, le, tasks)) in let now = sum x in let not_one = no_one x r (λ same. omega (arith, same, le, tasks, within)) in omega (arith, was, now, not_one));
      seats = seats_after script bs bs' c.owner c.maker (record { executors = c.maker.executors; roots = r + 1 }) c.maker_seat views seat w c.seats
          (record {
            script_is = right.script_is;
            accounts = all_each (IsIn bs) (IsIn bs') v.accounts (λ a is. is ∙ sym (filter_none (record_in a.executor) bs b refl)) right.accounts;
            owns = right.owns;
            tickets = All-append (IsGiven (standing script bs')) v.tickets (fresh (root_job script r) ∷ [])
                (stay v.tickets (λ x. total_most (tickets_in x) views seat v at) right.tickets)
                (subst (λ (z : Standing). All (IsGiven z) (fresh (root_job script r) ∷ [])) (sym push) (given script s r));
            maker_is = (refl, maker_seat);
          })
          refl (λ apart. absurd (apart maker_seat)) (λ a other is. is ∙ sym (filter_none (record_in a.executor) bs b refl))
          (λ j u apart there. stay u.tickets (λ x. total_most (tickets_in x) views j u there) (c.seats j u there).tickets);
    }

pub root_added : RootsMayBeAdded
root_added v taken m makes lt unborn views seat c at =
    let known : (m ≡ c.maker) × (c.maker_seat ≡ seat) = subst (λ (o : Option Maker). IfSome o (λ n. (n ≡ c.maker) × (c.maker_seat ≡ seat))) makes (c.seats seat v at).maker_is in
    let same = known.0 in (
      knowing_root taken.script m v,
      subst (λ (n : Maker). IsCourse (with_root taken n.roots) (set views seat (knowing_root taken.script n v))) (sym same)
          (add_next v taken views seat c at (makes ∙ ap (λ (n : Maker). Some n) same) known.1 (subst (λ (n : Maker). nat_lt n.roots (root_count taken.script) ≡ true) same lt) (subst (λ (n : Maker). (life_of n.roots taken.log).origin ≡ None) same unborn)),
      refl,
    )
