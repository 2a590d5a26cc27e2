-- Seats that are parted, put together, or give back what they took keep the rule.
use Rattle.swift_course.proofs.Prelude.{◌≡◌, ◌≢◌, ◌⊎◌, ℕ, zero, suc, ◌+◌, ◌≤◌, ◌<◌, ◌==◌, List, [], ◌∷◌, ◌++◌, length, take, drop, set, count_by, replicate, if◌then◌else◌, refl, sym, ap, ◌∙◌, subst, arith, inl, inr, All, Option, Some, None, IfSome, nat_lt, sum_by, range_with_len, All-append, All-cons, All-drop, All-nil, All-take, sum_by-take-drop, sum_by_push, some, some-injective, some-ne-none, get_elem?, ScriptView, executor_count, root_count, Event, Block, records_of, roots_of, AllAllowed, IsOrderly, IsCourse, IsGiven, IsIn, IsOrdered, IsOwned, SaysOrder, SeatIsRight, is_for, one_if, standing, tickets_in, waits, SeatsLearn, BooksMayStay, Account, BookFacts, Maker, BookKnown, Ticket, TurnOrder, at_rest, no_view}
use Rattle.swift_course.specs.Seats.{AccountsMayBeOpened, RunsBegin, SeatsMayBeGathered, SomeTicketsMayBeParted, TicketsMayBeParted, account_parted, first_view, gathered, maker_left, number_of, one_more, some_left, some_parted}
use Rattle.swift_course.proofs.Lists.{all_each, at_push, at_set, count_append, equal, if_some, set_again, set_else, total_set, unequal}
use Rattle.swift_course.proofs.Order.{first_has, first_there, orders_kept}

-- each task can go on in as many ways as before
pub record SameWays (facts : BookFacts) (views views' : List BookKnown) : Type 0 where
  pub sums : (x : ℕ) → sum_by (tickets_in x) views' ≡ sum_by (tickets_in x) views

-- the rule, with other seats, of the same history
pub course_with : (facts : BookFacts) (views views' : List BookKnown) (c : IsCourse facts views) (maker : Maker) (maker_seat : ℕ) (owner : ℕ → ℕ) → SameWays facts views views' → maker.roots ≡ c.maker.roots → c.maker.executors ≤ maker.executors → maker.executors ≤ executor_count facts.script
    → ((seat : ℕ) (v : BookKnown) → get_elem? views' seat ≡ some v → All (SaysOrder facts.log c.order) v.accounts)
    → ((seat : ℕ) (v : BookKnown) → get_elem? views' seat ≡ some v → SeatIsRight facts.script c.blocks owner maker maker_seat seat v) → IsCourse facts views'
course_with facts views views' c maker maker_seat owner same roots more few orders seats = record {
  blocks = c.blocks;
  stand = c.stand;
  none_folded = c.none_folded;
  log_is = c.log_is;
  held_is = c.held_is;
  maker = maker;
  maker_seat = maker_seat;
  owner = owner;
  few = few;
  none_else = λ e le. c.none_else e (omega (arith, more, le));
  roots = c.roots ∙ ap (range_with_len 0) (sym roots);
  there = λ r lt. c.there r lt ∙ ap (nat_lt r) (sym roots);
  order = c.order;
  under_way = c.under_way;
  unopened = λ e le. c.unopened e (omega (arith, more, le));
  orders = orders;
  orderly = c.orderly;
  single = λ x. (let was = c.single x in let sum = same.sums x in omega (arith, was, sum));
  unadded = λ x le lt. (let was = c.unadded x (omega (arith, roots, le)) lt in let sum = same.sums x in omega (arith, was, sum));
  unmade = λ x le. (let was = c.unmade x le in let sum = same.sums x in omega (arith, was, sum));
  seats = seats;
}

-- a run that has not begun

none_waits : (n x : ℕ) → waits x (replicate n None) ≡ 0
none_waits (suc n) (suc x) = none_waits n x
none_waits _ _ = refl

first_right : (script : ScriptView) (j : ℕ) (u : BookKnown) → get_elem? (first_view script ∷ []) j ≡ some u → SeatIsRight script [] (λ e. 0) (record { executors = 0; roots = 0 }) 0 j u
first_right script zero u at = subst (SeatIsRight script [] (λ e. 0) (record { executors = 0; roots = 0 }) 0 0) (some-injective (first_view script) u at)
    (record { script_is = refl; accounts = All-nil (IsIn []); owns = All-nil (IsOwned (λ e. 0) 0 0); tickets = All-nil (IsGiven (standing script [])); maker_is = (refl, refl) })
first_right script (suc j) u at = absurd (some-ne-none u (sym at))

first_says : (script : ScriptView) (j : ℕ) (u : BookKnown) → get_elem? (first_view script ∷ []) j ≡ some u → All (SaysOrder [] (λ e. at_rest)) u.accounts
first_says script zero u at = subst (λ (x : BookKnown). All (SaysOrder [] (λ e. at_rest)) x.accounts) (some-injective (first_view script) u at) (All-nil (SaysOrder [] (λ e. at_rest)))
first_says script (suc j) u at = absurd (some-ne-none u (sym at))

pub run_begins : RunsBegin
run_begins script = record {
  blocks = [];
  stand = tt;
  none_folded = λ e. refl;
  log_is = refl;
  held_is = refl;
  maker = record { executors = 0; roots = 0 };
  maker_seat = 0;
  owner = λ e. 0;
  few = omega arith;
  none_else = λ e le. refl;
  roots = refl;
  there = λ r lt. first_there r;
  order = λ e. at_rest;
  under_way = first_has script;
  unopened = λ e le. refl;
  orders = first_says script;
  orderly = λ all. tt;
  single = λ x. (let none = none_waits (root_count script) x in omega (arith, none));
  unadded = λ x le lt. (let none = none_waits (root_count script) x in omega (arith, none));
  unmade = λ x le. (let none = none_waits (root_count script) x in omega (arith, none));
  seats = first_right script;
}

-- what a seat learns, and a book that stays

each_ordered : (n : ℕ) (order : ℕ → TurnOrder) → ((e : ℕ) → n ≤ e → order e ≡ at_rest) → ((e : ℕ) → e < n → IsOrdered (order e)) → (e : ℕ) → IsOrdered (order e)
each_ordered n order rest all e = elim (lt_or e n) [
  | inl lt ↦ all e lt
  | inr le ↦ subst IsOrdered (sym (rest e le)) tt
]
  where
    lt_or : (x y : ℕ) → (x < y) ⊎ (y ≤ x)
    lt_or x y = grind arith

pub seat_learns : SeatsLearn
seat_learns v facts views seat c at =
    let s = c.seats seat v at in (
      s.script_is,
      record {
        blocks = c.blocks;
        stand = c.stand;
        none_folded = c.none_folded;
        log_is = c.log_is;
        accounts = s.accounts;
        tickets = s.tickets;
        none_else = if_some v.maker (λ m. (m ≡ c.maker) × (c.maker_seat ≡ seat)) (λ m. (e : ℕ) → m.executors ≤ e → records_of e c.blocks ≡ []) (λ m is e le. c.none_else e (subst (λ (n : Maker). n.executors ≤ e) is.0 le)) s.maker_is;
        roots = if_some v.maker (λ m. (m ≡ c.maker) × (c.maker_seat ≡ seat)) (λ m. roots_of c.blocks ≡ range_with_len 0 m.roots) (λ m is. c.roots ∙ ap (λ (n : Maker). range_with_len 0 n.roots) (sym is.0)) s.maker_is;
        order = c.order;
        orders = c.orders seat v at;
        orderly = if_some v.maker (λ m. (m ≡ c.maker) × (c.maker_seat ≡ seat)) (λ m. ((e : ℕ) → e < m.executors → IsOrdered (c.order e)) → AllAllowed (IsOrderly facts.script) [] c.blocks)
            (λ m is all. c.orderly (each_ordered c.maker.executors c.order c.unopened (subst (λ (n : Maker). (e : ℕ) → e < n.executors → IsOrdered (c.order e)) is.0 all))) s.maker_is;
      },
    )

pub book_stays : BooksMayStay
book_stays v taken views seat c at = (v, subst (IsCourse taken) (sym (set_again views seat v at)) c, refl)

-- one seat more

says_push : (log : List Event) (order : ℕ → TurnOrder) (views : List BookKnown) (w : BookKnown) → ((j : ℕ) (u : BookKnown) → get_elem? views j ≡ some u → All (SaysOrder log order) u.accounts) → All (SaysOrder log order) w.accounts
    → (j : ℕ) (u : BookKnown) → get_elem? (views ++ w ∷ []) j ≡ some u → All (SaysOrder log order) u.accounts
says_push log order views w says own j u there = elim (at_push views w u j there) [
  | inl x ↦ says j u x
  | inr x ↦ subst (λ (k : BookKnown). All (SaysOrder log order) k.accounts) x.1 own
]

-- tickets get a seat

tickets_cut : (x n : ℕ) (ks : List Ticket) → count_by (is_for x) (take n ks) + count_by (is_for x) (drop n ks) ≡ count_by (is_for x) ks
tickets_cut x n ks = sum_by-take-drop (λ (k : Ticket). one_if (is_for x k)) ks n

pub tickets_part : SomeTicketsMayBeParted
tickets_part v n facts views seat c at =
    let left = some_left n v in
    let right = some_parted n v in
    let front = set views seat left in
    let s = c.seats seat v at in
    let given = IsGiven (standing facts.script c.blocks) in
    let same : SameWays facts views (front ++ right ∷ []) =
    record { sums = λ x. (let t = total_set (tickets_in x) views seat v left at in let p = sum_by_push (tickets_in x) front right in let cut = tickets_cut x n v.tickets in omega (arith, t, p, cut)) }
    in
    let left_right : SeatIsRight facts.script c.blocks c.owner c.maker c.maker_seat seat left =
    record { script_is = s.script_is; accounts = s.accounts; owns = s.owns; tickets = All-drop given n v.tickets s.tickets; maker_is = s.maker_is }
    in
    let right_right : (j : ℕ) → SeatIsRight facts.script c.blocks c.owner c.maker c.maker_seat j right =
    (λ j. record { script_is = s.script_is; accounts = All-nil (IsIn c.blocks); owns = All-nil (IsOwned c.owner c.maker.executors j); tickets = All-take given n v.tickets s.tickets; maker_is = tt })
    in
    course_with facts views (front ++ right ∷ []) c c.maker c.maker_seat c.owner same refl (omega arith) c.few
    (says_push facts.log c.order front right (orders_kept facts.log c.order views seat left c.orders (c.orders seat v at)) (All-nil (SaysOrder facts.log c.order)))
    (λ j u there. elim (at_push front right u j there) [
      | inl x ↦ elim (at_set views seat j left u x) [
        | inl y ↦ subst (λ (i : ℕ). SeatIsRight facts.script c.blocks c.owner c.maker c.maker_seat i u) (sym y.0) (subst (SeatIsRight facts.script c.blocks c.owner c.maker c.maker_seat seat) y.1 left_right)
        | inr y ↦ c.seats j u y.1
      ]
      | inr x ↦ subst (SeatIsRight facts.script c.blocks c.owner c.maker c.maker_seat j) x.1 (right_right j)
    ])

pub ticket_parts : TicketsMayBeParted
ticket_parts v = tickets_part v 1

-- a seat for the next executor

new_owner : (m l : ℕ) (owner : ℕ → ℕ) (e : ℕ) → e ≡ m → (if e == m then l else owner e) ≡ l
new_owner m l owner e is = ap (λ b. if b then l else owner e) (equal e m is)

old_owner : (m l : ℕ) (owner : ℕ → ℕ) (e : ℕ) → e ≢ m → (if e == m then l else owner e) ≡ owner e
old_owner m l owner e apart = ap (λ b. if b then l else owner e) (unequal e m apart)

-- a seat that is not touched, when there is one executor more
still_right : (facts : BookFacts) (blocks : List Block) (owner : ℕ → ℕ) (maker : Maker) (maker_seat seat j l : ℕ) (u : BookKnown) → SeatIsRight facts.script blocks owner maker maker_seat j u → maker_seat ≡ seat → j ≢ seat
    → SeatIsRight facts.script blocks (λ e. if e == maker.executors then l else owner e) (record maker { executors = maker.executors + 1 }) seat j u
still_right facts blocks owner maker maker_seat seat j l u r is apart = record {
  script_is = r.script_is;
  accounts = r.accounts;
  owns = all_each (IsOwned owner maker.executors j) (IsOwned (λ e. if e == maker.executors then l else owner e) (maker.executors + 1) j) u.accounts (λ a own. (old_owner maker.executors l owner a.executor (λ same. (let lt = own.1 in omega (arith, same, lt))) ∙ own.0, (let lt = own.1 in omega (arith, lt)))) r.owns;
  tickets = r.tickets;
  maker_is = if_some u.maker (λ m. (m ≡ maker) × (maker_seat ≡ j)) (λ m. (m ≡ record maker { executors = maker.executors + 1 }) × (seat ≡ j)) (λ m known. absurd (apart (sym known.1 ∙ is))) r.maker_is;
}

open_next : (facts : BookFacts) (views : List BookKnown) (seat : ℕ) (v : BookKnown) (c : IsCourse facts views) → get_elem? views seat ≡ some v → v.maker ≡ Some c.maker → c.maker_seat ≡ seat → c.maker.executors < executor_count facts.script
    → IsCourse facts (set views seat (maker_left v) ++ account_parted v ∷ [])
open_next facts views seat v c at makes maker_seat lt =
    let s = c.seats seat v at in
    let n = c.maker.executors in
    let left = maker_left v in
    let right = account_parted v in
    let front = set views seat left in
    let l = length front in
    let owner : ℕ → ℕ = λ e. if e == n then l else c.owner e in
    let maker : Maker = record c.maker { executors = n + 1 } in
    let given = IsGiven (standing facts.script c.blocks) in
    let number : number_of v.maker ≡ n = ap number_of makes in
    let same : SameWays facts views (front ++ right ∷ []) =
    record { sums = λ x. (let t = total_set (tickets_in x) views seat v left at in let p = sum_by_push (tickets_in x) front right in omega (arith, t, p)) }
    in
    let left_right : SeatIsRight facts.script c.blocks owner maker seat seat left =
    record {
      script_is = s.script_is;
      accounts = s.accounts;
      owns = all_each (IsOwned c.owner n seat) (IsOwned owner (n + 1) seat) v.accounts (λ a own. (old_owner n l c.owner a.executor (λ same. (let less = own.1 in omega (arith, same, less))) ∙ own.0, (let less = own.1 in omega (arith, less)))) s.owns;
      tickets = s.tickets;
      maker_is = subst (λ (o : Option Maker). IfSome (one_more o) (λ m. (m ≡ maker) × (seat ≡ seat))) (sym makes) (refl, refl);
    }
    in
    let a : Account = record { executor = number_of v.maker; records = []; order = at_rest; seen = [] } in
    let right_right : SeatIsRight facts.script c.blocks owner maker seat l right =
    record {
      script_is = s.script_is;
      accounts = All-cons (IsIn c.blocks) a [] (sym (c.none_else (number_of v.maker) (omega (arith, number)))) (All-nil (IsIn c.blocks));
      owns = All-cons (IsOwned owner (n + 1) l) a [] (new_owner n l c.owner (number_of v.maker) number, omega (arith, number)) (All-nil (IsOwned owner (n + 1) l));
      tickets = All-nil given;
      maker_is = tt;
    }
    in
    course_with facts views (front ++ right ∷ []) c maker seat owner same refl (omega arith) (omega (arith, lt))
    (says_push facts.log c.order front right (orders_kept facts.log c.order views seat left c.orders (c.orders seat v at))
    (All-cons (SaysOrder facts.log c.order) a [] (sym (c.unopened (number_of v.maker) (omega (arith, number))), (facts.log, refl)) (All-nil (SaysOrder facts.log c.order))))
    (λ j u there. elim (at_push front right u j there) [
      | inl x ↦ elim (at_set views seat j left u x) [
        | inl y ↦ subst (λ (i : ℕ). SeatIsRight facts.script c.blocks owner maker seat i u) (sym y.0) (subst (SeatIsRight facts.script c.blocks owner maker seat seat) y.1 left_right)
        | inr y ↦ still_right facts c.blocks c.owner c.maker c.maker_seat seat j l u (c.seats j u y.1) maker_seat y.0
      ]
      | inr x ↦ subst (λ (i : ℕ). SeatIsRight facts.script c.blocks owner maker seat i u) (sym x.0) (subst (SeatIsRight facts.script c.blocks owner maker seat l) x.1 right_right)
    ])

pub account_opens : AccountsMayBeOpened
account_opens v m script knows makes lt facts views seat c at =
    let s = c.seats seat v at in
    let known : (m ≡ c.maker) × (c.maker_seat ≡ seat) = subst (λ (o : Option Maker). IfSome o (λ n. (n ≡ c.maker) × (c.maker_seat ≡ seat))) makes s.maker_is in
    let own : facts.script ≡ script = subst (λ (o : Option ScriptView). IfSome o (λ sc. facts.script ≡ sc)) knows s.script_is in
    open_next facts views seat v c at (makes ∙ ap (λ (n : Maker). Some n) known.0) known.1
    (subst (λ (n : Maker). n.executors < executor_count facts.script) known.0 (subst (λ (sc : ScriptView). m.executors < executor_count sc) (sym own) lt))

-- a seat takes over the accounts and the tickets of another

pub seat_gathers : SeatsMayBeGathered
seat_gathers v w facts views seat other c at apart at' =
    let both = gathered v w in
    let front = set views seat both in
    let s = c.seats seat v at in
    let o = c.seats other w (sym (set_else views seat other both apart) ∙ at') in
    let n = c.maker.executors in
    let owner : ℕ → ℕ = λ e. if c.owner e == other then seat else c.owner e in
    let given = IsGiven (standing facts.script c.blocks) in
    let kept : (j : ℕ) → j ≢ other → (a : Account) → IsOwned c.owner n j a → IsOwned owner n j a =
    (λ j far a own. (ap (λ b. if b then seat else c.owner a.executor) (unequal (c.owner a.executor) other (λ same. far (sym own.0 ∙ same))) ∙ own.0, own.1))
    in
    let moved : (a : Account) → IsOwned c.owner n other a → IsOwned owner n seat a =
    (λ a own. (ap (λ b. if b then seat else c.owner a.executor) (equal (c.owner a.executor) other own.0), own.1))
    in
    let same : SameWays facts views (set front other no_view) =
    record {
      sums = λ x.
          (let t = total_set (tickets_in x) views seat v both at in
          omega (arith, t, total_set (tickets_in x) front other w no_view at', count_append x w.tickets v.tickets));
    }
    in
    let both_right : SeatIsRight facts.script c.blocks owner c.maker c.maker_seat seat both =
    record {
      script_is = s.script_is;
      accounts = All-append (IsIn c.blocks) v.accounts w.accounts s.accounts o.accounts;
      owns = All-append (IsOwned owner n seat) v.accounts w.accounts
          (all_each (IsOwned c.owner n seat) (IsOwned owner n seat) v.accounts (kept seat (λ e. apart (sym e))) s.owns) (all_each (IsOwned c.owner n other) (IsOwned owner n seat) w.accounts moved o.owns);
      tickets = All-append given w.tickets v.tickets o.tickets s.tickets;
      maker_is = s.maker_is;
    }
    in
    let spent_right : SeatIsRight facts.script c.blocks owner c.maker c.maker_seat other no_view =
    record { script_is = tt; accounts = All-nil (IsIn c.blocks); owns = All-nil (IsOwned owner n other); tickets = All-nil given; maker_is = tt }
    in
    course_with facts views (set front other no_view) c c.maker c.maker_seat owner same refl (omega arith) c.few
    (orders_kept facts.log c.order front other no_view
    (orders_kept facts.log c.order views seat both c.orders (All-append (SaysOrder facts.log c.order) v.accounts w.accounts (c.orders seat v at) (c.orders other w (sym (set_else views seat other both apart) ∙ at')))) (All-nil (SaysOrder facts.log c.order)))
    (λ j u there. elim (at_set front other j no_view u there) [
      | inl x ↦ subst (λ (i : ℕ). SeatIsRight facts.script c.blocks owner c.maker c.maker_seat i u) (sym x.0) (subst (SeatIsRight facts.script c.blocks owner c.maker c.maker_seat other) x.1 spent_right)
      | inr x ↦ elim (at_set views seat j both u x.1) [
        | inl y ↦ subst (λ (i : ℕ). SeatIsRight facts.script c.blocks owner c.maker c.maker_seat i u) (sym y.0) (subst (SeatIsRight facts.script c.blocks owner c.maker c.maker_seat seat) y.1 both_right)
        | inr y ↦
            let r = c.seats j u y.1 in
            record {
              script_is = r.script_is;
              accounts = r.accounts;
              owns = all_each (IsOwned c.owner n j) (IsOwned owner n j) u.accounts (kept j x.0) r.owns;
              tickets = r.tickets;
              maker_is = r.maker_is;
            }
      ]
    ])
