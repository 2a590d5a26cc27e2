-- A step of one seat leaves what the others know true.
use Rattle.swift_course.proofs.Prelude.{◌≡◌, ◌≢◌, ℕ, ◌+◌, ◌≤◌, ◌==◌, List, [], ◌∷◌, get_or, set, count_by, sym, ap, ◌∙◌, subst, arith, inl, inr, All, Some, sum_by, AllByRecursion, All-from_recursion, some, get_elem?, ScriptView, Block, Standing, JobFacts, IsGiven, IsIn, IsOwned, SeatIsRight, is_for, one_if, standing, tickets_in, Account, Maker, BookKnown, Ticket, fresh}
use Rattle.std.specs.Prelude.{map}
use Rattle.swift_course.proofs.Lists.{all_both, at_set, count_cons, count_own, if_some, set_else, set_there, total_most, total_set}

-- tickets stay what they are, where each one does that counts for its task
pub tickets_stay : (s s' : Standing) (o : ℕ → ℕ) → ((k : Ticket) → 1 ≤ o k.job.task → IsGiven s k → IsGiven s' k) → (ks : List Ticket) → ((x : ℕ) → count_by (is_for x) ks ≤ o x) → All (IsGiven s) ks → All (IsGiven s') ks
tickets_stay s s' o stay ks le all = λ i d lt.
    (let k = get_or ks i d in
    stay k (omega (arith, count_own ks i d lt, le k.job.task)) (all i d lt))

-- the tickets of jobs that were made
given_each : (s : Standing) (js : List JobFacts) → AllByRecursion (λ j. s.jobs j.task ≡ Some j) js → AllByRecursion (IsGiven s) (map fresh js)
given_each s [] all = tt
given_each s (j ∷ js) all = (record { job = all.0; begun = tt }, given_each s js all.1)

pub given_fresh : (s : Standing) (js : List JobFacts) → AllByRecursion (λ j. s.jobs j.task ≡ Some j) js → All (IsGiven s) (map fresh js)
given_fresh s js all = All-from_recursion (IsGiven s) (map fresh js) (given_each s js all)

-- all seats, after a step of one of them
pub seats_after : (script : ScriptView) (bs bs' : List Block) (owner : ℕ → ℕ) (maker maker' : Maker) (maker_seat : ℕ) (views : List BookKnown) (seat : ℕ) (w : BookKnown)
    → ((j : ℕ) (u : BookKnown) → get_elem? views j ≡ some u → SeatIsRight script bs owner maker maker_seat j u)
    → SeatIsRight script bs' owner maker' maker_seat seat w
    → maker'.executors ≡ maker.executors → (maker_seat ≢ seat → maker' ≡ maker)
    → ((a : Account) → owner a.executor ≢ seat → IsIn bs a → IsIn bs' a)
    → ((j : ℕ) (u : BookKnown) → j ≢ seat → get_elem? views j ≡ some u → All (IsGiven (standing script bs')) u.tickets)
    → (j : ℕ) (u : BookKnown) → get_elem? (set views seat w) j ≡ some u → SeatIsRight script bs' owner maker' maker_seat j u
seats_after script bs bs' owner maker maker' maker_seat views seat w seats mine executors makers accounts tickets j u there = elim (at_set views seat j w u there) [
  | inl x ↦ subst (λ (i : ℕ). SeatIsRight script bs' owner maker' maker_seat i u) (sym x.0) (subst (SeatIsRight script bs' owner maker' maker_seat seat) x.1 mine)
  | inr x ↦
      let r = seats j u x.1 in
      record {
        script_is = r.script_is;
        accounts = all_both (IsIn bs) (IsOwned owner maker.executors j) (IsIn bs') u.accounts (λ a is owned. accounts a (λ same. x.0 (sym owned.0 ∙ same)) is) r.accounts r.owns;
        owns = subst (λ (n : ℕ). All (IsOwned owner n j) u.accounts) (sym executors) r.owns;
        tickets = tickets j u x.0 x.1;
        maker_is = if_some u.maker (λ known. (known ≡ maker) × (maker_seat ≡ j)) (λ known. (known ≡ maker') × (maker_seat ≡ j)) (λ known is. (is.0 ∙ sym (makers (λ same. x.0 (sym is.1 ∙ same))), is.1)) r.maker_is;
      }
]

-- The seats without the first ticket of one of them.
abbrev pub without : List BookKnown → ℕ → BookKnown → List Ticket → List BookKnown
without views seat v rest = set views seat (record v { tickets = rest })

abbrev pub others : List BookKnown → ℕ → BookKnown → List Ticket → ℕ → ℕ
others views seat v rest x = sum_by (tickets_in x) (without views seat v rest)

pub others_and : (views : List BookKnown) (seat : ℕ) (v : BookKnown) (k : Ticket) (rest : List Ticket) (x : ℕ) → get_elem? views seat ≡ some v → v.tickets ≡ k ∷ rest
    → others views seat v rest x + one_if (x == k.job.task) ≡ sum_by (tickets_in x) views
others_and views seat v k rest x at is =
    let own : tickets_in x v ≡ one_if (x == k.job.task) + count_by (is_for x) rest = ap (count_by (is_for x)) is ∙ count_cons x k rest in
    omega (arith, total_set (tickets_in x) views seat v (record v { tickets = rest }) at, own)

pub rest_counts : (views : List BookKnown) (seat : ℕ) (v : BookKnown) (rest : List Ticket) (x : ℕ) → get_elem? views seat ≡ some v → count_by (is_for x) rest ≤ others views seat v rest x
rest_counts views seat v rest x at = total_most (tickets_in x) (without views seat v rest) seat (record v { tickets = rest }) (set_there views seat (record v { tickets = rest }) v at)

pub other_counts : (views : List BookKnown) (seat : ℕ) (v : BookKnown) (rest : List Ticket) (j : ℕ) (u : BookKnown) (x : ℕ) → j ≢ seat → get_elem? views j ≡ some u → tickets_in x u ≤ others views seat v rest x
other_counts views seat v rest j u x apart at = total_most (tickets_in x) (without views seat v rest) j u (set_else views seat j (record v { tickets = rest }) apart ∙ at)
