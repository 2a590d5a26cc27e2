-- What seats know, in the shapes that the calls give it.
use Rattle.swift_shared_book.proofs.Prelude.{◌≡◌, Bool, true, false, List, [], ◌∷◌, ◌++◌, length, take, drop, map, refl, sym, ap, ◌∙◌, Option, Some, None, IfSome, IsSome, false≢true, append-nil, map-append, ScriptView, BodyView, JobView, RecordView, job_facts, Account, BookKnown, Ticket, fresh, Known, gathered, some_left, some_parted, BookLockView, BookSeatView, after_turn, is_there, seat_of, tickets_view, view_in, with_ticket, HasTicketsOf, IsOneAtMost, oldest_first, knowing_record}

-- a badge that is there has one seat
pub one_there : (l : List Known) → IsOneAtMost l → is_there l ≡ true → l ≡ record { view = view_in l } ∷ []
one_there [] one there = absurd (false≢true there)
one_there (known ∷ []) one there = refl
one_there (known ∷ l ∷ others) one there = absurd one

-- a seat of a lock that is there, by what it knows
pub whole : (l : BookLockView) (s : BookSeatView) → s.lock ≡ l.id → s.here ≡ true → seat_of l s.knows ≡ s
whole l s lock here = ap (λ x. record { lock = x; here = true; knows = s.knows }) (sym lock) ∙ ap (λ x. record { lock = s.lock; here = x; knows = s.knows }) (sym here)

-- the tickets of the jobs that a turn made, parted from the others

take_made : (made : List (JobView BodyView)) (rest : List Ticket) → take (length made) (map fresh (map job_facts made) ++ rest) ≡ map (λ j. fresh (job_facts j)) made
take_made [] rest = refl
take_made (j ∷ made) rest = ap (λ l. fresh (job_facts j) ∷ l) (take_made made rest)

drop_made : (made : List (JobView BodyView)) (rest : List Ticket) → drop (length made) (map fresh (map job_facts made) ++ rest) ≡ rest
drop_made [] rest = refl
drop_made (j ∷ made) rest = drop_made made rest

pub parted_is : (newest : Option RecordView) (made : List (JobView BodyView)) (v : BookKnown) → IsSome newest → some_parted (length made) (knowing_record newest (map job_facts made) v) ≡ tickets_view v.script made
parted_is None made v some_one = absurd (false≢true some_one)
parted_is (Some r) made v some_one = ap (λ (l : List Ticket). record { script = v.script; accounts = []; tickets = l; maker = None }) (take_made made (drop 1 v.tickets))

pub left_is : (newest : Option RecordView) (made : List (JobView BodyView)) (v : BookKnown) → IfSome newest (λ r. some_left (length made) (knowing_record newest (map job_facts made) v) ≡ after_turn r v)
left_is None made v = tt
left_is (Some r) made v = ap (λ (l : List Ticket). record (after_turn r v) { tickets = l }) (drop_made made (drop 1 v.tickets))

-- tickets behind others
pub append_is : (script other : Option ScriptView) (js made : List (JobView BodyView)) → gathered (tickets_view script made) (tickets_view other js) ≡ tickets_view script (js ++ made)
append_is script other js made = ap (λ (l : List Ticket). record { script = script; accounts = []; tickets = l; maker = None }) (sym (map-append (λ j. fresh (job_facts j)) js made))

-- a ticket is taken in
pub accept_is : (v : BookKnown) (script : Option ScriptView) (j : JobView BodyView) → gathered v (tickets_view script (j ∷ [])) ≡ with_ticket (job_facts j) v
accept_is v script j = ap (λ (l : List Account). record v { accounts = l; tickets = fresh (job_facts j) ∷ v.tickets }) (append-nil v.accounts)

-- a seat that has taken in the tickets of more jobs
pub has_tickets : (seat : BookSeatView) (l : BookLockView) (part other : BookKnown) (script script' : Option ScriptView) (made jobs items : List (JobView BodyView)) (is_reversed : Bool) → seat ≡ seat_of l (gathered part other)
    → part ≡ tickets_view script made → other ≡ tickets_view script' jobs → gathered (tickets_view script made) (tickets_view script' jobs) ≡ tickets_view script items → is_reversed ≡ false → HasTicketsOf (oldest_first is_reversed items) seat
has_tickets seat l part other script script' made jobs items is_reversed is parted others both way = (
  ap (λ (s : BookSeatView). s.here) is,
  script,
  ap (λ (s : BookSeatView). s.knows) is
      ∙ ap (λ (x : BookKnown). gathered x other) parted
      ∙ ap (gathered (tickets_view script made)) others
      ∙ both
      ∙ ap (λ (b : Bool). tickets_view script (oldest_first b items)) (sym way),
)
