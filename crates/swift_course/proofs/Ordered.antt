-- The order of a seat's tickets says nothing.
use Rattle.swift_course.proofs.Prelude.{◌≡◌, ℕ, zero, suc, List, [], ◌∷◌, set, count_by, refl, sym, ap, subst, arith, inl, inr, IsPermutation, some, get_elem?, IsCourse, IsGiven, SeatIsRight, is_for, one_if, standing, tickets_in, MayGive, TicketsMayBeOrdered, BookFacts, BookKnown, Ticket}
use Rattle.std.proofs.lemmas.List.Sorted.{All-permutation, sum_by-IsPermutation}
use Rattle.swift_course.proofs.Lists.{at_set, set_there, total_set}
use Rattle.swift_course.proofs.Order.{orders_kept}
use Rattle.swift_course.proofs.Parts.{SameWays, course_with}

set_twice : {X : Type 0} (l : List X) (i : ℕ) (a b : X) → set (set l i a) i b ≡ set l i b
set_twice (x ∷ xs) (suc i) a b = ap (λ ys. x ∷ ys) (set_twice xs i a b)
set_twice _ _ a b = refl

-- the rule does not depend on the order of a seat's tickets
reordered : (facts : BookFacts) (views : List BookKnown) (seat : ℕ) (v : BookKnown) (tickets : List Ticket) → IsCourse facts views → get_elem? views seat ≡ some v → IsPermutation v.tickets tickets
    → IsCourse facts (set views seat (record v { tickets = tickets }))
reordered facts views seat v tickets c at moved =
    let v' : BookKnown = record v { tickets = tickets } in
    let s = c.seats seat v at in
    let same : SameWays facts views (set views seat v') =
    record {
      sums = λ x.
          (let t = total_set (tickets_in x) views seat v v' at in
          let m : count_by (is_for x) tickets ≡ count_by (is_for x) v.tickets = sum_by-IsPermutation (λ (k : Ticket). one_if (is_for x k)) v.tickets tickets moved in
          omega (arith, t, m));
    }
    in
    let right : SeatIsRight facts.script c.blocks c.owner c.maker c.maker_seat seat v' =
    record { script_is = s.script_is; accounts = s.accounts; owns = s.owns; tickets = All-permutation (IsGiven (standing facts.script c.blocks)) v.tickets tickets moved s.tickets; maker_is = s.maker_is }
    in
    course_with facts views (set views seat v') c c.maker c.maker_seat c.owner same refl (omega arith) c.few (orders_kept facts.log c.order views seat v' c.orders (c.orders seat v at))
    (λ j u there. elim (at_set views seat j v' u there) [
      | inl y ↦ subst (λ (i : ℕ). SeatIsRight facts.script c.blocks c.owner c.maker c.maker_seat i u) (sym y.0) (subst (SeatIsRight facts.script c.blocks c.owner c.maker c.maker_seat seat) y.1 right)
      | inr y ↦ c.seats j u y.1
    ])

pub tickets_ordered : TicketsMayBeOrdered
tickets_ordered v tickets taken given known moved may views seat c at =
    let v' : BookKnown = record v { tickets = tickets } in
    let g = may (set views seat v') seat (reordered taken views seat v tickets c at moved) (set_there views seat v' v at) in
    (g.0, subst (IsCourse given) (set_twice views seat v' g.0) g.1, g.2)

-- nor does what it knows then
pub known_ordered : (v : BookKnown) (taken given : BookFacts) (known : BookKnown) (tickets : List Ticket) → IsPermutation known.tickets tickets → MayGive v taken given known → MayGive v taken given (record known { tickets = tickets })
known_ordered v taken given known tickets moved may views seat c at =
    let g = may views seat c at in
    let w : BookKnown = record known { tickets = tickets } in
    let there : IsCourse given (set views seat known) = subst (λ (x : BookKnown). IsCourse given (set views seat x)) g.2 g.1 in
    (w, subst (IsCourse given) (set_twice views seat known w) (reordered given (set views seat known) seat known tickets there (set_there views seat known v at) moved), refl)
