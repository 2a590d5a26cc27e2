use Rattle.swift_workers.proofs.Prelude.{◌≡◌, ◌+◌, ◌≤◌, ◌⊎◌, length, Hand, AreDesksOf, AreHandsOf, EachFrom}
use Rattle.swift_workers.proofs.crew.others_of.Given as goal

abbrev pub invariant-loop-worker : goal.invariant-loop-worker
invariant-loop-worker l = record {
  first : AreDesksOf l.execs l.first.items;
  seat : l.seat ≡ l.fn.seat;
  hands : AreHandsOf l.book l.execs l.hands.items;
  workers : EachFrom (λ k (h : Hand). h.worker ≡ k) 1 l.hands.items;
  many : length l.hands.items + 1 ≡ l.worker;
  within : (l.worker ≤ l.workers) ⊎ (l.worker ≡ 1);
}
