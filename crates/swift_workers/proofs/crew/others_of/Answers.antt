use Rattle.swift_workers.proofs.Prelude.{rules, ◌≡◌, ◌∙◌, false, List, length, refl, sym, subst, ap, arith, Hand, AreHandsOf, IsHandOf, EachFrom}
use Rattle.swift_workers.proofs.Desks.{hand_push}
use Rattle.swift_workers.proofs.Left.{each_push, one_longer}
use Rattle.swift_workers.proofs.crew.others_of.Goals as goal

pub loop-worker-preserved : goal.loop-worker-preserved
loop-worker-preserved c =
    let b = c.args.book.now in
    let execs = c.args.execs.now in
    let hands = c.loop-worker.hands.items in
    let many = c.loop-worker.invariant.many in
    let next : Hand = record { worker = c.loop-worker.worker; desks = c.in_ok-desks.desks; tokens = c.new-tokens.result; at = record { 0 = 0 }; is_link = false; jobs = c.no_jobs-jobs.result } in
    let is : IsHandOf b execs next = record { desks = c.in_ok-desks.ensures.others; book = ap (λ j. j.book) c.no_jobs-jobs.ensures.none; none = ap (λ j. j.jobs) c.no_jobs-jobs.ensures.none } in
    let longer = ap length c.in_ok-push.ensures.items in
    let by_one = one_longer hands next (length hands) refl in
    record {
      first = search rules;
      seat = c.no_jobs-jobs.ensures.same ∙ c.loop-worker.invariant.seat;
      hands = subst (AreHandsOf b execs) (sym c.in_ok-push.ensures.items) (hand_push b execs hands next c.loop-worker.invariant.hands is);
      workers = subst (λ (xs : List Hand). EachFrom (λ k (h : Hand). h.worker ≡ k) 1 xs) (sym c.in_ok-push.ensures.items)
          (each_push (λ k (h : Hand). h.worker ≡ k) 1 hands next c.loop-worker.invariant.workers (omega (arith, many)));
      many = omega (arith, many, longer, by_one);
      within = search rules;
    }
