use Rattle.swift_executor.proofs.Prelude.{◌≤◌, List, length, ltb, sym, subst, arith, rules, IsPartitionPoint-from_clause, IsPartitionedBy-ltb, IsPermutation-insert, IsByArrival, Waiting}
use Rattle.swift_executor.proofs.PlaceByArrival.{rises_at, rises_not_falls}
use Rattle.swift_executor.proofs.queue.list.insert_by_arrival.Goals as goal

pub returns-clause-jobs : goal.returns-clause-jobs
returns-clause-jobs g c = rw c.in-Ok.ensures.items (IsPermutation-insert c.args.list.now.items c.partition_point-place.result c.args.waiting)

pub returns-clause-by_arrival : goal.returns-clause-by_arrival
returns-clause-by_arrival g c =
    let xs : List (Waiting g.row.B.Denot) = c.args.list.now.items in
    let n = c.args.waiting.arrival in
    let bound = c.partition_point-place.ensures.bound in let ok = c.args.list.now.ok.0 in
    let within : c.partition_point-place.result ≤ length xs = omega (arith, bound, ok) in
    let point = IsPartitionPoint-from_clause (λ (x : Waiting g.row.B.Denot). ltb x.arrival n) _ _ c.partition_point-place.ensures.partitioned
    (IsPartitionedBy-ltb (λ (x : Waiting g.row.B.Denot). x.arrival) xs n (rises_not_falls (λ (x : Waiting g.row.B.Denot). x.arrival) xs c.requires.by_arrival)) (λ a r q k. search rules) in
    subst (λ (s : List (Waiting g.row.B.Denot)). IsByArrival s) (sym c.in-Ok.ensures.items)
    (rises_at (λ (x : Waiting g.row.B.Denot). x.arrival) xs c.partition_point-place.result c.args.waiting c.requires.by_arrival within c.requires.apart point)
