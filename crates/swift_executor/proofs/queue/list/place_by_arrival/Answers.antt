use Rattle.swift_executor.proofs.Prelude.{◌≡◌, List, ltb, ap, ◌∙◌, arith, rules, eq-eqb, get_or_default, IsPartitionPoint-from_clause, IsPartitionedBy-ltb, TaskId, Waiting}
use Rattle.swift_executor.proofs.PlaceByArrival.{none_at, rises_not_falls}
use Rattle.swift_executor.proofs.queue.list.place_by_arrival.Goals as goal

pub returns-then-place-len-clause-none : goal.returns-then-place-len-clause-none
returns-then-place-len-clause-none g c =
    let xs : List (Waiting g.row.B.Denot) = c.args.list.now.items in
    let m = c.args.arrival in
    let ok = c.args.list.now.ok.0 in
    let point = IsPartitionPoint-from_clause (λ (x : Waiting g.row.B.Denot). ltb x.arrival m) _ _ c.partition_point-place.ensures.partitioned
    (IsPartitionedBy-ltb (λ (x : Waiting g.row.B.Denot). x.arrival) xs m (rises_not_falls (λ (x : Waiting g.row.B.Denot). x.arrival) xs c.requires.by_arrival)) (λ a r q k. search rules) in
    none_at (λ (x : Waiting g.row.B.Denot). x.arrival) xs c.partition_point-place.result m (λ (x : Waiting g.row.B.Denot). x.job.task ≡ c.args.task) c.requires.by_arrival c.requires.known point
    (λ lt. absurd (omega (arith, lt, ok, c.len.ensures, c.if-place-len.true)))

pub returns-clause-none : goal.returns-clause-none
returns-clause-none g c =
    let xs : List (Waiting g.row.B.Denot) = c.args.list.now.items in
    let m = c.args.arrival in
    let point = IsPartitionPoint-from_clause (λ (x : Waiting g.row.B.Denot). ltb x.arrival m) _ _ c.partition_point-place.ensures.partitioned
    (IsPartitionedBy-ltb (λ (x : Waiting g.row.B.Denot). x.arrival) xs m (rises_not_falls (λ (x : Waiting g.row.B.Denot). x.arrival) xs c.requires.by_arrival)) (λ a r q k. search rules) in
    none_at (λ (x : Waiting g.row.B.Denot). x.arrival) xs c.partition_point-place.result m (λ (x : Waiting g.row.B.Denot). x.job.task ≡ c.args.task) c.requires.by_arrival c.requires.known point
    (λ lt d e.
    let read = c.index.ensures ∙ get_or_default xs c.partition_point-place.result c.index.result.now d lt in
    let same = c.task.ensures ∙ ap (λ (x : Waiting g.row.B.Denot). x.job.task) read ∙ e in
    let yes = eq-eqb c.task.result.0 c.args.task.0 (ap (λ (t : TaskId). t.0) same) in
    let no = c.if-eq.ensures in
    absurd (cc))
