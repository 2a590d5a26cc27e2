use Rattle.swift_executor.proofs.Prelude.{List, ◌≡◌, ◌++◌, length, map, vec_capacity, true, job_facts, JobView, BodyView}
use Rattle.crossbeam_queue.specs.Passes.{view, IsPassOf as IsRawPassOf}
use Rattle.swift_executor.proofs.inbox.Inbox.drain.Given as goal

abbrev pub invariant-drain : goal.invariant-drain
invariant-drain g l =
    IsRawPassOf l.queue l.raw × (vec_capacity l.list ≡ vec_capacity l.initial.list) × ((view l.raw).takes ≡ true) × ((view l.raw).site ≡ (view l.initial.raw).site)
    × (jobs : List (JobView BodyView)) × (l.list.items ≡ l.initial.list.items ++ jobs) × ((view l.raw).taken ≡ (view l.initial.raw).taken ++ map job_facts jobs) × (length jobs ≡ l.counter)
