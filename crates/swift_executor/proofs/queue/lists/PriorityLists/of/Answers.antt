use Rattle.swift_executor.proofs.Prelude.{List, ap, nil_from_length, Waiting, jobs_of, PriorityListsView}
use Rattle.swift_executor.proofs.FirstIsPicked.{empty_none}
use Rattle.swift_executor.proofs.queue.lists.PriorityLists.of.Goals as goal

pub returns : goal.returns
returns g c =
    let with_jobs : List (Waiting g.row.B.Denot) → PriorityListsView g.row.B.Denot = λ jobs. record { jobs = jobs; room = c.args.room } in
    ap with_jobs (nil_from_length (jobs_of c.args.lists) (empty_none c.args.lists c.requires.empty))
