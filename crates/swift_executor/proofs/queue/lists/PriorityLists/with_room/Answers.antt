use Rattle.swift_executor.proofs.Prelude.{ap, arith, length, rules, IfOk-from_err}
use Rattle.swift_executor.proofs.ListsJustMade.{new_lists, new_lists_empty}
use Rattle.swift_executor.proofs.queue.lists.PriorityLists.with_room.Goals as goal

pub of-requires : goal.of-requires
of-requires g c =
    let lower = c.in_ok-background in
    let higher = c.in-Ok in (
      search rules,
      (
        search rules,
        (
          new_lists c.args.room lower.background lower.low higher.medium higher.high lower.ensures.empty lower.ensures.made higher.ensures.empty higher.ensures.made,
          new_lists_empty lower.background lower.low higher.medium higher.high lower.ensures.empty higher.ensures.empty,
        ),
      ),
    )

pub returns-in_err-background : goal.returns-in_err-background
returns-in_err-background g c = IfOk-from_err c.from_residual.result _ c.from_residual.ensures.0

pub destroy_empty-requires : goal.destroy_empty-requires
destroy_empty-requires g c = omega (arith, c.in_ok-background.background.ok, ap length c.in_ok-background.ensures.empty.0)

pub destroy_empty-requires-in-Err : goal.destroy_empty-requires-in-Err
destroy_empty-requires-in-Err g c = omega (arith, c.in_ok-background.low.ok, ap length c.in_ok-background.ensures.empty.1)

pub returns-in-Ok : goal.returns-in-Ok
returns-in-Ok g c = c.of.ensures
