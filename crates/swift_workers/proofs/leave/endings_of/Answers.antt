use Rattle.swift_workers.proofs.Prelude.{◌≡◌, ◌+◌, List, length, sym, subst, ap, ◌∙◌, arith, Ending, root_count, Origin, EachFrom, IsEnding}
use Rattle.swift_workers.proofs.Left.{each_push, one_longer}
use Rattle.swift_workers.proofs.leave.endings_of.Goals as goal

pub loop-task-preserved : goal.loop-task-preserved
loop-task-preserved c =
    let roots = root_count c.args.script.now in
    let log = c.args.book.now.log in
    let es = c.loop-task.endings.items in
    let e = c.in_ok-ending_of.field-0 in
    let place : c.loop-task.task ≡ 0 + length es = omega (arith, c.loop-task.invariant.many) in
    let own : IsEnding roots log c.loop-task.task e = subst (λ r. IsEnding r log c.loop-task.task e) c.root_count-roots.ensures c.in_ok-ending_of.ensures in
    let all = each_push (IsEnding roots log) 0 es e c.loop-task.invariant.each (subst (λ n. IsEnding roots log n e) place own) in
    record {
      each = subst (λ (xs : List (Origin × Ending)). EachFrom (IsEnding roots log) 0 xs) (sym c.in_ok-push.ensures.items) all;
      many = ap length c.in_ok-push.ensures.items ∙ one_longer es e c.loop-task.task c.loop-task.invariant.many;
      bound = omega (arith, c.loop-task-test.true);
    }
