use Rattle.swift_explorer.proofs.Prelude.{arith}
use Rattle.swift_explorer.proofs.Written.{waiting_step}
use Rattle.swift_explorer.proofs.frames.put_jobs.Goals as goal

pub loop-place-preserved : goal.loop-place-preserved
loop-place-preserved c =
    let end = c.in_ok-place-end.ensures in
    waiting_step c.args.book.now.held c.loop-place.place _ _ _ (omega (arith, end, c.loop-place-test.true, c.tasks.ensures, c.facts.ensures.size)) c.loop-place.invariant c.in_ok-put_waiting.ensures
