use Rattle.run_page.proofs.Prelude.{◌≡◌, ◌≤◌, ◌-◌, drop, length, applied_turns, EXPLAINED}
use Rattle.run_page.proofs.explanations.first_explained.Given as goal

abbrev pub invariant-loop-back : goal.invariant-loop-back
invariant-loop-back l = record {
  many : l.many ≡ length (applied_turns (drop (length l.log.events - l.back) l.log.events));
  few : l.many ≤ EXPLAINED;
  end : l.back-end ≡ length l.log.events;
}
