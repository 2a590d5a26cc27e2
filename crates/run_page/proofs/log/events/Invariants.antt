use Rattle.run_page.proofs.Prelude.{◌≡◌, ◌++◌, drop, length, events_json}
use Rattle.run_page.proofs.log.events.Given as goal

abbrev pub invariant-loop-place : goal.invariant-loop-place
invariant-loop-place l = record {
  text : l.out.items ++ events_json l.place (drop l.place l.log.events) ≡ l.initial.out.items ++ events_json 0 l.log.events;
  end : l.place-end ≡ length l.log.events;
}
