use Rattle.std.proofs.Common.{◌≡◌}
use Rattle.swift_translation.proofs.Bodies.{IsAt}
use Rattle.swift_translation.specs.Bodies.{course, starting}
use Rattle.swift_translation.specs.WritingInside.{GoesOn, progress_of}
use Rattle.swift_translation.proofs.walk.run.Given as goal

-- the first `counter` turns are written
abbrev pub invariant-loop : goal.invariant-loop
invariant-loop l = record {
  source : l.body.source ≡ l.initial.body.source;
  text : GoesOn l.initial.out l.out (course l.initial.body.source (starting (progress_of l.initial.body) l.fn.first) l.counter).text;
  place : IsAt (course l.initial.body.source (starting (progress_of l.initial.body) l.fn.first) l.counter) l.out (progress_of l.body) l.next;
}
