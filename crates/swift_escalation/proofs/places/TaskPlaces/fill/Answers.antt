use Rattle.swift_escalation.proofs.Prelude.{◌∙◌, arith}
use Rattle.swift_escalation.proofs.PlaceLemmas.{place_stays}
use Rattle.swift_escalation.proofs.places.TaskPlaces.fill.Goals as goal

pub fill-preserved : goal.fill-preserved
fill-preserved c = record {
  same = λ n. place_stays c.fill.self c.push_reserved.new.self c.push_reserved.ensures.items n ∙ c.fill.invariant.same n;
  room = λ n has. (let was = c.fill.invariant.room n has in (was.0, λ some. (let w = was.1 some in let k = c.push_reserved.ensures.capacity in omega (arith, w, k))));
}
