use Rattle.nuchapay.proofs.Prelude.{arith}
use Rattle.nuchapay.proofs.explore.found_by.Goals as goal

pub returns : goal.returns
returns c =
    let said = c.finish.ensures in
    let to_go = said.to_go in
    let states = said.states in
    record {
      outcomes = said.outcomes;
      once = said.once;
      broken = said.broken;
      all = said.all;
      unbroken = said.unbroken;
      met = said.limit;
      short = said.room;
      few = omega (arith, to_go, states);
      none = λ is. (let all = said.gone_on is in omega (arith, to_go, all));
    }
