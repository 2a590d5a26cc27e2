use Rattle.plain_laws.proofs.Lined.{return_lined}
use Rattle.plain_laws.proofs.laws.returns_are_read_back.Goals as goal

pub returns : goal.returns
returns c = λ text tokens f d e i rest long writable stands. return_lined f d e rest long writable stands
