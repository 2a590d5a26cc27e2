use Rattle.plain_laws.proofs.Lined.{assign_lined}
use Rattle.plain_laws.proofs.laws.assignments_are_read_back.Goals as goal

pub returns : goal.returns
returns c = λ text tokens f d w e i rest long named writable stands. assign_lined f d w e rest long named writable stands
