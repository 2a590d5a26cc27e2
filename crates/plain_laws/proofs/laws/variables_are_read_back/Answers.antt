use Rattle.plain_laws.proofs.Lined.{let_lined}
use Rattle.plain_laws.proofs.laws.variables_are_read_back.Goals as goal

pub returns : goal.returns
returns c = λ text tokens f is_var d w e i rest long named writable stands. let_lined f is_var d w e rest long named writable stands
