use Rattle.swift_expressions.proofs.Grown.{lowers_grow}
use Rattle.swift_expressions.proofs.laws.what_is_put_stays.Goals as goal

pub returns : goal.returns
returns c = λ s t place found h. lowers_grow h
