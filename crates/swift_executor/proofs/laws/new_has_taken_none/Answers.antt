use Rattle.swift_executor.proofs.Prelude.{[], refl, IsPermutation-refl}
use Rattle.swift_executor.proofs.laws.new_has_taken_none.Goals as goal

pub returns : goal.returns
returns c script executor room = record { journalled = []; folded = []; all = IsPermutation-refl []; records = refl; past = refl }
