use Rattle.std.proofs.Common.{ap, ◌%◌, ◌==◌}
use Rattle.swift_word.specs.StepsInside.{SeatOf}
use Rattle.swift_word.proofs.WordCalls.{begun_notes}
use Rattle.swift_word.proofs.laws.each_step_notes_its_word.Goals as goal

pub returns-clause-count : goal.returns-clause-count
returns-clause-count g c s v w n told = ap (λ (m : SeatOf g.T.Named.name g.T.Named.image). m.0.found) told.0

pub returns-clause-begin : goal.returns-clause-begin
returns-clause-begin g c s v w n told = begun_notes g.T.Named.name g.T.Named.image v w n (n % 2 == 0) told

pub returns-clause-end : goal.returns-clause-end
returns-clause-end g c s v w n told = ap (λ (m : SeatOf g.T.Named.name g.T.Named.image). m.0.found) told.0

pub returns-clause-leave : goal.returns-clause-leave
returns-clause-leave g c s v w n told = ap (λ (m : SeatOf g.T.Named.name g.T.Named.image). m.0.found) told.0
