use Rattle.std.proofs.Common.{◌≡◌, ◌<◌, List, Some, length, slice_get, subst, refl, arith}
use Rattle.std.proofs.lemmas.Option.{slice_get_read}
use Rattle.swift_journal.specs.Records.{RecordView}
use Rattle.explorer_progress.proofs.Places.{told_at}
use Rattle.explorer_progress.proofs.again.PlayedReport.task.Goals as goal

pub returns-then-turn-len : goal.returns-then-turn-len
returns-then-turn-len c =
    let journal = c.in_ok-journal.journal.now in
    let turn = c.args.turn in
    let at = subst (λ (js : List (List RecordView)). slice_get js turn.executor ≡ Some journal) c.deref.ensures.value (slice_get_read c.deref.result.now (length c.deref.result.now) turn.executor journal refl c.in_ok-journal.ensures.lookup.3.0 c.in_ok-journal.ensures.lookup.1) in
    let within : turn.place < length journal = omega (arith, c.if-turn-len.true, c.len.ensures.len) in
    told_at c.args.self.now.report turn journal c.task.result.0 c.method.result.0 at within c.task.ensures c.method.ensures
