use Rattle.std.proofs.Common.{◌≡◌, ◌<◌, List, Some, length, slice_get, subst, sym, refl, ◌∙◌, arith, rules}
use Rattle.std.proofs.lemmas.Option.{slice_get_read}
use Rattle.swift_journal.specs.Records.{RecordView}
use Rattle.swift_types.specs.declared.outcome.Fault.TheVariants.{Turns}
use Rattle.swift_types.specs.declared.outcome.Resume.TheVariants.{Fault}
use Rattle.explorer_progress.proofs.Places.{limit_at}
use Rattle.explorer_progress.proofs.again.PlayedReport.is_at_limit.Goals as goal

pub returns-in-Fault-Turns : goal.returns-in-Fault-Turns
returns-in-Fault-Turns c = λ yes.
    let journal = c.in-Some.journal.now in
    let turn = c.args.turn in
    let at = subst (λ (js : List (List RecordView)). slice_get js turn.executor ≡ Some journal) c.deref.ensures.value (slice_get_read c.deref.result.now (length c.deref.result.now) turn.executor journal refl c.in-Some.ensures.lookup.3.0 c.in-Some.ensures.lookup.1) in
    let within : turn.place < length journal = omega (arith, c.if-turn-len.true, c.len.ensures.len) in
    let is : c.resume.result ≡ Fault Turns = search rules in
    limit_at c.args.self.now.report turn journal at within (λ d. sym (c.resume.ensures d) ∙ is)
