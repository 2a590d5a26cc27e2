use Rattle.swift_certificate.proofs.Prelude.{rules, ◌∙◌, ◌<◌, Some, ap, length, refl, arith, RecordView}
use Rattle.swift_certificate.proofs.Played.{found_record}
use Rattle.swift_certificate.proofs.playing.is_next.Goals as goal

pub returns : goal.returns
returns c = λ yes.
    (let lt : c.args.row.now.played < length c.args.journal.now = omega (arith, c.if-place-len.false) in
    record {
      worker = c.worker.result;
      there = found_record c.args.journal.now c.args.row.now.played _ lt (search rules) ∙ ap (λ (r : RecordView). Some r) c.record.ensures;
      played = refl;
      folded = refl;
    })
