use Rattle.swift_certificate.proofs.Prelude.{◌∙◌, ℤ, [], Vec, map, ap, Global, rows_of, CheckpointRoomView, report_view}
use Rattle.swift_certificate.proofs.Steps.{places_first, starts_from}
use Rattle.swift_certificate.proofs.replay.Replay.new.Goals as goal

pub returns-clause-first : goal.returns-clause-first
returns-clause-first c =
    let first = c.in_ok-new.ensures.first in
    record {
      blocks = [];
      is = first.starts _ (starts_from c.args.report.now.checkpoints.items _
          (ap (λ (fs : Vec (Vec (Vec ℤ Global) Global) Global). map (λ (rows : Vec (Vec ℤ Global) Global). rows_of rows.items) fs.items) c.in_ok-new.ensures.fields ∙ c.in_ok-fields.ensures ∙ ap (map (λ (d : CheckpointRoomView). d.view.fields)) c.deref.ensures.value));
      places = places_first (report_view c.args.report.now) c.in_ok-rows.rows.items _ c.in_ok-rows.ensures;
    }
