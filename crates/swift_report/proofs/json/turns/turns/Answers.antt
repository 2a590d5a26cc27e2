use Rattle.swift_report.proofs.Prelude.{◌+◌, ◌<◌, length, refl, rules}
use Rattle.swift_report.proofs.JsonPlaces.{turns_more}
use Rattle.swift_report.proofs.json.turns.turns.Goals as goal

pub loop-place-preserved : goal.loop-place-preserved
loop-place-preserved c =
    let lt : c.loop-place.place < length c.args.journal.now = search rules in
    record {
      text = turns_more c.args.script.now c.args.first c.loop-place.place (c.args.first + c.loop-place.place) c.args.journal.now c.line_at.result c.loop-place.out.items c.listed.new.out.items _ lt refl c.line_at.ensures c.in_ok-listed.ensures c.loop-place.invariant.text;
      end = c.loop-place.invariant.end;
    }
