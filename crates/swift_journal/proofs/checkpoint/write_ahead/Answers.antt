use Rattle.swift_journal.proofs.Prelude.{◌≡◌, ◌<◌, ◌∷◌, [], ◌++◌, false, is_err, length, rules, ended_view}
use Rattle.swift_journal.proofs.Ahead.{ahead_more, on_ok}
use Rattle.swift_journal.proofs.checkpoint.write_ahead.Goals as goal

pub loop-place-preserved : goal.loop-place-preserved
loop-place-preserved c =
    let v = ended_view c.ended.result in
    let lt : c.loop-place.place < length c.args.journal.now = search rules in
    let fine : is_err c.push.result ≡ false = search rules in
    let pushed : c.push.new.self ≡ c.loop-place.turns ++ v ∷ [] = on_ok c.push.result _ c.push.ensures.ok fine in
    record {
      turns = ahead_more c.args.turns.now c.loop-place.turns c.push.new.self c.args.journal.now c.loop-place.place v lt c.ended.ensures c.loop-place.invariant.turns pushed;
      end = c.loop-place.invariant.end;
    }
