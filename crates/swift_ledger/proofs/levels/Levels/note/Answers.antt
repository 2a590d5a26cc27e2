use Rattle.swift_ledger.proofs.LevelLemmas.{stayed_on}
use Rattle.swift_ledger.proofs.levels.Levels.note.Goals as goal

pub returns-else-may_change : goal.returns-else-may_change
returns-else-may_change c =
    let kept = c.requires.kept in
    let stays = c.may_change.ensures c.if-may_change.false in
    record {
      fresh = λ fresh. stays c.args.self.now.levels.items (kept.fresh fresh);
      since = stayed_on c.args.log.now.events c.args.event c.args.self.now.changed stays kept.since;
      room = kept.room;
    }
