use Rattle.swift_explorer.proofs.Prelude.{on_ok_weaker}
use Rattle.swift_explorer.proofs.Seeing.{seen_on}
use Rattle.swift_explorer.proofs.search.Search.note_seen.Goals as goal

pub returns : goal.returns
returns c = on_ok_weaker c.note_end.result (λ more. seen_on c.args.self.now c.note_first.new.self c.note_end.new.self c.note_first.ensures more) c.note_end.ensures
