use Rattle.swift_explorer.proofs.Prelude.{OnOk, Contains, RunOutcome, HasSeen}
use Rattle.swift_explorer.proofs.Noting.{on_ok_both, on_ok_four}
use Rattle.swift_explorer.proofs.Seeing.{seen_noted}
use Rattle.swift_explorer.proofs.search.Search.note_end.Goals as goal

pub returns-in-Reached : goal.returns-in-Reached
returns-in-Reached c =
    let x = c.args.self.now in
    let y = c.note_outcome.new.self in
    let made = c.note_outcome.ensures in
    let seen : OnOk c.note_outcome.result (((o : RunOutcome) → Contains x.outcomes.items o → Contains y.outcomes.items o) → HasSeen x y) =
    on_ok_four c.note_outcome.result (λ outcomes noted keyed once kept. seen_noted x y c.requires.sound made.rest kept outcomes noted keyed once) made.outcomes made.ends made.keyed made.once in
    on_ok_both c.note_outcome.result (λ (of : ((o : RunOutcome) → Contains x.outcomes.items o → Contains y.outcomes.items o) → HasSeen x y) kept. of kept) seen made.kept
