use Rattle.swift_explorer.proofs.Prelude.{sym, subst, arc_value, IsSound}
use Rattle.swift_explorer.proofs.Noting.{on_ok_four, sound_noted}
use Rattle.swift_explorer.proofs.search.Search.note.Goals as goal

pub returns-in-Reached-clause-sound : goal.returns-in-Reached-clause-sound
returns-in-Reached-clause-sound c =
    let x = c.args.self.now in
    let y = c.note_outcome.new.self in
    let script = arc_value x.script in
    let made = c.note_outcome.ensures in
    on_ok_four c.note_outcome.result (λ outcomes ends keyed once. subst (IsSound script) (sym made.rest) (sound_noted script x y.outcomes y.ends c.requires.sound outcomes ends keyed once)) made.outcomes made.ends made.keyed made.once
