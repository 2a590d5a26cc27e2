use Rattle.swift_explorer.proofs.Prelude.{rules, ◌≡◌, subst, arc_value, false≢true, ScriptView, StartsHold, AreTold, HaveSilentMarks}
use Rattle.swift_explorer.proofs.Sound.{sound_none}
use Rattle.swift_explorer.proofs.StartInvariants.{starts_hold}
use Rattle.swift_explorer.proofs.search.Search.new.Goals as goal

pub returns-clause-sound : goal.returns-clause-sound
returns-clause-sound c =
    let script = arc_value c.args.script.now in
    let own : c.deref.result.now ≡ script = search rules in
    let own_away : c.deref-2.result.now ≡ script = search rules in
    let own_marks : c.deref-3.result.now ≡ script = search rules in
    sound_none script _ (search rules) c.new.ensures c.new-2.ensures.empty c.new-6.ensures.items c.new-7.ensures (search rules)
    (subst (λ (s : ScriptView). AreTold s c.in_ok-away.away) own_away c.in_ok-away.ensures) (subst (λ (s : ScriptView). HaveSilentMarks s c.in_ok-marks.marks.items) own_marks c.in_ok-marks.ensures)
    (subst StartsHold own (starts_hold c.deref.result.now c.facts.ensures.starts)) (λ is. absurd (false≢true is)) (λ is. absurd (false≢true is)) c.new-8.ensures.empty
