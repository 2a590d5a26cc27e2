use Rattle.swift_certificate.proofs.Prelude.{rules, ◌≡◌, ◌∙◌, List, refl, sym, subst, ap, slice_get, Some, slice_get_read, TaskId, FrameView, frame_view, RecordView, HasFrames, IfRunning, given_at, NextTurn, PlayedTurn, Plays, record_of, if_yes, at_rest, report_view}
use Rattle.swift_interpreter.specs.declared.frame.Frame.{Frame}
use Rattle.swift_certificate.proofs.Steps.{journal_is, replay_ran, some_of}
use Rattle.swift_certificate.proofs.replay.Replay.journal_turn.Goals as goal

pub play-requires : goal.play-requires
play-requires c = at_rest _ _ _ c.args.self.now.history c.requires.replay.is

pub is_next-requires : goal.is_next-requires
is_next-requires c =
    let plays = some_of _ _ (Plays c.args.self.now.history c.play.new.self) c.in-Some-2.is c.in_ok-turn.ensures.plays in
    subst HasFrames (sym plays.last) tt

pub apply_played-requires : goal.apply_played-requires
apply_played-requires c = (c.args.self.now.history, some_of _ _ (Plays c.args.self.now.history c.play.new.self) c.in-Some-2.is c.in_ok-turn.ensures.plays)

pub returns-clause-follows : goal.returns-clause-follows
returns-clause-follows c =
    let x = c.args.self.now in
    let k = c.args.place in
    let row = c.index_mut-row.result.now in
    let journal = c.index-journal.result.now in
    let turn = c.in-Some-2.turn in
    let plays = some_of _ _ (Plays x.history c.play.new.self) c.in-Some-2.is c.in_ok-turn.ensures.plays in
    let task = some_of _ _ (λ (t : PlayedTurn). t.task ≡ c.args.task) c.in-Some-2.is c.in_ok-turn.ensures.task in
    let of = some_of _ _ (λ (f : Frame). (g : NextTurn) → given_at x.history.tasks.items c.args.task.0 ≡ Some g → IfRunning g.body.task.frames (λ p. p ≡ frame_view f)) c.in-Some.is c.in_ok-frame.ensures in
    let next = c.in_ok-is_next.ensures (search rules) in
    let own : plays.frame ≡ frame_view c.in-Some.frame = subst (λ (fs : List FrameView). IfRunning fs (λ p. p ≡ frame_view c.in-Some.frame)) plays.first (of plays.before (subst (λ (t : TaskId). given_at x.history.tasks.items t.0 ≡ Some plays.before) task plays.takes.was)) in
    let here : turn.place ≡ k = search rules in
    let at = slice_get_read x.rows.items _ k row refl c.requires.place c.index_mut-row.ensures.value in
    let there = ap (λ (rs : List RecordView). slice_get rs row.played) (journal_is c.args.report.now.journals.items k journal c.requires.journal c.index-journal.ensures) ∙ next.there ∙ ap (λ (p : FrameView). Some (record_of turn next.worker p)) (sym own) in
    if_yes c.apply_played.result _ _ (λ follows. replay_ran (report_view c.args.report.now) x _ turn next.worker plays.frame k row c.is_next.new.row c.requires.replay (follows x.history next.worker plays) here at refl there next.played next.folded) c.apply_played.ensures.follows
