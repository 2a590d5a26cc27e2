use Rattle.swift_interpreter.proofs.Prelude.{◌∙◌, ap, IfOk-weaker, AfterStatement, on, turn, given_of}
use Rattle.swift_interpreter.proofs.whole.play_whole.Goals as goal

pub returns-in-Some-clause-played : goal.returns-in-Some-clause-played
returns-in-Some-clause-played c =
    let out = rw c.in-Some.is at c.in_ok-exit.ensures.next in
    λ code at follows. ap (λ (x : AfterStatement). on x (turn (given_of c.args.given) c.args.limit)) (out code at follows)

pub returns-clause-played : goal.returns-clause-played
returns-clause-played c =
    let further = rw c.in_default.is at c.in_ok-exit.ensures.next in
    IfOk-weaker c.play.result _ _ (λ exit h. λ code at follows.
    h code at follows ∙ ap (λ (x : AfterStatement). on x (turn (given_of c.args.given) c.args.limit)) (further code at follows)) c.play.ensures.played
