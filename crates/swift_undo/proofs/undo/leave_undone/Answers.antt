use Rattle.swift_undo.proofs.Prelude.{ap, ◌∙◌, TurnStateView, exits, exit_view}
use Rattle.swift_undo.proofs.undo.leave_undone.Goals as goal

pub returns-clause-left : goal.returns-clause-left
returns-clause-left c = λ at. c.leave_frame.ensures.left at ∙ ap (λ (s : TurnStateView). exits s (exit_view c.args.exit)) (c.undo_turn.ensures.state at)
