use Rattle.swift_certificate.proofs.Prelude.{refl, report_view, if_yes, at_rest}
use Rattle.swift_certificate.proofs.Steps.{replay_stays}
use Rattle.swift_certificate.proofs.replay.Replay.step.Goals as goal

pub add_root-requires : goal.add_root-requires
add_root-requires c = at_rest _ _ _ c.args.self.now.history c.requires.is

pub begin-requires : goal.begin-requires
begin-requires c = at_rest _ _ _ c.args.self.now.history c.requires.is

pub returns-in-Root-clause-follows : goal.returns-in-Root-clause-follows
returns-in-Root-clause-follows c = if_yes c.add_root.result _ _ (λ follows. replay_stays (report_view c.args.report.now) c.args.self.now _ _ c.requires follows refl (λ e. refl) (λ e. refl)) c.add_root.ensures.follows

pub returns-in-Begin-clause-follows : goal.returns-in-Begin-clause-follows
returns-in-Begin-clause-follows c = if_yes c.begin.result _ _ (λ begins. replay_stays (report_view c.args.report.now) c.args.self.now _ _ c.requires begins.3 refl (λ e. refl) (λ e. refl)) c.begin.ensures.follows
