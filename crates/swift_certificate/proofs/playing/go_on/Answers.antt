use Rattle.swift_certificate.proofs.Prelude.{rules, ap, refl, effect_views, frame_view, frame_if, exit_view, BodyView}
use Rattle.swift_certificate.proofs.Played.{takes}
use Rattle.swift_certificate.proofs.playing.go_on.Goals as goal

pub returns : goal.returns
returns c =
    takes c.args.ready _ (frame_view c.in-Some.frame) (effect_views c.args.effects.items) (exit_view c.args.exit) (frame_if c.args.after)
    c.requires.running (search rules) (ap (λ (b : BodyView). b.task) c.put_back.ensures) refl refl (ap (λ (b : BodyView). b.script) c.put_back.ensures) refl refl
