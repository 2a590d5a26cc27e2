use Rattle.swift_certificate.proofs.Prelude.{◌≡◌, ◌+◌, take, count_by, effect_views, makes_own, opens_group}
use Rattle.swift_certificate.proofs.playing.counts_after.Given as goal

abbrev pub invariant-loop-effect : goal.invariant-loop-effect
invariant-loop-effect l = record {
  made : l.counts.made ≡ l.frame.made + count_by makes_own (effect_views (take l.effect-index l.effects));
  opened : l.counts.opened ≡ l.frame.opened + count_by opens_group (effect_views (take l.effect-index l.effects));
}
