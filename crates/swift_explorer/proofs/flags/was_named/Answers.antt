use Rattle.swift_explorer.proofs.Prelude.{◌<◌, ℕ, subst, sym, names}
use Rattle.swift_explorer.proofs.FlagsRead.{any_event}
use Rattle.swift_explorer.proofs.flags.was_named.Goals as goal

pub returns-then-names : goal.returns-then-names
returns-then-names c = λ _. any_event (names c.args.named) c.args.log.now.events c.loop-place.place c.event.result (subst (λ (n : ℕ). c.loop-place.place < n) c.len-place-end.ensures.len c.loop-place-test.true) c.event.ensures (sym c.if-names.ensures)
