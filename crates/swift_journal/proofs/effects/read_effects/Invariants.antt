use Rattle.swift_journal.proofs.Prelude.{◌≡◌, ◌++◌, drop, effect_views, effects_of}
use Rattle.swift_journal.proofs.effects.read_effects.Given as goal

abbrev pub invariant-loop-stored : goal.invariant-loop-stored
invariant-loop-stored l = effect_views l.effects.items ++ effects_of (drop l.stored-index l.list) l.rest ≡ effects_of l.list l.words
