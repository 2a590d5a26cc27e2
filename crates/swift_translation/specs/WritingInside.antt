-- What is written. No public clause names it. (Own.)
use Rattle.std.specs.Prelude.{◌≡◌, ◌++◌, ℕ, List, IsFalse}
use Rattle.swift_translation.specs.Bodies.{Progress}
use Rattle.swift_translation.specs.declared.body.Body.{Body}
use Rattle.swift_translation.specs.declared.writer.Writer.{Writer}

-- These bytes are put after what is written, unless memory runs out or a rule is broken; then the writer says so from there on.
abbrev pub GoesOn : Writer → Writer → List ℕ → Type 0
GoesOn before after bytes = IsFalse after.is_partial → IsFalse before.is_partial × (after.text.items ≡ before.text.items ++ bytes)

-- how far a body is written
abbrev pub progress_of : Body → Progress
progress_of b = record { callers = b.callers.items; blocks = b.blocks.items; serial = b.serial }
