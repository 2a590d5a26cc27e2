use Rattle.swift_turn.specs.Body.{PhaseView, entered}

-- a turn was entered, and was not polled
abbrev pub IsEntered : PhaseView → Type 0
IsEntered (entered fields resume env) = Unit {0}
IsEntered _ = ⊥
