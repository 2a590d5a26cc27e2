-- Which turns only give way (our own).
use Rattle.std.specs.Prelude.{ℕ, Bool, true, false, if◌then◌else◌, not, ◌&&◌, ◌==◌, List, [], ◌∷◌}
use Rattle.swift_types.specs.declared.env.Env.{Env}
use Rattle.swift_types.specs.declared.outcome.Resume.{Resume}
use Rattle.swift_types.specs.declared.outcome.Resume.TheVariants.{Go}
use Rattle.swift_types.specs.Priority.{rank}
use Rattle.swift_journal.specs.declared.brief.BriefExit.{BriefExit}
use Rattle.swift_journal.specs.declared.brief.BriefExit.TheVariants.{Yield}
use Rattle.swift_events.specs.declared.event.Event.{Event}
use Rattle.swift_events.specs.declared.event.Event.TheVariants.{Root, Begin, Apply, Give}
use Rattle.run_pictures.specs.declared.picture.boxes.TurnBox.{TurnBox}
use Rattle.run_pictures.specs.declared.values.change.Change.{Change}

-- whether an event begins a block of the log
abbrev pub begins_block : Event → Bool
begins_block (Root t p) = true
begins_block (Begin t n env) = true
begins_block (Apply t n) = true
begins_block _ = false

-- whether an event makes the next job of this task
abbrev pub goes_on : ℕ → Event → Bool
goes_on t (Give of n resume) = of.0 == t
goes_on t _ = false

-- whether these events, up to the next block, make jobs of this task alone
abbrev pub only_goes_on : ℕ → List Event → Bool
only_goes_on t [] = true
only_goes_on t (e ∷ es) = if begins_block e then true else (if goes_on t e then only_goes_on t es else false)

abbrev pub is_go : Resume → Bool
is_go Go = true
is_go _ = false

abbrev pub is_yield : BriefExit → Bool
is_yield Yield = true
is_yield _ = false

-- the same priority, and cancelled in both or in neither
abbrev pub is_same_env : Env → Env → Bool
is_same_env one two = (rank one.priority == rank two.priority) && (if one.cancelled then two.cancelled else not two.cancelled)

abbrev pub has_none : List Change → Bool
has_none [] = true
has_none (c ∷ cs) = false

-- A turn only gives way: it went on after giving way, gave way again, was given what its task's turn before was given, changed no field,
-- and these events, which follow its end in the log, say nothing of it but that its task goes on.
abbrev pub gives_way : TurnBox → TurnBox → List Change → List Event → Bool
gives_way turn before changes says =
    (is_go turn.resume && is_yield turn.exit) && (is_same_env before.env turn.env && (has_none changes && only_goes_on turn.task.0 says))
