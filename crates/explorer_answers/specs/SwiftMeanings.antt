-- What an outcome of a Swift file's script says of Swift (our own).
use Rattle.std.specs.Prelude.{Bool, true, false, ◌||◌, if◌then◌else◌, List, [], ◌∷◌}
use Rattle.swift_types.specs.declared.outcome.Ending.{Ending}
use Rattle.swift_types.specs.declared.outcome.Ending.TheVariants as ending
use Rattle.swift_types.specs.declared.outcome.Fault.{Fault}
use Rattle.swift_types.specs.declared.outcome.Fault.TheVariants as fault
use Rattle.swift_events.specs.declared.life.Origin.{Origin}
use Rattle.swift_explorer.specs.declared.outcome.RunOutcome.{RunOutcome}
use Rattle.explorer_answers.specs.declared.meaning.SwiftMeaning.{SwiftMeaning}
use Rattle.explorer_answers.specs.declared.meaning.SwiftMeaning.TheVariants as swift

-- A fault ends the process in Swift: an invariant would be false, of which a precondition is a part, or a value is out of its range.
abbrev pub is_trap : Fault → Bool
is_trap fault.Invariant = true
is_trap fault.Overflow = true
is_trap _ = false

-- a fault is a limit that Swift does not have
abbrev pub is_limit : Fault → Bool
is_limit fault.Steps = true
is_limit fault.Turns = true
is_limit fault.Depth = true
is_limit fault.Tasks = true
is_limit _ = false

-- a task was ended by what ends the process in Swift
abbrev pub stops : Ending → Bool
stops (ending.Value v) = false
stops (ending.Fault f) = is_trap f

-- a task was ended by a limit that Swift does not have
abbrev pub meets_limit : Ending → Bool
meets_limit (ending.Value v) = false
meets_limit (ending.Fault f) = is_limit f

-- some task was ended by what ends the process
abbrev pub ends_process : List (Origin × Ending) → Bool
ends_process [] = false
ends_process (e ∷ es) = stops e.1 || ends_process es

-- some task was ended by a limit
abbrev pub at_limit : List (Origin × Ending) → Bool
at_limit [] = false
at_limit (e ∷ es) = meets_limit e.1 || at_limit es

-- What an outcome says of Swift: where a task was ended by what ends the process, that it ends before; else, where one was ended by a
-- limit, that it may spin; else that the program may end so.
abbrev pub meaning : RunOutcome → SwiftMeaning
meaning o = if ends_process o.endings.items then swift.EndsProcess else (if at_limit o.endings.items then swift.MaySpin else swift.Outcome)

-- two meanings are one
abbrev pub same : SwiftMeaning → SwiftMeaning → Bool
same swift.Outcome swift.Outcome = true
same swift.EndsProcess swift.EndsProcess = true
same swift.MaySpin swift.MaySpin = true
same _ _ = false

-- the program may end so in Swift
abbrev pub is_outcome : RunOutcome → Bool
is_outcome o = same (meaning o) swift.Outcome
