-- The bodies of the tasks that a turn makes. No public clause names these.
use Rattle.std.specs.Prelude.{◌≡◌, ◌<◌, Option, Some, None, List, [], ◌∷◌}
use Rattle.swift_script.specs.Scripts.{ScriptView, method_count}
use Rattle.swift_interpreter.specs.Turn.{EffectView, spawning, detaching, adding}
use Rattle.swift_turn.specs.Body.{BodyView, TaskView, idle}
use Rattle.swift_history.specs.TurnEnds.{beginning}

-- the method of a task that is made is one of the script
abbrev pub CanStart : ScriptView → EffectView → Type 0
CanStart script (spawning i p bindings) = i.method < method_count script
CanStart script (detaching i p) = i.method < method_count script
CanStart script (adding g unless i p bindings) = i.method < method_count script
CanStart script _ = Unit {0}

-- the task that an effect makes, before its first turn
abbrev pub task_made : ScriptView → EffectView → Option TaskView
task_made script (spawning i p bindings) = Some (beginning script i.method i.args bindings)
task_made script (detaching i p) = Some (beginning script i.method i.args [])
task_made script (adding g unless i p bindings) = Some (beginning script i.method i.args bindings)
task_made script _ = None

-- a body for that task, where there is one, with no turn under way
abbrev pub IsStarted : ScriptView → Option TaskView → Option BodyView → Type 0
IsStarted script None None = Unit {0}
IsStarted script (Some task) (Some b) = (b.script ≡ script) × (b.task ≡ task) × (b.phase ≡ idle)
IsStarted script _ _ = ⊥

abbrev pub IsBodyOf : ScriptView → EffectView → Option BodyView → Type 0
IsBodyOf script e body = IsStarted script (task_made script e) body

abbrev pub AreBodiesOf : ScriptView → List EffectView → List (Option BodyView) → Type 0
AreBodiesOf script [] [] = Unit {0}
AreBodiesOf script (e ∷ es) (b ∷ bs) = IsBodyOf script e b × AreBodiesOf script es bs
AreBodiesOf script _ _ = ⊥
