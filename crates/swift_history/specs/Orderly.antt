-- Histories whose blocks are in order: roots are added as the text declares them, and turns begin one after the other (our own).
use Rattle.std.specs.Prelude.{◌≡◌, ℕ, zero, suc, ◌<◌, Bool, true, false, is_some, Option, Some, None, List, [], ◌∷◌, ◌++◌}
use Rattle.swift_script.specs.Scripts.{ScriptView, root_count, actor_executor, method_actor}
use Rattle.swift_interpreter.specs.Frames.{FrameView}
use Rattle.swift_events.specs.declared.event.Event.{Event}
use Rattle.swift_events.specs.Lives.{life_of}
use Rattle.swift_history.specs.Checks.{is_begun}
use Rattle.swift_history.specs.TurnEnds.{JobFacts}
use Rattle.swift_history.specs.Histories.{Block, added, begun, at_first, after_blocks, ReportView, IsLegal}

-- each of some blocks is allowed after those before it
abbrev pub AllAllowed : (List Block → Block → Type 0) → List Block → List Block → Type 0
AllAllowed Allowed before [] = Unit {0}
AllAllowed Allowed before (b ∷ bs) = Allowed before b × AllAllowed Allowed (before ++ b ∷ []) bs

-- the executor of the actor whose method runs in these frames; none where there is no frame
abbrev pub frames_executor : ScriptView → List FrameView → Option ℕ
frames_executor script [] = None
frames_executor script (p ∷ callers) = Some (actor_executor script (method_actor script p.method))

-- the executor of a job, where there is one: that of the actor whose method runs
abbrev pub job_executor : ScriptView → Option JobFacts → Option ℕ
job_executor script None = None
job_executor script (Some j) = frames_executor script j.frames.frames

-- A block is in order: roots are added in text order, and a turn begins once each root is there, and only at an executor that has
-- no turn under way. So no turn begins twice.
abbrev pub IsOrderly : ScriptView → List Block → Block → Type 0
IsOrderly script before (added r) =
    let s = after_blocks script (at_first script) before in
    (u : ℕ) → u < r → is_some (life_of u s.log).origin ≡ true
IsOrderly script before (begun t n env) =
    let s = after_blocks script (at_first script) before in
    ((u : ℕ) → u < root_count script → is_some (life_of u s.log).origin ≡ true)
    × ((u : ℕ) → job_executor script (s.jobs u) ≡ job_executor script (s.jobs t) → is_begun (life_of u s.log).stage ≡ false)
IsOrderly script before _ = Unit {0}

-- A legal report, made by a history whose blocks are in order.
pub record IsOrderlyLegal (script : ScriptView) (report : ReportView) : Type 0 where
  pub legal : IsLegal script report
  pub orderly : AllAllowed (IsOrderly script) [] legal.blocks

-- whether the last of the first `n` roots is there; it is where there are none
abbrev pub has_last_of : ℕ → List Event → Bool
has_last_of zero log = true
has_last_of (suc r) log = is_some (life_of r log).origin

-- whether the script's last root is there; where roots are added in order, each of them is then
abbrev pub has_last_root : ScriptView → List Event → Bool
has_last_root script log = has_last_of (root_count script) log
