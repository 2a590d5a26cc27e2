-- Laws of task locals (SE-0311): which bindings a turn of a legal report finds, and which of them a read gives.
use Rattle.std.specs.Prelude.{◌≡◌, ◌⊎◌, ℕ, zero, suc, ℤ, false, Option, None, Some, List, [], ◌∷◌, ◌++◌, unwrap_or}
use Rattle.swift_types.specs.declared.limits.TheConstants.{STEPS}
use Rattle.swift_types.specs.declared.priority.Priority.{Priority}
use Rattle.swift_locals.specs.Bindings.{value_of}
use Rattle.script_code.specs.Tree.{local}
use Rattle.script_code.specs.Value.{ev}
use Rattle.script_code.specs.Instructions.{first}
use Rattle.swift_script.specs.Scripts.{ScriptView, root_count}
use Rattle.swift_interpreter.specs.Frames.{FrameView}
use Rattle.swift_interpreter.specs.Turn.{EffectView, spawning, detaching, adding, TurnStateView, TurnInputView, AfterStatement, goes, leaves, scene, act, settled, taken}
use Rattle.swift_turn.specs.Body.{state_at}
use Rattle.swift_journal.specs.Records.{RecordView}
use Rattle.swift_history.specs.Replay.{IsLawfulRecord}
use Rattle.swift_events.specs.declared.event.Event.{Event}
use Rattle.swift_events.specs.declared.event.Event.TheVariants.{Apply}
use Rattle.swift_events.specs.Events.{tasks_of}
use Rattle.swift_events.specs.Lives.{life_of}
use Rattle.swift_history.specs.TurnEnds.{task, is_left_out, effect_events, JobFacts}
use Rattle.swift_history.specs.Histories.{Block, added, begun, ran, folded, Standing, after_blocks, at_first, begun_priority, IsLegal, ReportView}
use Rattle.swift_laws.specs.Laws.{IsRecord}

-- An effect of a task, at its place in the log, makes this task with these bindings: with those that stood at the statement where
-- the task is spawned or is a child, and with none where it is detached.
abbrev pub Makes : ScriptView → ℕ → List Event → EffectView → ℕ → List (ℕ × ℤ) → Type 0
Makes script by log (spawning i p bindings) t with_these = (t ≡ tasks_of (root_count script) log) × (with_these ≡ bindings)
Makes script by log (detaching i p) t with_these = (t ≡ tasks_of (root_count script) log) × (with_these ≡ [])
Makes script by log (adding g unless i p bindings) t with_these =
    (is_left_out by g unless log ≡ false) × (t ≡ tasks_of (root_count script) log) × (with_these ≡ bindings)
Makes script by log _ t with_these = ⊥

-- one of the effects of a turn does, each at its place in the log
abbrev pub OneMakes : ScriptView → ℕ → Priority → List Event → List EffectView → ℕ → List (ℕ × ℤ) → Type 0
OneMakes script by own log [] t with_these = ⊥
OneMakes script by own log (e ∷ es) t with_these =
    Makes script by log e t with_these ⊎ OneMakes script by own (log ++ effect_events (root_count script) by own log e) es t with_these

-- one of those of a turn that is applied
abbrev pub TurnMakes : ScriptView → Standing → ℕ → ℕ → List EffectView → ℕ → List (ℕ × ℤ) → Type 0
TurnMakes script s by n effects t with_these =
    OneMakes script by (begun_priority (life_of by s.log).stage) (s.log ++ Apply (task by) n ∷ []) effects t with_these

-- a block does: a root is added with none, and other tasks are made by effects of turns
abbrev pub BlockMakes : ScriptView → Standing → Block → ℕ → List (ℕ × ℤ) → Type 0
BlockMakes script s (added r) t with_these = (t ≡ r) × (with_these ≡ [])
BlockMakes script s (begun u n env) t with_these = ⊥
BlockMakes script s (ran e r) t with_these = TurnMakes script s r.task r.number r.effects t with_these
BlockMakes script s (folded e f) t with_these = TurnMakes script s f.task f.number f.effects t with_these

-- one of these blocks has made the task with these bindings
pub record IsMadeWith (script : ScriptView) (blocks : List Block) (t : ℕ) (bindings : List (ℕ × ℤ)) : Type 0 where
  pub before : List Block
  pub block : Block
  pub after : List Block
  pub parts : blocks ≡ before ++ block ∷ after
  pub makes : BlockMakes script (after_blocks script (at_first script) before) block t bindings

-- in a history that made a legal report no two blocks have made one task, and none with two lists of bindings
abbrev pub EachTaskIsMadeOnce : Type 0
EachTaskIsMadeOnce = (script : ScriptView) (report : ReportView) (t : ℕ) (bindings bindings' : List (ℕ × ℤ))
    (legal : IsLegal script report) (m : IsMadeWith script legal.blocks t bindings) (m' : IsMadeWith script legal.blocks t bindings')
    → (m.before ≡ m'.before) × (m.block ≡ m'.block) × (bindings ≡ bindings')

-- the bindings that frames have made, those of the nearest frame first, and then these
abbrev pub bindings_over : List FrameView → List (ℕ × ℤ) → List (ℕ × ℤ)
bindings_over [] made_with = made_with
bindings_over (p ∷ callers) made_with = p.own ++ bindings_over callers made_with

-- A turn finds the bindings of the frames that have called its own, the nearest first, and then those that its task was made
-- with. Whatever the turn does, a read of a task local gives the first binding of it among those of its own frame, and then
-- those; where there is none, its default.
pub record FindsInherited (script : ScriptView) (blocks : List Block) (executor : ℕ) (r : RecordView) : Type 0 where
  pub before : List Block
  pub after : List Block
  pub parts : blocks ≡ before ++ ran executor r ∷ after
  pub job : JobFacts
  pub is_job : (after_blocks script (at_first script) before).jobs r.task ≡ Some job
  pub callers : List FrameView
  pub frames : job.frames.frames ≡ r.frame ∷ callers
  pub made_with : List (ℕ × ℤ)
  pub is_made : IsMadeWith script before r.task made_with
  pub outer : r.outer ≡ bindings_over callers made_with
  pub reads : (s : TurnStateView) (l : ℕ) (default : ℤ) → ev (local l default) (scene (record { outer = r.outer; env = r.env }) s)
      ≡ Some (unwrap_or (value_of (s.own ++ bindings_over callers made_with) l) default)

-- each turn of a legal report does, in each history that made the report
abbrev pub LocalsAreInherited : Type 0
LocalsAreInherited = (script : ScriptView) (report : ReportView) (executor place : ℕ) (r : RecordView) (legal : IsLegal script report)
    → IsRecord report executor place r → FindsInherited script legal.blocks executor r

-- what holds of the state in which a turn goes on, if it does
abbrev pub GoesOn : AfterStatement → (TurnStateView → Type 0) → Type 0
GoesOn (goes s) P = P s
GoesOn (leaves s e) P = ⊥

-- a turn of at most n steps does a statement at this state, once the blocks of `bind` that ended there have ended
abbrev pub Passes : TurnInputView → ℕ → TurnStateView → TurnStateView → Type 0
Passes g zero s at = ⊥
Passes g (suc n) s at =
    (at ≡ settled s.todo s) ⊎ GoesOn (act g (first (settled s.todo s).todo) (settled s.todo s)) (λ s'. Passes g n s' at)

-- the turn of a record does, on these fields
abbrev pub RecordPasses : ScriptView → List (List ℤ) → RecordView → TurnStateView → Type 0
RecordPasses script fields r at =
    let g : TurnInputView = record { outer = r.outer; env = r.env } in
    let s : TurnStateView = state_at script r.frame fields [] r.env.room in
    GoesOn (taken g s.pending (first s.todo) r.resume s) (λ s'. Passes g STEPS s' at)

-- an effect hands on these bindings, if it hands on any
abbrev pub HandsOn : List (ℕ × ℤ) → EffectView → Type 0
HandsOn standing (spawning i p bindings) = bindings ≡ standing
HandsOn standing (adding g unless i p bindings) = bindings ≡ standing
HandsOn standing _ = Unit {0}

-- An effect of a record's turn is that of a statement, which the turn does after the effects before it. It hands on the bindings
-- that the frame has made and that stand there, the innermost first, and then those that the turn found.
pub record IsHandedOn (script : ScriptView) (r : RecordView) (before : List EffectView) (e : EffectView) : Type 0 where
  pub fields : List (List ℤ)
  pub lawful : IsLawfulRecord script fields r
  pub at : TurnStateView
  pub passes : RecordPasses script fields r at
  pub has : at.effects ≡ before
  pub adds : GoesOn (act (record { outer = r.outer; env = r.env }) (first at.todo) at) (λ s. s.effects ≡ before ++ e ∷ [])
  pub hands_on : HandsOn (at.own ++ r.outer) e

-- each effect of each turn of a legal report is
abbrev pub BindingsAreHandedOn : Type 0
BindingsAreHandedOn = (script : ScriptView) (report : ReportView) (executor place : ℕ) (r : RecordView) (before : List EffectView) (e : EffectView)
    (after : List EffectView) → IsLegal script report → IsRecord report executor place r → r.effects ≡ before ++ e ∷ after → IsHandedOn script r before e

-- the first of two values that is there
abbrev pub first_of_two : Option ℤ → Option ℤ → Option ℤ
first_of_two None outer = outer
first_of_two (Some v) outer = Some v

-- A read of a local gives its innermost binding among the frame's own, or else among those that stood when the frame
-- began, or else its default.
abbrev pub ReadsInnermost : Type 0
ReadsInnermost = (g : TurnInputView) (s : TurnStateView) (l : ℕ) (default : ℤ) →
    ev (local l default) (scene g s) ≡ Some (unwrap_or (first_of_two (value_of s.own l) (value_of g.outer l)) default)
