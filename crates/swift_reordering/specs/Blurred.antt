-- What histories lead to, but for which turns under way have begun and in which environments (our own).
use Rattle.std.specs.Prelude.{◌≡◌, ℕ, Option, Some, List}
use Rattle.swift_script.specs.Scripts.{ScriptView}
use Rattle.swift_journal.specs.Checkpoints.{CheckpointView}
use Rattle.swift_events.specs.declared.event.Event.{Event}
use Rattle.swift_events.specs.declared.life.JobStage.{JobStage}
use Rattle.swift_events.specs.declared.life.JobStage.TheVariants.{Given, Begun}
use Rattle.swift_events.specs.declared.life.Life.{Life}
use Rattle.swift_events.specs.Lives.{life_of}
use Rattle.swift_history.specs.Histories.{Block, Standing, at_first, after_blocks, fields_of}
use Rattle.swift_digest.specs.Digests.{Digest, digest_of}

-- how far the job of task `u` is
abbrev pub stage_at : List Event → ℕ → Option JobStage
stage_at log u = (life_of u log).stage

-- how far a job is, where a turn that has begun counts as one that was given
abbrev pub blurred_stage : Option JobStage → Option JobStage
blurred_stage (Some (Begun env)) = Some Given
blurred_stage s = s

-- a life with such a stage
abbrev pub blurred_life : Life → Life
blurred_life l = record l { stage = blurred_stage l.stage }

-- a digest with such lives
abbrev pub blurred : Digest → Digest
blurred d = record d { cards = λ t. record (d.cards t) { life = blurred_life (d.cards t).life } }

-- two logs have one digest then
abbrev pub AreNear : List Event → List Event → Type 0
AreNear a b = blurred (digest_of a) ≡ blurred (digest_of b)

-- Two standings are one, but for which turns under way have begun, and in which environments.
pub record AreClose (s z : Standing) : Type 0 where
  pub near : AreNear s.log z.log
  pub held : s.held ≡ z.held
  pub jobs : s.jobs ≡ z.jobs

-- Two histories lead to such standings, and to the same fields at each executor.
pub record LeadClose (script : ScriptView) (checkpoints : List CheckpointView) (before others : List Block) : Type 0 where
  pub standing : AreClose (after_blocks script (at_first script) before) (after_blocks script (at_first script) others)
  pub fields : (e : ℕ) → fields_of script checkpoints e before ≡ fields_of script checkpoints e others
