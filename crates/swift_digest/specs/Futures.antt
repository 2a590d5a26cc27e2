-- Histories that go on in the same ways (our own).
use Rattle.std.specs.Prelude.{◌≡◌, ℕ, List, [], ◌∷◌, ◌++◌}
use Rattle.std.specs.Option.{option_map}
use Rattle.swift_script.specs.Scripts.{ScriptView}
use Rattle.swift_interpreter.specs.Frames.{FrameView}
use Rattle.swift_journal.specs.Checkpoints.{CheckpointView}
use Rattle.swift_history.specs.Histories.{Block, ran, Standing, at_first, after_blocks, Stands, AllStand, fields_of, records_of}
use Rattle.swift_journal.specs.Records.{RecordView}
use Rattle.swift_digest.specs.Digests.{digest_of}
use Rattle.swift_digest.specs.Plans.{plan_of, job_plan, held_plans}

-- Two standings are alike: one digest, and by their plans the same waiting tasks and the same jobs.
pub record AreAlike (script : ScriptView) (s z : Standing) : Type 0 where
  pub digest : digest_of s.log ≡ digest_of z.log
  pub held : held_plans script s.held ≡ held_plans script z.held
  pub jobs : (t : ℕ) → option_map (job_plan script) (s.jobs t) ≡ option_map (job_plan script) (z.jobs t)

-- Two histories lead alike: to alike standings, and to the same fields at each executor. This has a direction: `unused`.
pub record LeadAlike (script : ScriptView) (checkpoints : List CheckpointView) (before others : List Block) : Type 0 where
  pub standing : AreAlike script (after_blocks script (at_first script) before) (after_blocks script (at_first script) others)
  pub fields : (e : ℕ) → fields_of script checkpoints e before ≡ fields_of script checkpoints e others
  -- an executor without a record in the first has none in the second, which may be without records of more: only there may a folded turn
  -- follow
  pub unused : (e : ℕ) → records_of e before ≡ [] → records_of e others ≡ []

-- Two blocks are one but for the frame of a recorded turn, whose plan is one.
abbrev pub IsLike : ScriptView → Block → Block → Type 0
IsLike script (ran e r) c = (q : FrameView) × (plan_of script r.frame ≡ plan_of script q) × (c ≡ ran e (record r { frame = q }))
IsLike script b c = b ≡ c

-- Two lists of blocks are equally long, and at each place their blocks are alike.
abbrev pub AreLike : ScriptView → List Block → List Block → Type 0
AreLike script [] [] = Unit {0}
AreLike script (b ∷ bs) (c ∷ cs) = IsLike script b c × AreLike script bs cs
AreLike script _ _ = ⊥

-- Of two histories that lead alike, each way in which the first goes on is one of the second, up to plans of frames, and they lead
-- alike after it.
abbrev pub SameFutures : Type 0
SameFutures = (script : ScriptView) (checkpoints : List CheckpointView) (before others more : List Block)
    → AllStand script checkpoints [] before → AllStand script checkpoints [] others → LeadAlike script checkpoints before others → AllStand script checkpoints before more
    → (rest : List Block) × AreLike script more rest × AllStand script checkpoints others rest × LeadAlike script checkpoints (before ++ more) (others ++ rest)

-- After one history, any two records of the same task's turn are of one executor, and lead alike.
abbrev pub TurnsAreDetermined : Type 0
TurnsAreDetermined = (script : ScriptView) (checkpoints : List CheckpointView) (before : List Block) (e k : ℕ) (r q : RecordView)
    → AllStand script checkpoints [] before → Stands script checkpoints before (ran e r) → Stands script checkpoints before (ran k q) → r.task ≡ q.task
    → (e ≡ k) × LeadAlike script checkpoints (before ++ ran e r ∷ []) (before ++ ran k q ∷ [])
