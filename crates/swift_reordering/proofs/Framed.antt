-- Each job of a history has a frame that runs, so it is of an executor of the script.
use Rattle.swift_reordering.proofs.Prelude.{◌≡◌, ℕ, ℤ, ◌<◌, List, [], ◌∷◌, ◌++◌, length, refl, sym, ◌∙◌, subst, Bool, true, false, Option, Some, nat_lt, if◌then◌else◌, AllByRecursion, none-some, Env, FRAMES, Priority, ScriptView, root_count, actor_executor, method_actor, FrameView, InvocationView, EffectView, spawning, detaching, opening, adding, cancelling_task, cancelling_group, ExitView, calling, waiting, asking_next, closing, yielding, returning, failing, TaskView, Advanced, advanced, called, HasFrames, CheckpointView, Event, Apply, JobFacts, WaitingTaskView, TurnEnd, task, root_job, effect_events, effect_jobs, is_left_out, jobs_made, turn_end, Block, added, begun, ran, folded, Standing, at_first, after_block, after_blocks, taken, begun_priority, left_as, turn_applied, TurnStands, Stands, job_executor, frames_executor, after_push, all_append, applied_is, stage_at}
use Rattle.swift_laws.proofs.HistoriesApplied.{some_root}
use Rattle.swift_laws.proofs.HistoriesFrames.{JobHas, HeldHave, JobsHave, turn_has, taken_jobs_have, with_jobs_have}
use Rattle.swift_laws.proofs.HistoriesTurns.{none_in}
use Rattle.swift_reordering.proofs.Walks.{IsCourse, along}

abbrev pub Framed : ℕ → TaskView → Type 0
Framed t v = HasFrames v.frames

effect_framed : (script : ScriptView) (t : ℕ) (log : List Event) (e : EffectView) → AllByRecursion (JobHas Framed) (effect_jobs script t log e)
effect_framed script t log (spawning i p bindings) = (tt, tt)
effect_framed script t log (detaching i p) = (tt, tt)
effect_framed script t log opening = tt
effect_framed script t log (adding g unless i p bindings) = added_framed (is_left_out t g unless log) _ tt where
  added_framed : (b : Bool) (j : JobFacts) → JobHas Framed j → AllByRecursion (JobHas Framed) (if b then [] else j ∷ [])
  added_framed true j is = tt
  added_framed false j is = (is, tt)
effect_framed script t log (cancelling_task name) = tt
effect_framed script t log (cancelling_group g) = tt

made_framed : (script : ScriptView) (t : ℕ) (own : Priority) (es : List EffectView) (log : List Event) → AllByRecursion (JobHas Framed) (jobs_made script t own log es)
made_framed script t own [] log = tt
made_framed script t own (e ∷ es) log =
    all_append (JobHas Framed) (effect_jobs script t log e) _ (effect_framed script t log e) (made_framed script t own es (log ++ effect_events (root_count script) t own log e))

-- After an exit the task has a frame, or it has ended, and then its frames do not matter.
record GoesOnFramed (script : ScriptView) (exit : ExitView) (after : Advanced) : Type 0 where
  task : TaskView
  framed : HasFrames task.frames
  same : (log : List Event) (held : List (Option WaitingTaskView)) (t n : ℕ) (own : Priority) (effects : List EffectView)
      → turn_end script log held t n own effects exit (record after { task = task }) ≡ turn_end script log held t n own effects exit after

in_itself : (script : ScriptView) (exit : ExitView) (after : Advanced) → HasFrames after.task.frames → GoesOnFramed script exit after
in_itself script exit after framed = record { task = after.task; framed = framed; same = λ log held t n own effects. refl }

called_framed : (script : ScriptView) (p : FrameView) (callers : List FrameView) (outer : List (ℕ × ℤ)) (c : InvocationView) (b : Bool) → nat_lt (length (p ∷ callers)) FRAMES ≡ b → HasFrames (called script p callers outer c).task.frames
called_framed script p callers outer c true is = rw is tt
called_framed script p callers outer c false is = rw is tt

advanced_framed : (script : ScriptView) (p : FrameView) (callers : List FrameView) (outer : List (ℕ × ℤ)) (exit : ExitView) → GoesOnFramed script exit (advanced script p callers outer exit)
advanced_framed script p callers outer (calling c) = in_itself script (calling c) (called script p callers outer c) (called_framed script p callers outer c (nat_lt (length (p ∷ callers)) FRAMES) refl)
advanced_framed script p callers outer (waiting t) = in_itself script (waiting t) _ tt
advanced_framed script p callers outer (asking_next g) = in_itself script (asking_next g) _ tt
advanced_framed script p callers outer (closing g f) = in_itself script (closing g f) _ tt
advanced_framed script p callers outer yielding = in_itself script yielding _ tt
advanced_framed script p (q ∷ callers) outer (returning v) = in_itself script (returning v) _ tt
advanced_framed script p (q ∷ callers) outer (failing f) = in_itself script (failing f) _ tt
advanced_framed script p [] outer _ = record { task = record { frames = p ∷ []; outer = outer }; framed = tt; same = λ log held t n own effects. refl }

-- blocks

pub record AllFramed (s : Standing) : Type 0 where
  pub jobs : JobsHave Framed s.jobs
  pub held : HeldHave Framed s.held

turn_framed : (script : ScriptView) (s : Standing) (e t n : ℕ) (effects : List EffectView) (exit : ExitView) (after : Option FrameView) (job : JobFacts) (env : Env) (frame : FrameView) → TurnStands script s e t n effects exit job env frame
    → AllFramed s → AllFramed (turn_applied script s t n effects exit after)
turn_framed script s e t n effects exit after job env frame stands all =
    let own = begun_priority (stage_at s.log t) in
    let p = left_as frame effects after in
    let callers = stands.runs.0 in
    let adv : Advanced = advanced script p callers job.frames.outer exit in
    let on = advanced_framed script p callers job.frames.outer exit in
    let end_of : Advanced → TurnEnd = λ a. turn_end script s.log s.held t n own effects exit a in
    let has = turn_has Framed script s.log s.held t n own effects exit (record adv { task = on.task }) all.held (made_framed script t own effects (s.log ++ Apply (task t) n ∷ [])) on.framed in
    let same : end_of (record adv { task = on.task }) ≡ end_of adv = on.same s.log s.held t n own effects in
    let now : HeldHave Framed (end_of adv).held × AllByRecursion (JobHas Framed) (end_of adv).jobs = subst (λ (x : TurnEnd). HeldHave Framed x.held × AllByRecursion (JobHas Framed) x.jobs) same has in
    subst AllFramed (sym (applied_is script s t n job frame callers effects exit after stands.given stands.runs.1))
    (record { jobs = with_jobs_have Framed _ (taken t s.jobs) now.1 (taken_jobs_have Framed t s.jobs all.jobs); held = now.0 })

module _ (script : ScriptView) (cps : List CheckpointView) where
  block_framed : (before : List Block) (b : Block) → Stands script cps before b → AllFramed (after_blocks script (at_first script) before) → AllFramed (after_block script (after_blocks script (at_first script) before) b)
  block_framed before (added r) stands all = record { jobs = with_jobs_have Framed (root_job script r ∷ []) (after_blocks script (at_first script) before).jobs (tt, tt) all.jobs; held = all.held }
  block_framed before (begun t n env) stands all = record { jobs = all.jobs; held = all.held }
  block_framed before (ran e r) stands all = turn_framed script (after_blocks script (at_first script) before) e r.task r.number r.effects r.exit r.after stands.job r.env r.frame stands.stands all
  block_framed before (folded e f) stands all = turn_framed script (after_blocks script (at_first script) before) e f.task f.number f.effects f.exit f.after stands.0.job stands.0.env stands.0.frame stands.0.stands all

  pub all_framed : (bs : List Block) → IsCourse script cps bs → AllFramed (after_blocks script (at_first script) bs)
  all_framed bs course =
      along script cps (λ (xs : List Block). AllFramed (after_blocks script (at_first script) xs))
      (λ before b course stands orderly all. subst AllFramed (sym (after_push script (at_first script) before b)) (block_framed before b stands all))
      (record { jobs = λ u j at. absurd (none-some j at); held = λ u h at. absurd (none-some h (sym (none_in (root_count script) u) ∙ at)) })
      bs course

  -- a history with a block has a root
  pub has_root : (before : List Block) (b : Block) → IsCourse script cps before → Stands script cps before b → 0 < root_count script
  has_root [] b course stands = some_root script cps b stands
  has_root (c ∷ before) b course stands = some_root script cps c course.stand.0

-- the executor of a job that has a frame
pub seat_of : (script : ScriptView) (j : JobFacts) → HasFrames j.frames.frames → (p : FrameView) × (job_executor script (Some j) ≡ Some (actor_executor script (method_actor script p.method)))
seat_of script j has = seat_by script j.frames.frames has where
  seat_by : (script : ScriptView) (fs : List FrameView) → HasFrames fs → (p : FrameView) × (frames_executor script fs ≡ Some (actor_executor script (method_actor script p.method)))
  seat_by script [] has = absurd has
  seat_by script (p ∷ callers) has = (p, refl)
