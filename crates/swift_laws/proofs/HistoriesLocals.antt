-- In each history, the bindings that stand below the frame of a task are those of its callers, and then those that the task was
-- made with.
use Rattle.swift_laws.proofs.Prelude.{◌≡◌, ℕ, ℤ, List, [], ◌∷◌, ◌++◌, length, drop, refl, sym, ◌∙◌, ap, Bool, true, false, inl, inr, subst, append_assoc, nat_lt, Option, Some, if◌then◌else◌, unwrap_or, AllByRecursion, none-some, append-nil, FRAMES, Ending, Resume, Priority, value_of, Env, ScriptView, root_count, FrameView, InvocationView, EffectView, spawning, detaching, adding, ExitView, calling, returning, failing, TaskView, Advanced, advanced, resumed, callers_of, RecordView, CheckpointView, Event, Apply, tasks_of, life_of, task, JobFacts, first_job, effect_events, effect_jobs, is_left_out, jobs_made, root_job, Block, added, begun, ran, folded, Standing, Stands, AllStand, TurnStands, IsLegal, ReportView, after_block, after_blocks, at_first, taken, left_as, begun_priority, turn_applied, IsRecord, OneMakes, BlockMakes, IsMadeWith, bindings_over, FindsInherited}
use Rattle.std.proofs.Math.Seq.{drop-append_seam}
use Rattle.swift_laws.proofs.HistoriesTurns.{all_map, all_append, none_in, applied_is, after_push}
use Rattle.swift_laws.proofs.HistoriesFrames.{JobHas, HeldHave, JobsHave, turn_has, taken_jobs_have, with_jobs_have}
use Rattle.swift_laws.proofs.HistoriesSplit.{at_record}

-- the bindings below a task's frame
pub record Inherits (script : ScriptView) (blocks : List Block) (t : ℕ) (v : TaskView) : Type 0 where
  pub made_with : List (ℕ × ℤ)
  pub is_made : IsMadeWith script blocks t made_with
  pub outer : v.outer ≡ bindings_over (callers_of v.frames) made_with

made_more : (script : ScriptView) (blocks : List Block) (b : Block) (t : ℕ) (bindings : List (ℕ × ℤ)) → IsMadeWith script blocks t bindings → IsMadeWith script (blocks ++ b ∷ []) t bindings
made_more script blocks b t bindings m = record {
  before = m.before;
  block = m.block;
  after = m.after ++ b ∷ [];
  parts = ap (λ (xs : List Block). xs ++ b ∷ []) m.parts ∙ append_assoc m.before (m.block ∷ m.after) (b ∷ []);
  makes = m.makes;
}

inherits_more : (script : ScriptView) (blocks : List Block) (b : Block) (t : ℕ) (v : TaskView) → Inherits script blocks t v → Inherits script (blocks ++ b ∷ []) t v
inherits_more script blocks b t v i = record { made_with = i.made_with; is_made = made_more script blocks b t i.made_with i.is_made; outer = i.outer }

made_now : (script : ScriptView) (blocks : List Block) (b : Block) (t : ℕ) (bindings : List (ℕ × ℤ)) → BlockMakes script (after_blocks script (at_first script) blocks) b t bindings → IsMadeWith script (blocks ++ b ∷ []) t bindings
made_now script blocks b t bindings makes = record { before = blocks; block = b; after = []; parts = refl; makes = makes }

-- the exit of a turn

resumed_outer : (script : ScriptView) (p : FrameView) (callers : List FrameView) (outer base : List (ℕ × ℤ)) (resume : Resume) (ending : Ending) → outer ≡ bindings_over callers base
    → (let a = resumed script p callers outer resume ending in a.task.outer ≡ bindings_over (callers_of a.task.frames) base)
resumed_outer script p [] outer base resume ending is = is
resumed_outer script p (q ∷ callers) outer base resume ending is = ap (drop (length q.own)) is ∙ drop-append_seam q.own (bindings_over callers base)

either_outer : (b : Bool) (x y : Advanced) (base : List (ℕ × ℤ)) → x.task.outer ≡ bindings_over (callers_of x.task.frames) base → y.task.outer ≡ bindings_over (callers_of y.task.frames) base
    → (let a = if b then x else y in a.task.outer ≡ bindings_over (callers_of a.task.frames) base)
either_outer true x y base p q = p
either_outer false x y base p q = q

advanced_outer : (script : ScriptView) (p : FrameView) (callers : List FrameView) (outer base : List (ℕ × ℤ)) (exit : ExitView) → outer ≡ bindings_over callers base
    → (let a = advanced script p callers outer exit in a.task.outer ≡ bindings_over (callers_of a.task.frames) base)
advanced_outer script p callers outer base (calling c) is = either_outer (nat_lt (length (p ∷ callers)) FRAMES) _ _ base (ap (λ (xs : List (ℕ × ℤ)). p.own ++ xs) is) is
advanced_outer script p callers outer base (returning v) is = resumed_outer script p callers outer base _ _ is
advanced_outer script p callers outer base (failing f) is = resumed_outer script p callers outer base _ _ is
advanced_outer script p callers outer base _ is = is

-- the jobs of the tasks that effects make

record IsFirst (script : ScriptView) (by : ℕ) (own : Priority) (log : List Event) (es : List EffectView) (j : JobFacts) : Type 0 where
  made_with : List (ℕ × ℤ)
  makes : OneMakes script by own log es j.task made_with
  outer : j.frames.outer ≡ bindings_over (callers_of j.frames.frames) made_with

left_out_first : (script : ScriptView) (by : ℕ) (own : Priority) (log : List Event) (g : ℕ) (unless : Bool) (i : InvocationView) (p : Option Priority) (bindings : List (ℕ × ℤ)) (es : List EffectView) (b : Bool) → is_left_out by g unless log ≡ b
    → AllByRecursion (IsFirst script by own log (adding g unless i p bindings ∷ es)) (if b then [] else first_job script (tasks_of (root_count script) log) i.method i.args bindings ∷ [])
left_out_first script by own log g unless i p bindings es true is = tt
left_out_first script by own log g unless i p bindings es false is = (record { made_with = bindings; makes = inl (is, refl, refl); outer = refl }, tt)

first_made : (script : ScriptView) (by : ℕ) (own : Priority) (log : List Event) (e : EffectView) (es : List EffectView) → AllByRecursion (IsFirst script by own log (e ∷ es)) (effect_jobs script by log e)
first_made script by own log (spawning i p bindings) es = (record { made_with = bindings; makes = inl (refl, refl); outer = refl }, tt)
first_made script by own log (detaching i p) es = (record { made_with = []; makes = inl (refl, refl); outer = refl }, tt)
first_made script by own log (adding g unless i p bindings) es = left_out_first script by own log g unless i p bindings es (is_left_out by g unless log) refl
first_made script by own log _ es = tt

all_made : (script : ScriptView) (by : ℕ) (own : Priority) (log : List Event) (es : List EffectView) → AllByRecursion (IsFirst script by own log es) (jobs_made script by own log es)
all_made script by own log [] = tt
all_made script by own log (e ∷ es) =
    let log' = log ++ effect_events (root_count script) by own log e in
    all_append (IsFirst script by own log (e ∷ es)) (effect_jobs script by log e) (jobs_made script by own log' es) (first_made script by own log e es)
    (all_map (λ j f. record { made_with = f.made_with; makes = inr f.makes; outer = f.outer }) (jobs_made script by own log' es) (all_made script by own log' es))

-- blocks

pub record AllInherit (script : ScriptView) (blocks : List Block) (s : Standing) : Type 0 where
  pub jobs : JobsHave (Inherits script blocks) s.jobs
  pub held : HeldHave (Inherits script blocks) s.held

turn_inherits : (script : ScriptView) (blocks : List Block) (b : Block) (e t n : ℕ) (effects : List EffectView) (exit : ExitView) (after : Option FrameView) (job : JobFacts) (env : Env) (frame : FrameView)
    → (let s = after_blocks script (at_first script) blocks in
    TurnStands script s e t n effects exit job env frame
    → ((u : ℕ) (bindings : List (ℕ × ℤ)) → OneMakes script t (begun_priority (life_of t s.log).stage) (s.log ++ Apply (task t) n ∷ []) effects u bindings → BlockMakes script s b u bindings)
    → AllInherit script blocks s → AllInherit script (blocks ++ b ∷ []) (turn_applied script s t n effects exit after))
turn_inherits script blocks b e t n effects exit after job env frame stands makes all =
    let s = after_blocks script (at_first script) blocks in
    let own = begun_priority (life_of t s.log).stage in
    let p = left_as frame effects after in
    let callers = stands.runs.0 in
    let Q = Inherits script (blocks ++ b ∷ []) in
    let i = all.jobs t job stands.given in
    let was : job.frames.outer ≡ bindings_over callers i.made_with = i.outer ∙ ap (λ (fs : List FrameView). bindings_over (callers_of fs) i.made_with) stands.runs.1 in
    let here : Q t (advanced script p callers job.frames.outer exit).task = record {
      made_with = i.made_with;
      is_made = made_more script blocks b t i.made_with i.is_made;
      outer = advanced_outer script p callers job.frames.outer i.made_with exit was;
    } in
    let made : AllByRecursion (JobHas Q) (jobs_made script t own (s.log ++ Apply (task t) n ∷ []) effects) =
    all_map (λ j f. record { made_with = f.made_with; is_made = made_now script blocks b j.task f.made_with (makes j.task f.made_with f.makes); outer = f.outer }) _ (all_made script t own (s.log ++ Apply (task t) n ∷ []) effects) in
    let held : HeldHave Q s.held = λ u h at. inherits_more script blocks b u h.frames (all.held u h at) in
    let jobs : JobsHave Q s.jobs = λ u j at. inherits_more script blocks b u j.frames (all.jobs u j at) in
    let has = turn_has Q script s.log s.held t n own effects exit (advanced script p callers job.frames.outer exit) held made here in
    subst (AllInherit script (blocks ++ b ∷ [])) (sym (applied_is script s t n job frame callers effects exit after stands.given stands.runs.1))
    (record { jobs = with_jobs_have Q _ (taken t s.jobs) has.1 (taken_jobs_have Q t s.jobs jobs); held = has.0 })

block_inherits : (script : ScriptView) (cps : List CheckpointView) (blocks : List Block) (b : Block) → Stands script cps blocks b
    → (let s = after_blocks script (at_first script) blocks in AllInherit script blocks s → AllInherit script (blocks ++ b ∷ []) (after_block script s b))
block_inherits script cps blocks (added r) stands all =
    let Q = Inherits script (blocks ++ added r ∷ []) in
    let s = after_blocks script (at_first script) blocks in
    record {
      jobs = with_jobs_have Q (root_job script r ∷ []) s.jobs (record { made_with = []; is_made = made_now script blocks (added r) r [] (refl, refl); outer = refl }, tt) (λ u j at. inherits_more script blocks (added r) u j.frames (all.jobs u j at));
      held = λ u h at. inherits_more script blocks (added r) u h.frames (all.held u h at);
    }
block_inherits script cps blocks (begun t n env) stands all = record {
  jobs = λ u j at. inherits_more script blocks (begun t n env) u j.frames (all.jobs u j at);
  held = λ u h at. inherits_more script blocks (begun t n env) u h.frames (all.held u h at);
}
block_inherits script cps blocks (ran e r) stands all = turn_inherits script blocks (ran e r) e r.task r.number r.effects r.exit r.after stands.job r.env r.frame stands.stands (λ u bindings m. m) all
block_inherits script cps blocks (folded e f) stands all = turn_inherits script blocks (folded e f) e f.task f.number f.effects f.exit f.after stands.0.job stands.0.env stands.0.frame stands.0.stands (λ u bindings m. m) all

none_inherit : (script : ScriptView) → AllInherit script [] (at_first script)
none_inherit script = record {
  jobs = λ u j at. absurd (none-some j at);
  held = λ u h at. absurd (none-some h (sym (none_in (root_count script) u) ∙ at));
}

inherit_on : (script : ScriptView) (cps : List CheckpointView) (before bs : List Block) → AllStand script cps before bs
    → AllInherit script before (after_blocks script (at_first script) before) → AllInherit script (before ++ bs) (after_blocks script (at_first script) (before ++ bs))
inherit_on script cps before [] all is = subst (λ (xs : List Block). AllInherit script xs (after_blocks script (at_first script) xs)) (sym (append-nil before)) is
inherit_on script cps before (b ∷ bs) all is =
    subst (λ (xs : List Block). AllInherit script xs (after_blocks script (at_first script) xs)) (append_assoc before (b ∷ []) bs)
    (inherit_on script cps (before ++ b ∷ []) bs all.1
    (subst (AllInherit script (before ++ b ∷ [])) (sym (after_push script (at_first script) before b)) (block_inherits script cps before b all.0 is)))

pub finds_inherited : (script : ScriptView) (report : ReportView) (e i : ℕ) (r : RecordView) (legal : IsLegal script report) → IsRecord report e i r → FindsInherited script legal.blocks e r
finds_inherited script report e i r legal is =
    let s = at_record script report legal e i r is in
    let turn = s.stands.stands in
    let h = (inherit_on script report.checkpoints [] s.front s.all_front (none_inherit script)).jobs r.task s.stands.job turn.given in
    let outer : r.outer ≡ bindings_over turn.runs.0 h.made_with = s.stands.outer ∙ h.outer ∙ ap (λ (fs : List FrameView). bindings_over (callers_of fs) h.made_with) turn.runs.1 in
    record {
      before = s.front;
      after = s.back;
      parts = s.parts;
      job = s.stands.job;
      is_job = turn.given;
      callers = turn.runs.0;
      frames = turn.runs.1;
      made_with = h.made_with;
      is_made = h.is_made;
      outer = outer;
      reads = λ x l default. ap (λ (xs : List (ℕ × ℤ)). Some (unwrap_or (value_of (x.own ++ xs) l) default)) outer;
    }
