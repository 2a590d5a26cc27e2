-- A turn that stands at one standing stands at another that differs only in which turns under way have begun, and in which environments.
use Rattle.swift_reordering.proofs.Prelude.{◌≡◌, ◌⊎◌, ℕ, ℤ, List, refl, sym, ◌∙◌, ap, ap₂, subst, subst₂, Bool, true, inl, inr, Option, Some, AllByRecursion, Priority, Env, ScriptView, FrameView, EffectView, ExitView, Played, Advanced, advanced, RecordView, turn_of, IsAfter, IsLawfulRecord, JobStage, Begun, Counters, counters, fits_turn, JobFacts, WaitingTaskView, TurnEnd, turn_end, Standing, with_jobs, taken, begun_priority, left_as, turn_applied, TurnStands, RecordStands, applied_is, AreInPlace, frame_looks_away, AreClose, stage_at}
use Rattle.swift_reordering.proofs.Near.{blurs, blurs_sight, near_current}
use Rattle.swift_reordering.proofs.SeenFits.{seen_fits, seen_counters}
use Rattle.swift_reordering.proofs.NearEnds.{AreJoint, near_end}
use Rattle.swift_reordering.proofs.SeenEnds.{TakesNone}
use Rattle.swift_reordering.proofs.Playing.{same_turn}

-- a turn of a frame looks away in two environments: at whether the task is cancelled it looks only where both say the same
pub record LooksAwayIn (script : ScriptView) (p : FrameView) (env other : Env) : Type 0 where
  pub cancelled : Bool
  pub away : frame_looks_away script cancelled p ≡ true
  pub told : cancelled ≡ true → env.cancelled ≡ other.cancelled

-- What is asked of the environment in which a turn has begun at the other standing: it has the same room, and it is the same where the turn
-- looks at it.
pub record MayPlayIn (script : ScriptView) (p : FrameView) (env other : Env) : Type 0 where
  pub room : env.room ≡ other.room
  pub same : (env ≡ other) ⊎ LooksAwayIn script p env other

pub in_own : (script : ScriptView) (p : FrameView) (env : Env) → MayPlayIn script p env env
in_own script p env = record { room = refl; same = inl refl }

owns_are : (o u : Option JobStage) (env other : Env) (effects : List EffectView) → o ≡ Some (Begun env) → u ≡ Some (Begun other) → (env ≡ other) ⊎ AllByRecursion TakesNone effects
    → (begun_priority o ≡ begun_priority u) ⊎ AllByRecursion TakesNone effects
owns_are o u env other effects one two (inl same) = inl (ap begun_priority one ∙ ap (λ (e : Env). e.priority) same ∙ ap begun_priority (sym two))
owns_are o u env other effects one two (inr none) = inr none

module _ (script : ScriptView) (s z : Standing) (close : AreClose s z) where
  pub turn_stands_too : AreInPlace s.log → AreInPlace z.log → (executor t n : ℕ) (effects : List EffectView) (exit : ExitView) (job : JobFacts) (env other : Env) (frame : FrameView) → stage_at z.log t ≡ Some (Begun other) → env.room ≡ other.room
      → TurnStands script s executor t n effects exit job env frame → TurnStands script z executor t n effects exit job other frame
  turn_stands_too new_s new_z executor t n effects exit job env other frame has_begun room stands = record {
    given = ap (λ (f : ℕ → Option JobFacts). f t) (sym close.jobs) ∙ stands.given;
    number = stands.number;
    current = sym (near_current s.log z.log close.near new_s new_z t n job.resume) ∙ stands.current;
    has_begun = has_begun;
    fits = sym (seen_fits blurs blurs_sight s.log z.log close.near script t effects (counters t s.log env.room) exit
        ∙ ap (λ (c : Counters). fits_turn script t z.log c effects exit) (seen_counters blurs blurs_sight s.log z.log close.near script t env.room ∙ ap (counters t z.log) room)) ∙ stands.fits;
    runs = stands.runs;
    on = stands.on;
  }

  -- what the turn leaves
  pub record AppliedClose (x y : Standing) : Type 0 where
    pub joint : AreJoint s.log z.log x.log y.log
    pub held : x.held ≡ y.held
    pub jobs : x.jobs ≡ y.jobs

  pub applied_close : (executor t n : ℕ) (effects : List EffectView) (exit : ExitView) (after : Option FrameView) (job : JobFacts) (env other : Env) (frame : FrameView) → stage_at z.log t ≡ Some (Begun other)
      → (env ≡ other) ⊎ AllByRecursion TakesNone effects → TurnStands script s executor t n effects exit job env frame
      → AreInPlace (turn_applied script s t n effects exit after).log → AreInPlace (turn_applied script z t n effects exit after).log
      → AppliedClose (turn_applied script s t n effects exit after) (turn_applied script z t n effects exit after)
  applied_close executor t n effects exit after job env other frame has_begun free stands new_s new_z =
      let callers : List FrameView = stands.runs.0 in
      let adv : Advanced = advanced script (left_as frame effects after) callers job.frames.outer exit in
      let is_s = applied_is script s t n job frame callers effects exit after stands.given stands.runs.1 in
      let is_z = applied_is script z t n job frame callers effects exit after (ap (λ (f : ℕ → Option JobFacts). f t) (sym close.jobs) ∙ stands.given) stands.runs.1 in
      let own_s : Priority = begun_priority (stage_at s.log t) in
      let own_z : Priority = begun_priority (stage_at z.log t) in
      let owns : (own_s ≡ own_z) ⊎ AllByRecursion TakesNone effects = owns_are (stage_at s.log t) (stage_at z.log t) env other effects stands.has_begun has_begun free in
      let end_z : List (Option WaitingTaskView) → TurnEnd = λ held. turn_end script z.log held t n own_z effects exit adv in
      let same : end_z s.held ≡ end_z z.held = ap end_z close.held in
      let e = near_end s.log z.log close.near script s.held t n own_s own_z effects exit adv owns (subst (λ (x : Standing). AreInPlace x.log) is_s new_s)
      (subst (λ (x : TurnEnd). AreInPlace x.log) (sym same) (subst (λ (x : Standing). AreInPlace x.log) is_z new_z)) in
      subst₂ AppliedClose (sym is_s) (sym is_z) (record {
        joint = subst (λ (x : TurnEnd). AreJoint s.log z.log (turn_end script s.log s.held t n own_s effects exit adv).log x.log) same e.joint;
        held = e.held ∙ ap (λ (x : TurnEnd). x.held) same;
        jobs = ap₂ (λ (js : List JobFacts) (f : ℕ → Option JobFacts). with_jobs js (taken t f)) (e.jobs ∙ ap (λ (x : TurnEnd). x.jobs) same) close.jobs;
      })

-- a record

module _ (script : ScriptView) (fields : List (List ℤ)) (r : RecordView) (other : Env) (may : MayPlayIn script r.frame r.env other) where
  play_by : (r.env ≡ other) ⊎ LooksAwayIn script r.frame r.env other → turn_of script fields r ≡ turn_of script fields (record r { env = other })
  play_by (inl same) = ap (λ (e : Env). turn_of script fields (record r { env = e })) same
  play_by (inr x) = (same_turn script x.cancelled r.frame r.outer fields r.resume r.env other x.away may.room x.told).0

  pub same_play : turn_of script fields r ≡ turn_of script fields (record r { env = other })
  same_play = play_by may.same

  pub same_record : IsLawfulRecord script fields r → IsLawfulRecord script fields (record r { env = other })
  same_record lawful = record {
    exit = lawful.exit ∙ ap (λ (k : Played). k.exit) same_play;
    effects = lawful.effects ∙ ap (λ (k : Played). k.state.effects) same_play;
    after = subst (λ (k : Played). IsAfter script r.frame.method k.state r.exit r.after) same_play lawful.after;
  }

  free_by : (r.env ≡ other) ⊎ LooksAwayIn script r.frame r.env other → IsLawfulRecord script fields r → (r.env ≡ other) ⊎ AllByRecursion TakesNone r.effects
  free_by (inl same) lawful = inl same
  free_by (inr x) lawful = inr (subst (AllByRecursion TakesNone) (sym lawful.effects) (same_turn script x.cancelled r.frame r.outer fields r.resume r.env other x.away may.room x.told).1)

  pub takes_none : IsLawfulRecord script fields r → (r.env ≡ other) ⊎ AllByRecursion TakesNone r.effects
  takes_none lawful = free_by may.same lawful

pub record_stands_too : (script : ScriptView) (s z : Standing) → AreClose s z → AreInPlace s.log → AreInPlace z.log → (fields : List (List ℤ)) (executor : ℕ) (r : RecordView) (other : Env) → MayPlayIn script r.frame r.env other → stage_at z.log r.task ≡ Some (Begun other)
    → RecordStands script s fields executor r → RecordStands script z fields executor (record r { env = other })
record_stands_too script s z close new_s new_z fields executor r other may has_begun stands = record {
  job = stands.job;
  stands = turn_stands_too script s z close new_s new_z executor r.task r.number r.effects r.exit stands.job r.env other r.frame has_begun may.room stands.stands;
  resume = stands.resume;
  outer = stands.outer;
  lawful = same_record script fields r other may stands.lawful;
}
