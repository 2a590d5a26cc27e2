-- The begin of a turn that looks away waits for a block of another task.
use Rattle.swift_reordering.proofs.Prelude.{◌≡◌, ◌≢◌, ℕ, ◌<◌, List, [], ◌∷◌, ◌++◌, refl, sym, ◌∙◌, ap, ap₂, subst, subst₂, true, inl, inr, append_assoc, Option, Some, is_some, cases_Bool, false≢true, Env, ScriptView, root_count, CheckpointView, Life, LastJob, JobStage, Given, Begun, life_of, is_begun, is_under_way, is_current, JobFacts, task, Block, added, begun, ran, folded, Standing, at_first, after_block, after_blocks, Stands, AllStand, AllAllowed, IsOrderly, job_executor, ActorsHaveExecutors, current_is, turn_looks_away, AreClose, LeadClose, stage_at, HasRoom, IsOfOther, BeginsAfter, BeginsMayWait, IsEnv}
use Rattle.swift_reordering.proofs.Near.{near_begin}
use Rattle.swift_reordering.proofs.Turning.{in_own}
use Rattle.swift_reordering.proofs.Walks.{IsCourse, course_push}
use Rattle.swift_reordering.proofs.Seats.{begin_other, begin_same, all_apart}
use Rattle.swift_reordering.proofs.Rooms.{room_free}
use Rattle.swift_reordering.proofs.Keeping.{block_keeps_job}
use Rattle.swift_reordering.proofs.Others.{KeepsJob}
use Rattle.swift_reordering.proofs.Fusing.{ArePutOff, at_push, fields_quiet, late_env, put_off_on, root_on, begin_on, run_on, roots_stay, begun_here}
use Rattle.swift_reordering.proofs.Reports.{few_before}
use Rattle.swift_reordering.proofs.Closed.{stand_after, allowed_after}

-- the front of a history

stand_front : (script : ScriptView) (cps : List CheckpointView) (xs before ys : List Block) → AllStand script cps before (xs ++ ys) → AllStand script cps before xs
stand_front script cps [] before ys all = tt
stand_front script cps (x ∷ xs) before ys all = (all.0, stand_front script cps xs (before ++ x ∷ []) ys all.1)

allowed_front : (Allowed : List Block → Block → Type 0) (xs before ys : List Block) → AllAllowed Allowed before (xs ++ ys) → AllAllowed Allowed before xs
allowed_front Allowed [] before ys all = tt
allowed_front Allowed (x ∷ xs) before ys all = (all.0, allowed_front Allowed xs (before ++ x ∷ []) ys all.1)

pub course_front : (script : ScriptView) (cps : List CheckpointView) (xs ys : List Block) → AllStand script cps [] (xs ++ ys) → AllAllowed (IsOrderly script) [] (xs ++ ys) → IsCourse script cps xs
course_front script cps xs ys stand orderly = record { stand = stand_front script cps xs [] ys stand; orderly = allowed_front (IsOrderly script) xs [] ys orderly }

same_current : (a b : Life) (n : ℕ) (j : JobFacts) → a.stage ≡ b.stage → a.given ≡ b.given → is_current a n j.resume ≡ is_current b n j.resume
same_current a b n j stage given = ap₂ (λ (s : Option JobStage) (g : Option LastJob). is_current (record a { stage = s; given = g }) n j.resume) stage given

module _ (script : ScriptView) (cps : List CheckpointView) (before : List Block) (t n : ℕ) (env : Env) (b : Block) (on : ActorsHaveExecutors script) (stand : AllStand script cps [] (before ++ begun t n env ∷ b ∷ []))
    (orderly : AllAllowed (IsOrderly script) [] (before ++ begun t n env ∷ b ∷ [])) (away : turn_looks_away script (after_blocks script (at_first script) before) t ≡ true) (of_other : IsOfOther t b)
    (room : HasRoom script (before ++ begun t n env ∷ b ∷ [])) where
  -- the task whose begin is put off
  abbrev Mine : ℕ → Type 0
  Mine u = u ≡ t

  abbrev c : Block
  c = begun t n env

  stands_more : AllStand script cps before (c ∷ b ∷ [])
  stands_more = stand_after script cps before [] (c ∷ b ∷ []) stand

  orderly_more : AllAllowed (IsOrderly script) before (c ∷ b ∷ [])
  orderly_more = allowed_after (IsOrderly script) before [] (c ∷ b ∷ []) orderly

  course : IsCourse script cps before
  course = course_front script cps before (c ∷ b ∷ []) stand orderly

  course_c : IsCourse script cps (before ++ c ∷ [])
  course_c = course_push script cps before c course stands_more.0 orderly_more.0

  course_b : IsCourse script cps ((before ++ c ∷ []) ++ b ∷ [])
  course_b = course_push script cps (before ++ c ∷ []) b course_c stands_more.1.0 orderly_more.1.0

  few : HasRoom script before
  few = few_before script cps on before (c ∷ b ∷ []) stands_more room

  few_c : HasRoom script (before ++ c ∷ [])
  few_c = few_before script cps on (before ++ c ∷ []) (b ∷ []) stands_more.1 (subst (HasRoom script) (sym (append_assoc before (c ∷ []) (b ∷ []))) room)

  put_off : ArePutOff script cps Mine (before ++ c ∷ []) before
  put_off =
      let itself : ArePutOff script cps Mine before before = record { course = course; done = refl; close = record { near = refl; held = refl; jobs = refl }; fields = λ e. refl; stages = λ u. inl refl } in
      put_off_on script cps Mine before before itself t n env refl stands_more.0 orderly_more.0 away (stands_more.0.3.room ∙ room_free script cps before course on few t)

  next_by : (x : Block) → Stands script cps (before ++ c ∷ []) x → IsOrderly script (before ++ c ∷ []) x → IsOfOther t x → ArePutOff script cps Mine ((before ++ c ∷ []) ++ x ∷ []) (before ++ x ∷ [])
  next_by (added r) stands may other = root_on script cps Mine (before ++ c ∷ []) before put_off r stands may
  next_by (begun u m e) stands may other =
      begin_on script cps Mine (before ++ c ∷ []) before put_off course_c u m e stands may (room_free script cps (before ++ c ∷ []) course_c on few_c u ∙ sym (room_free script cps before course on few u))
  next_by (ran e r) stands may other = elim (put_off.stages r.task) [
    | inl same ↦ run_on script cps Mine (before ++ c ∷ []) before e r r.env course_c course stands (in_own script r.frame r.env) (sym same ∙ stands.stands.has_begun) put_off.close put_off.fields put_off.done (λ u ne. put_off.stages u)
    | inr p ↦ absurd (other p.may)
  ]
  next_by (folded e f) stands may other = absurd other

  next : ArePutOff script cps Mine ((before ++ c ∷ []) ++ b ∷ []) (before ++ b ∷ [])
  next = next_by b stands_more.1.0 orderly_more.1.0 of_other

  abbrev s : Standing
  s = after_blocks script (at_first script) ((before ++ c ∷ []) ++ b ∷ [])

  abbrev z : Standing
  z = after_blocks script (at_first script) (before ++ b ∷ [])

  under : is_under_way (stage_at (after_blocks script (at_first script) before).log t) ≡ true
  under = (current_is (life_of t (after_blocks script (at_first script) before).log) n stands_more.0.0.resume stands_more.0.2).1

  has_begun : stage_at (after_blocks script (at_first script) (before ++ c ∷ [])).log t ≡ Some (Begun env)
  has_begun = ap (λ (x : Standing). stage_at x.log t) (at_push script cps before c) ∙ begin_same t n env (after_blocks script (at_first script) before).log

  begun_s : stage_at s.log t ≡ Some (Begun env)
  begun_s = (block_keeps_job script cps (before ++ c ∷ []) b t course_c.stand stands_more.1.0 of_other (ap is_under_way has_begun)).same.stage ∙ has_begun

  stands_z : Stands script cps before b
  stands_z = (stand_after script cps before [] (b ∷ []) next.course.stand).0

  kept : KeepsJob (after_blocks script (at_first script) before) z t
  kept = block_keeps_job script cps before b t course.stand stands_z of_other under

  given_z : stage_at z.log t ≡ Some Given
  given_z = kept.same.stage ∙ elim (put_off.stages t) [
    | inl same ↦ absurd (false≢true (sym (orderly_more.0.1 t refl) ∙ ap is_begun (sym same ∙ has_begun)))
    | inr p ↦ p.given
  ]

  late : (other : Env) × IsEnv (root_count script) (task t) z.log other
  late = late_env script cps Mine ((before ++ c ∷ []) ++ b ∷ []) (before ++ b ∷ []) course_b next t env begun_s

  abbrev d : Block
  d = begun t n late.0

  stands_d : Stands script cps (before ++ b ∷ []) d
  stands_d = (
    stands_more.0.0,
    kept.job ∙ stands_more.0.1,
    same_current (life_of t z.log) (life_of t (after_blocks script (at_first script) before).log) n stands_more.0.0 kept.same.stage kept.same.given ∙ stands_more.0.2,
    late.1,
  )

  orderly_d : IsOrderly script (before ++ b ∷ []) d
  orderly_d = (
    subst (λ (x : Standing). (u : ℕ) → u < root_count script → is_some (life_of u x.log).origin ≡ true) (sym (at_push script cps before b)) (roots_stay script cps before b stands_z orderly_more.0.0),
    λ u same. elim (cases_Bool (is_begun (stage_at z.log u))) [
      | inl has ↦
          let jobs = λ (v : ℕ). ap (λ (f : ℕ → Option JobFacts). job_executor script (f v)) next.close.jobs in
          let one : u ≡ t = all_apart script cps ((before ++ c ∷ []) ++ b ∷ []) course_b u t (begun_here script cps Mine ((before ++ c ∷ []) ++ b ∷ []) (before ++ b ∷ []) next u has) (ap is_begun begun_s) (jobs u ∙ same ∙ sym (jobs t)) in
          absurd (false≢true (sym (ap is_begun (ap (stage_at z.log) one ∙ given_z)) ∙ has))
      | inr not ↦ not
    ],
  )

  abbrev y : Standing
  y = after_block script z d

  close_y : AreClose s y
  close_y = record { near = next.close.near ∙ sym (near_begin z.log t n late.0 (ap is_under_way given_z)); held = next.close.held; jobs = next.close.jobs }

  others_y : (u : ℕ) → u ≢ t → stage_at s.log u ≡ stage_at y.log u
  others_y u ne = elim (next.stages u) [
    | inl same ↦ same ∙ sym (begin_other t n late.0 z.log u (λ is. ne (sym is)))
    | inr p ↦ absurd (ne p.may)
  ]

  one : (before ++ c ∷ []) ++ b ∷ [] ≡ before ++ c ∷ b ∷ []
  one = append_assoc before (c ∷ []) (b ∷ [])

  two : (before ++ b ∷ []) ++ d ∷ [] ≡ before ++ b ∷ d ∷ []
  two = append_assoc before (b ∷ []) (d ∷ [])

  course_d : IsCourse script cps ((before ++ b ∷ []) ++ d ∷ [])
  course_d = course_push script cps (before ++ b ∷ []) d next.course stands_d orderly_d

  to_y : after_blocks script (at_first script) ((before ++ b ∷ []) ++ d ∷ []) ≡ y
  to_y = at_push script cps (before ++ b ∷ []) d

  waits : BeginsAfter script cps before t n env b
  waits = record {
    other = late.0;
    stand = subst (AllStand script cps []) two course_d.stand;
    orderly = subst (AllAllowed (IsOrderly script) []) two course_d.orderly;
    close = subst₂ (LeadClose script cps) one two (record {
      standing = subst (AreClose s) (sym to_y) close_y;
      fields = λ e. next.fields e ∙ sym (fields_quiet script cps (before ++ b ∷ []) d e refl);
    });
    own = (
      subst (λ (bs : List Block). stage_at (after_blocks script (at_first script) bs).log t ≡ Some (Begun env)) one begun_s,
      subst (λ (bs : List Block). stage_at (after_blocks script (at_first script) bs).log t ≡ Some (Begun late.0)) two (ap (λ (x : Standing). stage_at x.log t) to_y ∙ begin_same t n late.0 z.log),
    );
    others = λ u ne. subst₂ (λ (cs bs : List Block). stage_at (after_blocks script (at_first script) cs).log u ≡ stage_at (after_blocks script (at_first script) bs).log u) one two
        (others_y u ne ∙ ap (λ (x : Standing). stage_at x.log u) (sym to_y));
  }

pub begins_wait : BeginsMayWait
begins_wait script cps before t n env b on stand orderly away of_other room = waits script cps before t n env b on stand orderly away of_other room
