-- Each event that a history writes may stand where it stands.
use Rattle.swift_laws.proofs.Prelude.{◌≡◌, inl, inr, ℕ, ◌+◌, ◌<◌, Bool, true, false, List, [], ◌∷◌, ◌++◌, refl, sym, subst, ap, ◌∙◌, arith, append_assoc, replicate, length, Option, Some, None, is_some, ◌&&◌, nat_lt, ◌^◌, false≢true, nat_tests, append-nil, Resume, Priority, Env, ScriptView, root_count, root_priority, FrameView, EffectView, ExitView, Advanced, advanced, CheckpointView, Event, Root, Begin, Apply, LastJob, JobStage, task_of, life_of, origin_in, given_in, ending_in, opened_by-push_no, is_closed-push_no, is_under_way, is_current, counters, Block, added, begun, ran, folded, Standing, at_first, begun_priority, left_as, frames_applied, job_applied, turn_applied, after_block, after_blocks, TurnStands, Stands, AllStand, IsLegal, ReportView, JobFacts, AfterTurn, task, root_job, root_events, gives, log_after, jobs_made, exit_events, exit_resume, followed, HasEnded}
use Rattle.std.specs.Prelude.{◌-◌}
use Rattle.swift_events.specs.declared.life.JobStage.TheVariants as stage
use Rattle.swift_history.specs.Checks.{was_given as given_so}
use Rattle.swift_laws.proofs.OpenLogs.{cases_of, not_both, none_some, was_given, stage_at, origin_now, given_same, given_stays, stage_now, ending_same, Sound, May, Leads, stays, leads_by, leads_on, sound_from, sound_leads, free_at, holds_at}
use Rattle.swift_laws.proofs.OpenSteps.{each_map, is_child, no_child, may_move, Active, Fresh, effects, Goes, goes_new, AllGo, leads_give, leads_gives}
use Rattle.swift_laws.proofs.OpenEnds.{followed_go, exit_wrote}

both : (a b : Bool) → (a && b) ≡ true → (a ≡ true) × (b ≡ true)
both true true h = (refl, refl)
both _ _ h = absurd (false≢true h)

given_some : (o : Option LastJob) (n : ℕ) (resume : Resume) → given_so o n resume ≡ true → is_some o ≡ true
given_some None n resume h = absurd (false≢true h)
given_some (Some g) n resume h = refl

-- a task whose turn may begin or be applied
record UnderWay (t : ℕ) (log : List Event) : Type 0 where
  given : was_given t log ≡ true
  under_way : is_under_way (stage_at t log) ≡ true

current_is : (t : ℕ) (log : List Event) (n : ℕ) (resume : Resume) → is_current (life_of t log) n resume ≡ true → UnderWay t log
current_is t log n resume h =
    let first = both (given_so (life_of t log).given n resume) (nat_lt n (2 ^ 32 - 1) && is_under_way (stage_at t log)) h in
    record { given = given_some (life_of t log).given n resume first.0; under_way = (both (nat_lt n (2 ^ 32 - 1)) (is_under_way (stage_at t log)) first.1).1 }

under_free : (o : Option JobStage) → is_under_way o ≡ true → holds_at o ≡ false
under_free (Some stage.Given) h = refl
under_free (Some (stage.Begun env)) h = refl
under_free _ h = absurd (false≢true h)

under_alive : (roots : ℕ) (t : ℕ) (log : List Event) → Sound roots log → UnderWay t log → HasEnded t log → ⊥
under_alive roots t log s u ended = false≢true (sym (ap is_under_way (s.rests t ended).1) ∙ u.under_way)

module _ (script : ScriptView) where
  -- a log each event of which may stand where it stands
  abbrev Written : List Event → Type 0
  Written log = Leads (root_count script) [] log

  -- a root is added
  added_leads : (s : Standing) (r : ℕ) → Written s.log → nat_lt r (root_count script) ≡ true → (life_of r s.log).origin ≡ None → Written (after_block script s (added r)).log
  added_leads s r written low none =
      let e : Event = Root (task r) (root_priority script r) in
      let mid : List Event = s.log ++ e ∷ [] in
      let sound : Sound (root_count script) s.log = sound_from (root_count script) s.log written in
      let lt : r < root_count script = grind (arith, nat_tests) in
      let may : May (root_count script) s.log e = record {
        low = λ q. omega (arith, lt);
        born = λ q. absurd (false≢true q);
        given = λ q. absurd (false≢true q);
        moves = λ q. absurd (false≢true q);
        alive = λ q. absurd (false≢true q);
        ends = λ q. absurd (false≢true q);
        child = λ u o g p q. no_child e u o g p refl q;
      } in
      let one = leads_by (root_count script) s.log e may in
      let new : was_given r s.log ≡ false = elim (cases_of (was_given r s.log)) [
        | inl so ↦ none_some (life_of r s.log).origin none (sound.born r so)
        | inr not_so ↦ not_so
      ] in
      let after : Sound (root_count script) mid = sound_leads (root_count script) s.log mid sound one in
      let goes = goes_new (root_count script) r mid after (ap is_some (origin_now r s.log e refl refl)) (ap is_some (given_same r s.log e refl) ∙ new) in
      let two = leads_give (root_count script) mid (root_job script r) goes in
      let last : List Event = s.log ++ root_events script r in
      let leads : Leads (root_count script) s.log last = subst (λ (l : List Event). Leads (root_count script) s.log l) (append_assoc s.log (e ∷ []) _) (leads_on (root_count script) s.log mid _ one two) in
      leads_on (root_count script) [] s.log last written leads

  -- a task whose turn is under way moves on
  may_go_on : (t : ℕ) (log : List Event) (e : Event) → Sound (root_count script) log → UnderWay t log → task_of e ≡ t → origin_in e ≡ None → given_in e ≡ None → ending_in e ≡ None → is_child e ≡ false → May (root_count script) log e
  may_go_on t log e sound u of origin none ending other = grind (arith, may_move, not_both, given_stays, free_at, under_free, under_alive)

  -- a turn begins
  begun_leads : (s : Standing) (t n : ℕ) (env : Env) (j : JobFacts) → Written s.log → is_current (life_of t s.log) n j.resume ≡ true → Written (after_block script s (begun t n env)).log
  begun_leads s t n env j written current =
      let e : Event = Begin (task t) n env in
      let may = may_go_on t s.log e (sound_from (root_count script) s.log written) (current_is t s.log n j.resume current) refl refl refl refl refl in
      leads_on (root_count script) [] s.log (s.log ++ e ∷ []) written (leads_by (root_count script) s.log e may)

  -- a turn is applied
  frames_lead : (s : Standing) (executor t n : ℕ) (es : List EffectView) (exit : ExitView) (after : Option FrameView) (job : JobFacts) (env : Env) (frame : FrameView) → Written s.log → (stands : TurnStands script s executor t n es exit job env frame)
      → Written (frames_applied script s t n (frame ∷ stands.runs.0) job.frames.outer es exit after).log
  frames_lead s executor t n es exit after job env frame written stands =
      let roots : ℕ = root_count script in
      let own : Priority = begun_priority (life_of t s.log).stage in
      let sound : Sound roots s.log = sound_from roots s.log written in
      let u = current_is t s.log n job.resume stands.current in
      let e : Event = Apply (task t) n in
      let first : List Event = s.log ++ e ∷ [] in
      let leads_first = leads_by roots s.log e (may_go_on t s.log e sound u refl refl refl refl refl) in
      let active : Active t first = record {
        given = given_stays t s.log e u.given;
        applied = stage_now t s.log e refl refl;
        alive = λ ended. under_alive roots t s.log sound u (sym (ap is_some (ending_same t s.log e refl)) ∙ ended);
      } in
      let f = effects script t own first s.log (counters t s.log env.room) es exit (sound_leads roots s.log first sound leads_first) active (sym (opened_by-push_no t s.log e refl)) (λ g. is_closed-push_no t g s.log e refl) stands.fits in
      let done : List Event = log_after roots t own first es in
      let leads_done : Written done = leads_on roots [] first done (leads_on roots [] s.log first written leads_first) f.leads in
      let next : Advanced = advanced script (left_as frame es after) stands.runs.0 job.frames.outer exit in
      let resume : Option Resume = exit_resume t done exit next.step in
      let w = exit_wrote roots t done (sound_from roots done leads_done) f.active script (left_as frame es after) stands.runs.0 job.frames.outer exit in
      let ended : List Event = done ++ exit_events t done exit next.step in
      let leads_ended : Written ended = leads_on roots [] done ended leads_done w.leads in
      let sound_ended : Sound roots ended = sound_from roots ended leads_ended in
      let made : List JobFacts = jobs_made script t own first es in
      let new : AllGo ended made = each_map (Fresh done) (λ j. Goes j.task ended) (λ j x. (let y = w.fresh j x in goes_new roots j.task ended sound_ended y.made y.new)) made f.fresh in
      let start : AfterTurn = record { held = s.held ++ replicate (length made) None; jobs = made } in
      let follows : AfterTurn = followed t (n + 1) next.task resume next.step ended start in
      let all : AllGo ended follows.jobs = followed_go roots ended sound_ended t (n + 1) next.task resume next.step start w.requires new in
      leads_on roots [] ended (ended ++ gives follows.jobs) leads_ended (leads_gives roots ended follows.jobs all)

  turn_leads : (s : Standing) (executor t n : ℕ) (es : List EffectView) (exit : ExitView) (after : Option FrameView) (job : JobFacts) (env : Env) (frame : FrameView) → Written s.log → TurnStands script s executor t n es exit job env frame
      → Written (turn_applied script s t n es exit after).log
  turn_leads s executor t n es exit after job env frame written stands =
      let is : turn_applied script s t n es exit after ≡ frames_applied script s t n (frame ∷ stands.runs.0) job.frames.outer es exit after =
      ap (λ (o : Option JobFacts). job_applied script s t n o es exit after) stands.given ∙ ap (λ (ps : List FrameView). frames_applied script s t n ps job.frames.outer es exit after) stands.runs.1 in
      subst (λ (x : Standing). Written x.log) (sym is) (frames_lead s executor t n es exit after job env frame written stands)

  block_leads : (cps : List CheckpointView) (before : List Block) (b : Block) → Written (after_blocks script (at_first script) before).log → Stands script cps before b → Written (after_block script (after_blocks script (at_first script) before) b).log
  block_leads cps before (added r) written stands = added_leads (after_blocks script (at_first script) before) r written stands.0 stands.1
  block_leads cps before (begun t n env) written stands = begun_leads (after_blocks script (at_first script) before) t n env stands.0 written stands.2
  block_leads cps before (ran e r) written stands = turn_leads (after_blocks script (at_first script) before) e r.task r.number r.effects r.exit r.after stands.job r.env r.frame written stands.stands
  block_leads cps before (folded e f) written stands = turn_leads (after_blocks script (at_first script) before) e f.task f.number f.effects f.exit f.after stands.0.job stands.0.env stands.0.frame written stands.0.stands

  after_push : (s : Standing) (bs : List Block) (b : Block) → after_blocks script s (bs ++ b ∷ []) ≡ after_block script (after_blocks script s bs) b
  after_push s [] b = refl
  after_push s (c ∷ bs) b = after_push (after_block script s c) bs b

  blocks_lead : (cps : List CheckpointView) (before bs : List Block) → Written (after_blocks script (at_first script) before).log → AllStand script cps before bs → Written (after_blocks script (at_first script) (before ++ bs)).log
  blocks_lead cps before [] written stand = subst (λ (xs : List Block). Written (after_blocks script (at_first script) xs).log) (sym (append-nil before)) written
  blocks_lead cps before (b ∷ bs) written stand =
      subst (λ (xs : List Block). Written (after_blocks script (at_first script) xs).log) (append_assoc before (b ∷ []) bs)
      (blocks_lead cps (before ++ b ∷ []) bs (subst (λ (x : Standing). Written x.log) (sym (after_push (at_first script) before b)) (block_leads cps before b written stand.0)) stand.1)

  -- the log of a legal report is such
  pub legal_leads : (report : ReportView) → IsLegal script report → Leads (root_count script) [] report.log
  legal_leads report legal = subst Written (sym legal.log) (blocks_lead report.checkpoints [] legal.blocks (stays (root_count script) []) legal.stand)
