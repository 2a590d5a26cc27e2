-- A task that is cancelled stays so as a history goes on, and a turn of it that looks away goes on looking away.
use Rattle.swift_reordering.proofs.Prelude.{◌≡◌, ℕ, List, [], ◌∷◌, ◌++◌, refl, sym, ◌∙◌, ap, subst, Bool, true, false, inl, inr, append_assoc, append-nil, arith, Option, Some, None, ◌&&◌, ◌||◌, is_some, false≢true, Priority, Term, Wanted, Operation, Code, code_at, ScriptView, method_code, root_count, root_priority, FrameView, EffectView, ExitView, Advanced, advanced, CheckpointView, Env, Event, Root, Begin, Apply, Free, Child, Give, origin_in, is_cancelled, cancelled_stays, JobFacts, WaitingTaskView, task, gives, root_job, log_after, turn_end, Block, added, begun, ran, folded, Standing, at_first, begun_priority, left_as, turn_applied, after_block, after_blocks, TurnStands, Stands, AllStand, Beyond, beyond_push, written_within, both, all_keep, applied_is, first_counted, after_push, IsWritten, keeps_effects, keeps_exit, term_looks_away, terms_look_away, term_if_looks_away, wanted_looks_away, operation_looks_away, code_looks_away, frames_look_away, job_looks_away, turn_looks_away, stage_at, ends_turn, turn_all}
use Rattle.script_code.specs.Tree as code
use Rattle.swift_events.specs.Laws.{MakesNew}

-- what holds of each statement of a turn holds of it where it says less

and_true : (a b : Bool) → a ≡ true → b ≡ true → (a && b) ≡ true
and_true true b one two = two
and_true false b one two = absurd (false≢true one)

or_more : (a b c : Bool) → (b ≡ true → c ≡ true) → (a || b) ≡ true → (a || c) ≡ true
or_more true b c more is = refl
or_more false b c more is = more is

module _ (op more : Operation → Bool) (test too : Term → Bool) (each : (d : Operation) → op d ≡ true → more d ≡ true) (tests : (t : Term) → test t ≡ true → too t ≡ true) where
  all_more : (c : Code) (a b : Bool) → (a ≡ true → b ≡ true) → turn_all op test c a ≡ true → turn_all more too c b ≡ true
  all_more code.end a b after is = after is
  all_more (code.act d rest) a b after is =
      let parts = both (op d) _ is in
      and_true _ _ (each d parts.0) (or_more (ends_turn d) (turn_all op test rest a) (turn_all more too rest b) (all_more rest a b after) parts.1)
  all_more (code.choice t x y rest) a b after is =
      let parts = both (test t) _ is in
      let two = both (turn_all op test x (turn_all op test rest a)) _ parts.1 in
      let rest_more = all_more rest a b after in
      and_true _ _ (tests t parts.0) (and_true _ _ (all_more x (turn_all op test rest a) (turn_all more too rest b) rest_more two.0) (all_more y (turn_all op test rest a) (turn_all more too rest b) rest_more two.1))
  all_more (code.loop t x rest) a b after is =
      let parts = both (test t) _ is in
      let two = both (turn_all op test x true) _ parts.1 in
      and_true _ _ (tests t parts.0) (and_true _ _ (all_more x true true (λ same. same) two.0) (all_more rest a b after two.1))

-- a turn that looks away does so where its task is cancelled

term_more : (t : Term) → term_looks_away false t ≡ true → term_looks_away true t ≡ true
term_more code.priority is = absurd (false≢true is)
term_more (code.opposite t) is = term_more t is
term_more (code.denial t) is = term_more t is
term_more (code.binary op a b) is = (let parts = both (term_looks_away false a) _ is in and_true _ _ (term_more a parts.0) (term_more b parts.1))
term_more _ is = refl

terms_more : (ts : List Term) → terms_look_away false ts ≡ true → terms_look_away true ts ≡ true
terms_more [] is = refl
terms_more (t ∷ ts) is = (let parts = both (term_looks_away false t) _ is in and_true _ _ (term_more t parts.0) (terms_more ts parts.1))

term_if_more : (o : Option Term) → term_if_looks_away false o ≡ true → term_if_looks_away true o ≡ true
term_if_more None is = refl
term_if_more (Some t) is = term_more t is

wanted_more : (w : Wanted) → wanted_looks_away false w ≡ true → wanted_looks_away true w ≡ true
wanted_more (code.call c) is = terms_more c.args is
wanted_more _ is = refl

operation_more : (d : Operation) → operation_looks_away false d ≡ true → operation_looks_away true d ≡ true
operation_more (code.set_variable x t) is = term_more t is
operation_more (code.set_field p t) is = term_more t is
operation_more (code.return t) is = term_more t is
operation_more (code.throw t) is = term_more t is
operation_more (code.wait w) is = wanted_more w is
operation_more (code.receive place other) is = term_if_more other is
operation_more (code.spawn c p h) is = (let parts = both (is_some p) _ is in and_true _ _ parts.0 (terms_more c.args parts.1))
operation_more (code.detach c p h) is = terms_more c.args is
operation_more (code.add h unless c p) is = terms_more c.args is
operation_more (code.bind l t) is = term_more t is
operation_more _ is = refl

code_more : (c : Code) → code_looks_away false c ≡ true → code_looks_away true c ≡ true
code_more c is = all_more (operation_looks_away false) (operation_looks_away true) (term_looks_away false) (term_looks_away true) operation_more term_more c true true (λ same. same) is

module _ (script : ScriptView) where
  frames_more : (ps : List FrameView) → frames_look_away script false ps ≡ true → frames_look_away script true ps ≡ true
  frames_more [] is = absurd (false≢true is)
  frames_more (p ∷ callers) is =
      let rest : Code = code_at (method_code script p.method) p.instruction in
      or_more (is_some p.pending) (code_looks_away false rest) (code_looks_away true rest) (code_more rest) is

  job_more : (o : Option JobFacts) → job_looks_away script false o ≡ true → job_looks_away script true o ≡ true
  job_more None is = absurd (false≢true is)
  job_more (Some j) is = frames_more j.frames.frames is

  -- so it does where the task is cancelled later
  pub job_stays : (a b : Bool) (o : Option JobFacts) → (a ≡ true → b ≡ true) → job_looks_away script a o ≡ true → job_looks_away script b o ≡ true
  job_stays false true o later is = job_more o is
  job_stays true false o later is = absurd (false≢true (later refl))
  job_stays _ _ o later is = is

  pub turn_stays : (s z : Standing) (t : ℕ) → (is_cancelled t s.log ≡ true → is_cancelled t z.log ≡ true) → z.jobs t ≡ s.jobs t → turn_looks_away script s t ≡ true → turn_looks_away script z t ≡ true
  turn_stays s z t flag job is =
      job_stays (is_cancelled t s.log) (is_cancelled t z.log) (z.jobs t) flag (ap (job_looks_away script (is_cancelled t s.log)) job ∙ is)

-- the flag stays

-- no task is made with a number that is still to come, and task `t` is cancelled
record Goes (roots t : ℕ) (log : List Event) : Type 0 where
  beyond : Beyond roots log
  flag : is_cancelled t log ≡ true

written_new : (roots u : ℕ) (log : List Event) (e : Event) → IsWritten roots u log e → Beyond roots log → MakesNew log e
written_new roots u log (Free made by p detached) w beyond = inr (let at = w.0 in beyond made.0 (omega (arith, at)))
written_new roots u log (Child made o g p) w beyond = inr (let at = w.0 in beyond made.0 (omega (arith, at)))
written_new roots u log (Begin v n env) w beyond = absurd w
written_new roots u log (Apply v n) w beyond = absurd w
written_new roots u log (Give v n resume) w beyond = absurd w
written_new roots u log (Root v p) w beyond = absurd w
written_new roots u log _ w beyond = inl refl

goes_quiet : (roots t : ℕ) (log : List Event) (e : Event) → origin_in e ≡ None → Goes roots t log → Goes roots t (log ++ e ∷ [])
goes_quiet roots t log e none goes = record { beyond = beyond_push roots log e (inl none) goes.beyond; flag = cancelled_stays t log e (inl none) goes.flag }

goes_written : (roots t u : ℕ) (log : List Event) (e : Event) → IsWritten roots u log e → Goes roots t log → Goes roots t (log ++ e ∷ [])
goes_written roots t u log e w goes = record { beyond = beyond_push roots log e (written_within roots u log e w) goes.beyond; flag = cancelled_stays t log e (written_new roots u log e w goes.beyond) goes.flag }

given_all : (roots t : ℕ) (js : List JobFacts) (log : List Event) → Goes roots t log → Goes roots t (log ++ gives js)
given_all roots t [] log goes = subst (Goes roots t) (sym (append-nil log)) goes
given_all roots t (j ∷ js) log goes =
    let e : Event = Give (task j.task) j.number j.resume in
    subst (Goes roots t) (append_assoc log (e ∷ []) (gives js)) (given_all roots t js (log ++ e ∷ []) (goes_quiet roots t log e refl goes))

turn_keeps : (script : ScriptView) (log : List Event) (held : List (Option WaitingTaskView)) (u n : ℕ) (own : Priority) (effects : List EffectView) (exit : ExitView) (adv : Advanced) (t : ℕ)
    → Goes (root_count script) t log → Goes (root_count script) t (turn_end script log held u n own effects exit adv).log
turn_keeps script log held u n own effects exit adv t goes =
    let roots : ℕ = root_count script in
    let e : Event = Apply (task u) n in
    let first = goes_quiet roots t log e refl goes in
    let done = keeps_effects (Goes roots t) roots u own (goes_written roots t u) (log ++ e ∷ []) effects first in
    let ended = keeps_exit (Goes roots t) roots u own (goes_written roots t u) (log_after roots u own (log ++ e ∷ []) effects) exit adv.step done in
    given_all roots t _ _ ended

module _ (script : ScriptView) (cps : List CheckpointView) where
  abbrev At : List Block → Standing
  At bs = after_blocks script (at_first script) bs

  applied_keeps : (s : Standing) (e u n : ℕ) (effects : List EffectView) (exit : ExitView) (after : Option FrameView) (job : JobFacts) (env : Env) (frame : FrameView) (t : ℕ)
      → TurnStands script s e u n effects exit job env frame → Goes (root_count script) t s.log → is_cancelled t (turn_applied script s u n effects exit after).log ≡ true
  applied_keeps s e u n effects exit after job env frame t stands goes =
      let own = begun_priority (stage_at s.log u) in
      let adv = advanced script (left_as frame effects after) stands.runs.0 job.frames.outer exit in
      subst (λ (z : Standing). is_cancelled t z.log ≡ true) (sym (applied_is script s u n job frame stands.runs.0 effects exit after stands.given stands.runs.1))
      (turn_keeps script s.log s.held u n own effects exit adv t goes).flag

  pub root_keeps_flag : (before : List Block) (r : ℕ) (t : ℕ) → Stands script cps before (added r) → is_cancelled t (At before).log ≡ true → is_cancelled t (after_block script (At before) (added r)).log ≡ true
  root_keeps_flag before r t stands is =
      let log = (At before).log in
      let e : Event = Root (task r) (root_priority script r) in
      let j : JobFacts = root_job script r in
      let g : Event = Give (task j.task) j.number j.resume in
      subst (λ (l : List Event). is_cancelled t l ≡ true) (append_assoc log (e ∷ []) (g ∷ [])) (cancelled_stays t (log ++ e ∷ []) g (inl refl) (cancelled_stays t log e (inr stands.1) is))

  pub begin_keeps_flag : (log : List Event) (u n : ℕ) (env : Env) (t : ℕ) → is_cancelled t log ≡ true → is_cancelled t (log ++ Begin (task u) n env ∷ []) ≡ true
  begin_keeps_flag log u n env t is = cancelled_stays t log (Begin (task u) n env) (inl refl) is

  pub block_keeps_flag : (before : List Block) (b : Block) (t : ℕ) → AllStand script cps [] before → Stands script cps before b → is_cancelled t (At before).log ≡ true → is_cancelled t (after_block script (At before) b).log ≡ true
  block_keeps_flag before (added r) t all stands is = root_keeps_flag before r t stands is
  block_keeps_flag before (begun u n env) t all stands is = begin_keeps_flag (At before).log u n env t is
  block_keeps_flag before (ran e r) t all stands is =
      applied_keeps (At before) e r.task r.number r.effects r.exit r.after stands.job r.env r.frame t stands.stands (record { beyond = (all_keep script cps [] before all (first_counted script)).beyond; flag = is })
  block_keeps_flag before (folded e f) t all stands is =
      applied_keeps (At before) e f.task f.number f.effects f.exit f.after stands.0.job stands.0.env stands.0.frame t stands.0.stands (record { beyond = (all_keep script cps [] before all (first_counted script)).beyond; flag = is })

  -- a block leaves the flag of a task that is cancelled
  pub flag_stays : (before : List Block) (b : Block) (t : ℕ) → AllStand script cps [] before → Stands script cps before b → is_cancelled t (At before).log ≡ true → is_cancelled t (At (before ++ b ∷ [])).log ≡ true
  flag_stays before b t all stands is = subst (λ (z : Standing). is_cancelled t z.log ≡ true) (sym (after_push script (at_first script) before b)) (block_keeps_flag before b t all stands is)
