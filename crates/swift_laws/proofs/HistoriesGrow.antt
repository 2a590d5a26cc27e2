-- What each block writes keeps a property of logs that each event but a begin keeps.
use Rattle.swift_laws.proofs.Prelude.{◌≡◌, ℕ, ◌≤◌, List, [], ◌∷◌, ◌++◌, length, refl, sym, ◌∙◌, ap, arith, Bool, true, false, subst, append_assoc, Option, filter_map, append-nil, length-append, filter_map-append, Priority, Env, ScriptView, root_count, root_priority, FrameView, EffectView, ExitView, Advanced, advanced, CheckpointView, Event, Root, Begin, Apply, Give, life_of, task, JobFacts, WaitingTaskView, exit_events, log_after, gives, turn_end, root_job, Block, added, begun, ran, folded, Standing, Stands, AllStand, TurnStands, after_block, after_blocks, at_first, left_as, begun_priority, turn_applied, turn_in, turns_of}
use Rattle.swift_laws.proofs.HistoriesWritten.{IsWritten, keeps_effects, keeps_exit}
use Rattle.swift_laws.proofs.HistoriesCounted.{applied}
use Rattle.swift_laws.proofs.HistoriesTurns.{applied_is, after_push}

abbrev pub begins : Event → Bool
begins (Begin t n env) = true
begins _ = false

written_after : (roots t : ℕ) (log : List Event) (e : Event) → IsWritten roots t log e → begins e ≡ false
written_after roots t log (Begin u n env) w = absurd w
written_after roots t log _ w = refl

module _ (P : List Event → Type 0) (keeps : (log : List Event) (e : Event) → begins e ≡ false → P log → P (log ++ e ∷ [])) where
  keeps_gives : (log : List Event) (jobs : List JobFacts) → P log → P (log ++ gives jobs)
  keeps_gives log [] is = subst P (sym (append-nil log)) is
  keeps_gives log (j ∷ js) is =
      let e : Event = Give (task j.task) j.number j.resume in
      subst P (append_assoc log (e ∷ []) (gives js)) (keeps_gives (log ++ e ∷ []) js (keeps log e refl is))

  -- from the effects on, from the turn's being applied on, and as a whole
  pub keeps_rest : (script : ScriptView) (log : List Event) (held : List (Option WaitingTaskView)) (t n : ℕ) (own : Priority) (effects : List EffectView) (exit : ExitView) (after : Advanced)
      → P (log_after (root_count script) t own (log ++ Apply (task t) n ∷ []) effects) → P (turn_end script log held t n own effects exit after).log
  keeps_rest script log held t n own effects exit after is =
      let roots = root_count script in
      let done = log_after roots t own (log ++ Apply (task t) n ∷ []) effects in
      keeps_gives (done ++ exit_events t done exit after.step) _ (keeps_exit P roots t own (λ l e w p. keeps l e (written_after roots t l e w) p) done exit after.step is)

  pub keeps_applied : (script : ScriptView) (log : List Event) (held : List (Option WaitingTaskView)) (t n : ℕ) (own : Priority) (effects : List EffectView) (exit : ExitView) (after : Advanced)
      → P (log ++ Apply (task t) n ∷ []) → P (turn_end script log held t n own effects exit after).log
  keeps_applied script log held t n own effects exit after is =
      let roots = root_count script in
      keeps_rest script log held t n own effects exit after
      (keeps_effects P roots t own (λ l e w p. keeps l e (written_after roots t l e w) p) (log ++ Apply (task t) n ∷ []) effects is)

  pub keeps_turn : (script : ScriptView) (log : List Event) (held : List (Option WaitingTaskView)) (t n : ℕ) (own : Priority) (effects : List EffectView) (exit : ExitView) (after : Advanced)
      → P log → P (turn_end script log held t n own effects exit after).log
  keeps_turn script log held t n own effects exit after is = keeps_applied script log held t n own effects exit after (keeps log (Apply (task t) n) refl is)

  keeps_stand : (script : ScriptView) (s : Standing) (e t n : ℕ) (effects : List EffectView) (exit : ExitView) (after : Option FrameView) (job : JobFacts) (env : Env) (frame : FrameView)
      → TurnStands script s e t n effects exit job env frame → P s.log → P (turn_applied script s t n effects exit after).log
  keeps_stand script s e t n effects exit after job env frame stands is = grind (arith, applied_is, keeps_turn)

  pub keeps_block : (script : ScriptView) (cps : List CheckpointView) (before : List Block) (b : Block)
      → (let s = after_blocks script (at_first script) before in
      ((t n : ℕ) (env : Env) → Stands script cps before (begun t n env) → P s.log → P (s.log ++ Begin (task t) n env ∷ [])) → Stands script cps before b → P s.log → P (after_block script s b).log)
  keeps_block script cps before (added r) begin stands is =
      let s = after_blocks script (at_first script) before in
      let e : Event = Root (task r) (root_priority script r) in
      subst P (append_assoc s.log (e ∷ []) _) (keeps_gives (s.log ++ e ∷ []) (root_job script r ∷ []) (keeps s.log e refl is))
  keeps_block script cps before (begun t n env) begin stands is = begin t n env stands is
  keeps_block script cps before (ran e r) begin stands is = keeps_stand script (after_blocks script (at_first script) before) e r.task r.number r.effects r.exit r.after stands.job r.env r.frame stands.stands is
  keeps_block script cps before (folded e f) begin stands is =
      keeps_stand script (after_blocks script (at_first script) before) e f.task f.number f.effects f.exit f.after stands.0.job stands.0.env stands.0.frame stands.0.stands is

  pub keeps_blocks : (script : ScriptView) (cps : List CheckpointView)
      → ((before : List Block) (t n : ℕ) (env : Env) → Stands script cps before (begun t n env) → P (after_blocks script (at_first script) before).log → P ((after_blocks script (at_first script) before).log ++ Begin (task t) n env ∷ []))
      → (before bs : List Block) → AllStand script cps before bs → P (after_blocks script (at_first script) before).log → P (after_blocks script (at_first script) (before ++ bs)).log
  keeps_blocks script cps begin before [] all is = subst (λ (xs : List Block). P (after_blocks script (at_first script) xs).log) (sym (append-nil before)) is
  keeps_blocks script cps begin before (b ∷ bs) all is =
      subst (λ (xs : List Block). P (after_blocks script (at_first script) xs).log) (append_assoc before (b ∷ []) bs)
      (keeps_blocks script cps begin (before ++ b ∷ []) bs all.1
      (subst (λ (z : Standing). P z.log) (sym (after_push script (at_first script) before b)) (keeps_block script cps before b (begin before) all.0 is)))

-- no turn is taken back

more_applied : (t k : ℕ) (log : List Event) (e : Event) → k ≤ applied t log → k ≤ applied t (log ++ e ∷ [])
more_applied t k log e le =
    omega (arith, ap length (filter_map-append (turn_in t) log (e ∷ [])) ∙ length-append (turns_of t log) (filter_map (turn_in t) (e ∷ [])), le)

pub applied_stays : (script : ScriptView) (cps : List CheckpointView) (before : List Block) (b : Block) (t : ℕ) → Stands script cps before b
    → applied t (after_blocks script (at_first script) before).log ≤ applied t (after_block script (after_blocks script (at_first script) before) b).log
applied_stays script cps before b t stands =
    let log = (after_blocks script (at_first script) before).log in
    let k = applied t log in
    keeps_block (λ (l : List Event). k ≤ applied t l) (λ l e _ le. more_applied t k l e le) script cps before b (λ u n env _ le. more_applied t k log (Begin (task u) n env) le) stands (omega arith)

-- the log only grows

abbrev pub Extends : List Event → List Event → Type 0
Extends log log' = (more : List Event) × (log' ≡ log ++ more)

extends_push : (front log : List Event) (e : Event) → Extends front log → Extends front (log ++ e ∷ [])
extends_push front log e x = (x.0 ++ e ∷ [], ap (λ (l : List Event). l ++ e ∷ []) x.1 ∙ append_assoc front x.0 (e ∷ []))

pub log_grows : (script : ScriptView) (cps : List CheckpointView) (before bs : List Block) → AllStand script cps before bs → Extends (after_blocks script (at_first script) before).log (after_blocks script (at_first script) (before ++ bs)).log
log_grows script cps before bs all =
    let front = (after_blocks script (at_first script) before).log in
    keeps_blocks (Extends front) (λ l e _ x. extends_push front l e x) script cps (λ b t n env _ x. extends_push front (after_blocks script (at_first script) b).log (Begin (task t) n env) x) before bs all ([], sym (append-nil front))

-- and a turn writes first that it is applied
pub turn_extends : (script : ScriptView) (s : Standing) (e t n : ℕ) (effects : List EffectView) (exit : ExitView) (after : Option FrameView) (job : JobFacts) (env : Env) (frame : FrameView)
    → TurnStands script s e t n effects exit job env frame → Extends (s.log ++ Apply (task t) n ∷ []) (turn_applied script s t n effects exit after).log
turn_extends script s e t n effects exit after job env frame stands =
    let front = s.log ++ Apply (task t) n ∷ [] in
    subst (λ (z : Standing). Extends front z.log) (sym (applied_is script s t n job frame stands.runs.0 effects exit after stands.given stands.runs.1))
    (keeps_applied (Extends front) (λ l e _ x. extends_push front l e x) script s.log s.held t n (begun_priority (life_of t s.log).stage) effects exit (advanced script (left_as frame effects after) stands.runs.0 job.frames.outer exit) ([], sym (append-nil front)))
