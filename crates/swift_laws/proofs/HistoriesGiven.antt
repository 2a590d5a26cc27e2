-- In each history the jobs that the log gives for a task are those of the turns that it applies, and one more while a turn is
-- under way.
use Rattle.swift_laws.proofs.Prelude.{◌≡◌, ◌≢◌, ℕ, ◌+◌, ◌<◌, ◌≤◌, List, [], ◌∷◌, ◌++◌, length, zero, suc, refl, sym, ◌∙◌, ap, arith, Bool, true, false, inl, inr, subst, append_assoc, nat_lt, Option, Some, None, is_some, if◌then◌else◌, AllByRecursion, cons_option, range_with_len, cases_eq, true≢false, eq-eqb, ne_eqb, ltb-true, ltb-false, append-nil, filter_map-append, Resume, Priority, Env, ScriptView, root_count, root_priority, FrameView, EffectView, ExitView, Advanced, CheckpointView, Event, Root, Begin, Apply, Wait, Next, Close, Give, Life, task_of, tasks_of, later, life_of, stage_in, life_of-push_same, life_of-push_other, filter_map-push_none, unborn_without, is_under_way, task, JobFacts, WaitingTaskView, exit_events, log_after, gives, turn_end, root_job, root_events, Block, added, begun, ran, folded, Standing, Stands, AllStand, TurnStands, IsLegal, ReportView, after_block, after_blocks, at_first, turn_applied, turns_of, turn_in, jobs_given, given_job, TurnsAreNumbered, GivenJobsAreApplied, AcceptedTurnsStand, AcceptedJobsStand}
use Rattle.swift_laws.proofs.OpenLogs.{In, in_contains}
use Rattle.swift_laws.proofs.OpenGroups.{in_filter_map}
use Rattle.swift_laws.proofs.OpenReports.{any_sound}
use Rattle.swift_laws.proofs.HistoriesWritten.{IsWritten, keeps_effects, keeps_exit}
use Rattle.swift_laws.proofs.HistoriesCounted.{applied, AreCounted, HasNumber, JobFits, starts, idle_turn, idle_applied, turns_push, counted_number, apply_push, fits_push, rest_push, unbegun, written_idle}
use Rattle.swift_laws.proofs.HistoriesTurns.{all_map, Resting, IsOther, Apart, Here, here_push, turn_follows, applied_is, current_is, block_keeps, all_keep, first_counted, after_push}
use Rattle.swift_laws.proofs.HistoriesApplied.{there}

-- the jobs of a task by the turns that were applied: one more while a turn is under way
abbrev Owed : Bool → List ℕ → List ℕ → Type 0
Owed true jobs turns = jobs ≡ turns ++ length turns ∷ []
Owed false jobs turns = jobs ≡ turns

abbrev IsOwed : List Event → ℕ → Type 0
IsOwed log t = Owed (is_under_way (life_of t log).stage) (jobs_given t log) (turns_of t log)

abbrev AreGiven : List Event → Type 0
AreGiven log = (t : ℕ) → IsOwed log t

owed_same : (js ks ts us : List ℕ) {b c : Bool} → c ≡ b → ks ≡ js → us ≡ ts → Owed b js ts → Owed c ks us
owed_same js ks ts us {b = b} stage jobs turns is =
    subst (λ (x : Bool). Owed x ks us) (sym stage) (subst (λ (x : List ℕ). Owed b x us) (sym jobs) (subst (λ (x : List ℕ). Owed b js x) (sym turns) is))

owed_at : (js ts : List ℕ) {b : Bool} (c : Bool) → b ≡ c → Owed b js ts → Owed c js ts
owed_at js ts c is owed = subst (λ (x : Bool). Owed x js ts) is owed

-- one more event

idle_job : (t : ℕ) (e : Event) → starts e ≡ false → given_job t e ≡ None
idle_job t (Give u n resume) h = absurd (true≢false h)
idle_job t e h = refl

-- an event of another task
owed_other : (t : ℕ) (log : List Event) (e : Event) → task_of e ≢ t → given_job t e ≡ None → turn_in t e ≡ None → IsOwed log t → IsOwed (log ++ e ∷ []) t
owed_other t log e other no_job no_turn is =
    owed_same (jobs_given t log) (jobs_given t (log ++ e ∷ [])) (turns_of t log) (turns_of t (log ++ e ∷ [])) (ap (λ (l : Life). is_under_way l.stage) (life_of-push_other t log e other)) (filter_map-push_none (given_job t) log e no_job) (filter_map-push_none (turn_in t) log e no_turn) is

-- an event that gives no job, applies no turn, and doesn't change whether one is under way
given_idle : (log : List Event) (e : Event) → ((t : ℕ) → given_job t e ≡ None) → ((t : ℕ) → turn_in t e ≡ None)
    → is_under_way (later (stage_in e) (life_of (task_of e) log).stage) ≡ is_under_way (life_of (task_of e) log).stage → AreGiven log → AreGiven (log ++ e ∷ [])
given_idle log e no_job no_turn way are t = elim (cases_eq (task_of e) t) [
  | inl same ↦
      let here : is_under_way (life_of t (log ++ e ∷ [])).stage ≡ is_under_way (life_of t log).stage =
      ap (λ (l : Life). is_under_way l.stage) (life_of-push_same t log e same) ∙ subst (λ (k : ℕ). is_under_way (later (stage_in e) (life_of k log).stage) ≡ is_under_way (life_of k log).stage) same way in
      owed_same (jobs_given t log) (jobs_given t (log ++ e ∷ [])) (turns_of t log) (turns_of t (log ++ e ∷ [])) here (filter_map-push_none (given_job t) log e (no_job t)) (filter_map-push_none (turn_in t) log e (no_turn t)) (are t)
  | inr other ↦ owed_other t log e other (no_job t) (no_turn t) (are t)
]

-- what the turn of a task writes after it was applied
same_way : (roots t : ℕ) (log : List Event) (e : Event) → IsWritten roots t log e → is_under_way (life_of t log).stage ≡ false
    → is_under_way (later (stage_in e) (life_of (task_of e) log).stage) ≡ is_under_way (life_of (task_of e) log).stage
same_way roots t log (Begin u n env) w rest = absurd w
same_way roots t log (Apply u n) w rest = absurd w
same_way roots t log (Give u n resume) w rest = absurd w
same_way roots t log (Root u p) w rest = absurd w
same_way roots t log (Wait u awaited) w rest = sym (subst (λ (k : ℕ). is_under_way (life_of k log).stage ≡ false) (sym w) rest)
same_way roots t log (Next o g) w rest = sym (subst (λ (k : ℕ). is_under_way (life_of k log).stage ≡ false) (sym w) rest)
same_way roots t log (Close o g) w rest = sym (subst (λ (k : ℕ). is_under_way (life_of k log).stage ≡ false) (sym w) rest)
same_way roots t log _ w rest = refl

written_given : (roots t : ℕ) (log : List Event) (e : Event) → IsWritten roots t log e → is_under_way (life_of t log).stage ≡ false → AreGiven log → AreGiven (log ++ e ∷ [])
written_given roots t log e w rest are = grind (arith, written_idle, given_idle, idle_job, idle_turn, same_way)

-- a turn is applied
apply_given : (log : List Event) (t n : ℕ) → n ≡ applied t log → is_under_way (life_of t log).stage ≡ true → AreGiven log → AreGiven (log ++ Apply (task t) n ∷ [])
apply_given log t n number under are u = grind (arith, cases_eq, owed_at, life_of-push_same, filter_map-push_none, turns_push, owed_other, ne_eqb)

-- a job is given

job_here : (t n : ℕ) (resume : Resume) → given_job t (Give (task t) n resume) ≡ Some n
job_here t n resume = ap (λ (b : Bool). if b then Some n else None) (eq-eqb t t refl)

jobs_push : (t n : ℕ) (resume : Resume) (log : List Event) → jobs_given t (log ++ Give (task t) n resume ∷ []) ≡ jobs_given t log ++ n ∷ []
jobs_push t n resume log = filter_map-append (given_job t) log (Give (task t) n resume ∷ []) ∙ ap (λ (o : Option ℕ). jobs_given t log ++ cons_option o []) (job_here t n resume)

give_given : (log : List Event) (j : JobFacts) → Resting log j → j.number ≡ applied j.task log → AreGiven log → AreGiven (log ++ Give (task j.task) j.number j.resume ∷ [])
give_given log j rest number are u =
    let e : Event = Give (task j.task) j.number j.resume in
    elim (cases_eq j.task u) [
      | inl same ↦ subst (IsOwed (log ++ e ∷ [])) same
          (owed_at (jobs_given j.task (log ++ e ∷ [])) (turns_of j.task (log ++ e ∷ [])) _ (sym (ap (λ (l : Life). is_under_way l.stage) (life_of-push_same j.task log e refl)))
          (jobs_push j.task j.number j.resume log ∙ ap (λ (js : List ℕ). js ++ j.number ∷ []) (owed_at (jobs_given j.task log) (turns_of j.task log) false rest (are j.task))
          ∙ ap (λ (k : ℕ). turns_of j.task log ++ k ∷ []) number ∙ ap (λ (ts : List ℕ). ts ++ length ts ∷ []) (sym (filter_map-push_none (turn_in j.task) log e refl))))
      | inr other ↦ owed_other u log e other (ap (λ (b : Bool). if b then Some j.number else None) (ne_eqb j.task u other)) refl (are u)
    ]

all_with : {X : Type 0} {P Q R : X → Type 0} → ((x : X) → P x → Q x → R x) → (xs : List X) → AllByRecursion P xs → AllByRecursion Q xs → AllByRecursion R xs
all_with f [] p q = tt
all_with f (x ∷ xs) p q = (f x p.0 q.0, all_with f xs p.1 q.1)

gives_given : (log : List Event) (held : List (Option WaitingTaskView)) (jobs : List JobFacts) → AllByRecursion (JobFits log held) jobs → AllByRecursion (Resting log) jobs → Apart jobs → AreGiven log → AreGiven (log ++ gives jobs)
gives_given log held [] fits resting apart are = subst AreGiven (sym (append-nil log)) are
gives_given log held (j ∷ js) fits resting apart are =
    let e : Event = Give (task j.task) j.number j.resume in
    let later : AllByRecursion (Resting (log ++ e ∷ [])) js =
    all_with (λ (i : JobFacts) (other : IsOther j.task i) (rest : Resting log i). ap (λ (l : Life). is_under_way l.stage) (life_of-push_other i.task log e (λ same. other (sym same))) ∙ rest) js apart.0 resting.1 in
    subst AreGiven (append_assoc log (e ∷ []) (gives js))
    (gives_given (log ++ e ∷ []) held js (all_map (λ i f. fits_push log held i e refl f) js fits.1) later apart.1 (give_given log j resting.0 fits.0.number are))

-- the whole end of a turn
turn_given : (script : ScriptView) (held : List (Option WaitingTaskView)) (t n : ℕ) (own : Priority) (log : List Event) (effects : List EffectView) (exit : ExitView) (after : Advanced)
    → HasNumber (life_of t log).given n → is_under_way (life_of t log).stage ≡ true → AreCounted (root_count script) log held → AreGiven log → AreGiven (turn_end script log held t n own effects exit after).log
turn_given script held t n own log effects exit after has under are given =
    let roots = root_count script in
    let start = log ++ Apply (task t) n ∷ [] in
    let done = log_after roots t own start effects in
    let P : List Event → Type 0 = λ l. Here script held t n own l × AreGiven l in
    let push : (l : List Event) (e : Event) → IsWritten roots t l e → P l → P (l ++ e ∷ []) =
    λ l e w p. (here_push script held t n own l e w p.0, written_given roots t l e w p.0.1.rest p.1) in
    let h0 : P start = (apply_push roots log held t n has under are, apply_given log t n (counted_number roots log held t n are has under) under given) in
    let h2 = keeps_exit P roots t own push done exit after.step (keeps_effects P roots t own push start effects h0) in
    let f = (turn_follows script held t n own log effects exit after has under are).1 in
    gives_given (done ++ exit_events t done exit after.step) _ _ f.jobs f.resting f.apart h2.1

-- blocks

turn_gives : (script : ScriptView) (s : Standing) (e t n : ℕ) (effects : List EffectView) (exit : ExitView) (after : Option FrameView) (job : JobFacts) (env : Env) (frame : FrameView)
    → TurnStands script s e t n effects exit job env frame → AreCounted (root_count script) s.log s.held → AreGiven s.log → AreGiven (turn_applied script s t n effects exit after).log
turn_gives script s e t n effects exit after job env frame stands are given = grind (arith, current_is, applied_is, turn_given)

root_gives : (script : ScriptView) (s : Standing) (r : ℕ) → (life_of r s.log).origin ≡ None → AreCounted (root_count script) s.log s.held → AreGiven s.log → AreGiven (s.log ++ root_events script r)
root_gives script s r none are given =
    let e : Event = Root (task r) (root_priority script r) in
    let before = (are.each r).unmade none in
    subst AreGiven (append_assoc s.log (e ∷ []) _)
    (give_given (s.log ++ e ∷ []) (root_job script r) (rest_push r s.log e refl (unbegun (are.each r) none)) (sym before.0 ∙ sym (idle_applied r s.log e refl))
    (given_idle s.log e (λ t. refl) (λ t. refl) refl given))

block_gives : (script : ScriptView) (cps : List CheckpointView) (before : List Block) (b : Block) → Stands script cps before b
    → (let s = after_blocks script (at_first script) before in AreCounted (root_count script) s.log s.held → AreGiven s.log → AreGiven (after_block script s b).log)
block_gives script cps before (added r) stands are given = root_gives script (after_blocks script (at_first script) before) r stands.1 are given
block_gives script cps before (begun t n env) stands are given = grind (arith, given_idle, current_is)
block_gives script cps before (ran e r) stands are given =
    turn_gives script (after_blocks script (at_first script) before) e r.task r.number r.effects r.exit r.after stands.job r.env r.frame stands.stands are given
block_gives script cps before (folded e f) stands are given =
    turn_gives script (after_blocks script (at_first script) before) e f.task f.number f.effects f.exit f.after stands.0.job stands.0.env stands.0.frame stands.0.stands are given

module _ (script : ScriptView) (cps : List CheckpointView) where
  abbrev At : List Block → Standing
  At bs = after_blocks script (at_first script) bs

  all_given : (before bs : List Block) → AllStand script cps before bs → AreCounted (root_count script) (At before).log (At before).held → AreGiven (At before).log → AreGiven (At (before ++ bs)).log
  all_given before [] all are given = subst (λ (xs : List Block). AreGiven (At xs).log) (sym (append-nil before)) given
  all_given before (b ∷ bs) all are given =
      let next = after_push script (at_first script) before b in
      subst (λ (xs : List Block). AreGiven (At xs).log) (append_assoc before (b ∷ []) bs)
      (all_given (before ++ b ∷ []) bs all.1
      (subst (λ (z : Standing). AreCounted (root_count script) z.log z.held) (sym next) (block_keeps script cps before b all.0 are))
      (subst (λ (z : Standing). AreGiven z.log) (sym next) (block_gives script cps before b all.0 are given)))

first_given : (script : ScriptView) → AreGiven (at_first script).log
first_given script t = subst (λ (l : Life). Owed (is_under_way l.stage) [] []) (sym (unborn_without t [] refl)) refl

-- in a legal report no turn is under way
ended_rests : (script : ScriptView) (report : ReportView) (t : ℕ) → IsLegal script report → is_under_way (life_of t report.log).stage ≡ false
ended_rests script report t legal = by (nat_lt t (length report.endings)) refl
  where
    by : (b : Bool) → nat_lt t (length report.endings) ≡ b → is_under_way (life_of t report.log).stage ≡ false
    by true is =
        let x = there report.endings t (ltb-true t (length report.endings) is) in
        let sound = any_sound script report report.log legal ([], sym (append-nil report.log)) in
        ap is_under_way (sound.rests t (ap is_some (legal.endings t x.0 x.1).1)).1
    by false is =
        let counted = all_keep script report.checkpoints [] legal.blocks legal.stand (first_counted script) in
        let le : tasks_of (root_count script) report.log ≤ t = (let many = ltb-false t (length report.endings) is in let same = legal.tasks in omega (arith, many, same)) in
        subst (λ (l : List Event). tasks_of (root_count script) l ≤ t → is_under_way (life_of t l).stage ≡ false) (sym legal.log)
        (λ beyond. unbegun (counted.each t) (counted.beyond t beyond)) le

pub given_are_applied : (script : ScriptView) (report : ReportView) (t : ℕ) → IsLegal script report → jobs_given t report.log ≡ turns_of t report.log
given_are_applied script report t legal =
    let whole : AreGiven report.log = subst AreGiven (sym legal.log) (all_given script report.checkpoints [] legal.blocks legal.stand (first_counted script) (first_given script)) in
    owed_at (jobs_given t report.log) (turns_of t report.log) false (ended_rests script report t legal) (whole t)

-- so the turn of each job that is given stands in the report

in_range : (a k n : ℕ) → In (range_with_len a k) n → n < a + k
in_range a zero n i = absurd i
in_range a (suc k) n (inl same) = omega (arith, same)
in_range a (suc k) n (inr i) = let lt = in_range (a + 1) k n i in omega (arith, lt)

pub jobs_stand : AcceptedTurnsStand → GivenJobsAreApplied → TurnsAreNumbered → AcceptedJobsStand
jobs_stand stand applied numbered script report t n resume accepted legal has =
    let is : given_job t.0 (Give t n resume) ≡ Some n = ap (λ (b : Bool). if b then Some n else None) (eq-eqb t.0 t.0 refl) in
    let gave = in_filter_map (given_job t.0) report.log (Give t n resume) n (in_contains report.log (Give t n resume) has) is in
    let turn = subst (λ (ns : List ℕ). In ns n) (applied script report t.0 legal ∙ (numbered script report t.0 legal).0) gave in
    stand script report t.0 n accepted legal (omega (arith, in_range 0 (length (turns_of t.0 report.log)) n turn))
