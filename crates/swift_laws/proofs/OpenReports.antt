-- The laws of legal reports.
use Rattle.swift_laws.proofs.Prelude.{◌≡◌, ◌≢◌, inl, inr, ℕ, zero, suc, ◌<◌, true, List, [], ◌∷◌, ◌++◌, length, refl, subst, ap, ◌∙◌, arith, Some, IsTrue, Contains, none-some, TaskId, Priority, WasAccepted, ScriptView, root_count, Event, Root, Free, Child, Wait, tasks_of, life_of, opened_by, is_closed, link_in, links_of, IsLegal, ReportView, TurnPlace, HasTurn, turns_of, AppliedTurnsStand, HasEnded, IsPrefix}
use Rattle.swift_escalation.specs.declared.waits.PriorityEvent.TheVariants as link
use Rattle.swift_escalation.specs.Waits.{Reaches}
use Rattle.swift_events.specs.declared.life.JobStage.TheVariants.{Waits, Closes}
use Rattle.swift_laws.proofs.OpenLogs.{In, in_contains, tasks_grow, opened_grow, Sound, sound_front, closed_front, free_ended}
use Rattle.swift_laws.proofs.OpenGroups.{from_filter_map}
use Rattle.swift_laws.proofs.OpenHistories.{legal_leads}
use Rattle.swift_laws.proofs.OpenExecutors.{runs_on_executor}

-- what holds of each legal report

pub any_sound : (script : ScriptView) (report : ReportView) (front : List Event) → IsLegal script report → IsPrefix report front → Sound (root_count script) front
any_sound script report front legal is = sound_front (root_count script) report.log front is.0 (legal_leads script report legal) is.1

pub waiters_go_on : (script : ScriptView) (report : ReportView) (front : List Event) (t u : TaskId)
    → IsLegal script report → IsPrefix report front → Contains front (Wait t u) → (life_of t.0 front).stage ≢ Some (Waits u) → HasEnded u.0 front
waiters_go_on script report front t u legal is has other =
    elim ((any_sound script report front legal is).waits t u (in_contains front (Wait t u) has)).1 [ inl ended ↦ ended | inr at ↦ absurd (other at) ]

pub owners_go_on : (script : ScriptView) (report : ReportView) (front : List Event) (t u : TaskId) (g : ℕ) (p : Priority)
    → IsLegal script report → IsPrefix report front → Contains front (Child u t g p) → IsTrue (is_closed t.0 g front) → (life_of t.0 front).stage ≢ Some (Closes g) → HasEnded u.0 front
owners_go_on script report front t u g p legal is has closed other =
    elim (((any_sound script report front legal is).children u t g p (in_contains front (Child u t g p) has)).2 closed) [ inl ended ↦ ended | inr at ↦ absurd (other at) ]

pub waits_for_none : (script : ScriptView) (report : ReportView) (front : List Event) (t u : TaskId) → IsLegal script report → IsPrefix report front → HasEnded t.0 front → Contains front (Wait t u) → HasEnded u.0 front
waits_for_none script report front t u legal is ended has =
    (free_ended (root_count script) t.0 front (any_sound script report front legal is) ended).waits t u refl (in_contains front (Wait t u) has)

pub leaves_none_closed : (script : ScriptView) (report : ReportView) (front : List Event) (t u : TaskId) (g : ℕ) (p : Priority)
    → IsLegal script report → IsPrefix report front → HasEnded t.0 front → IsTrue (is_closed t.0 g front) → Contains front (Child u t g p) → HasEnded u.0 front
leaves_none_closed script report front t u g p legal is ended closed has =
    (free_ended (root_count script) t.0 front (any_sound script report front legal is) ended).children u t g p refl (in_contains front (Child u t g p) has) closed

-- each group that an ended task has opened is closed
groups_closed : (script : ScriptView) (report : ReportView) (front : List Event) (t g : ℕ) → IsLegal script report → IsPrefix report front → HasEnded t front → g < opened_by t front → is_closed t g front ≡ true
groups_closed script report front t g legal is ended opened =
    let roots : ℕ = root_count script in
    let sound = any_sound script report front legal is in
    let low : t < tasks_of roots front = sound.low t (sound.born t (sound.rests t ended).0) in
    let tasks = tasks_grow roots front is.0 in
    let many : length report.endings ≡ tasks_of roots (front ++ is.0) = legal.tasks ∙ ap (tasks_of roots) is.1 in
    let groups = opened_grow t front is.0 in
    let all : opened_by t report.log ≡ opened_by t (front ++ is.0) = ap (opened_by t) is.1 in
    closed_front roots t g report.log front is.0 (legal_leads script report legal) is.1 ended (legal.groups t g (omega (arith, low, tasks, many)) (omega (arith, opened, groups, all)))

pub leaves_no_children : (script : ScriptView) (report : ReportView) (front : List Event) (t u : TaskId) (g : ℕ) (p : Priority)
    → IsLegal script report → IsPrefix report front → HasEnded t.0 front → Contains front (Child u t g p) → HasEnded u.0 front
leaves_no_children script report front t u g p legal is ended has =
    let child = (any_sound script report front legal is).children u t g p (in_contains front (Child u t g p) has) in
    leaves_none_closed script report front t u g p legal is ended (groups_closed script report front t.0 g legal is ended child.1) has

-- an ended task reaches only ended ones

contains_in : {A : Type 0} (xs : List A) (x : A) → In xs x → Contains xs x
contains_in [] x i = absurd i
contains_in (y ∷ ys) x (inl q) = (zero, omega arith, q)
contains_in (y ∷ ys) x (inr i) = let c = contains_in ys x i in (suc c.0, (let lt = c.1 in omega (arith, lt)), c.2)

child_link : (e : Event) (b a : TaskId) (p : Priority) → link_in e ≡ Some (link.Child b a p) → (g : ℕ) × (e ≡ Child b a g p)
child_link (Child t o g q) b a p is = (g, cc)
child_link (Root t q) b a p is = absurd cc
child_link (Free t by q d) b a p is = absurd cc
child_link (Wait t x) b a p is = absurd cc
child_link e b a p is = absurd (none-some (link.Child b a p) is)

wait_link : (e : Event) (a b : TaskId) → link_in e ≡ Some (link.Wait a b) → e ≡ Wait a b
wait_link (Wait t x) a b is = cc
wait_link (Child t o g q) a b is = absurd cc
wait_link (Root t q) a b is = absurd cc
wait_link (Free t by q d) a b is = absurd cc
wait_link e a b is = absurd (none-some (link.Wait a b) is)

child_of_link : (log : List Event) (b a : TaskId) (p : Priority) → Contains (links_of log) (link.Child b a p) → (g : ℕ) × Contains log (Child b a g p)
child_of_link log b a p has =
    let f = from_filter_map link_in log (link.Child b a p) (in_contains (links_of log) (link.Child b a p) has) in
    let is = child_link f.0 b a p f.2 in
    (is.0, contains_in log (Child b a is.0 p) (subst (In log) is.1 f.1))

wait_of_link : (log : List Event) (a b : TaskId) → Contains (links_of log) (link.Wait a b) → Contains log (Wait a b)
wait_of_link log a b has =
    let f = from_filter_map link_in log (link.Wait a b) (in_contains (links_of log) (link.Wait a b) has) in
    contains_in log (Wait a b) (subst (In log) (wait_link f.0 a b f.2) f.1)

pub reach_ended : (script : ScriptView) (report : ReportView) (front : List Event) (n : ℕ) (t u : TaskId)
    → IsLegal script report → IsPrefix report front → HasEnded t.0 front → Reaches (links_of front) n t u → HasEnded u.0 front
reach_ended script report front zero t u legal is ended reach = subst (λ (x : TaskId). HasEnded x.0 front) reach ended
reach_ended script report front (suc n) t u legal is ended reach =
    let m : TaskId = reach.0 in
    let mid : HasEnded m.0 front = reach_ended script report front n t m legal is ended reach.1 in
    elim reach.2 [
      | inl child ↦ (let c = child_of_link front u m child.0 child.1 in leaves_no_children script report front m u c.0 child.0 legal is mid c.1)
      | inr wait ↦ waits_for_none script report front m u legal is mid (wait_of_link front m u wait)
    ]

pub turns_stand : AppliedTurnsStand → (script : ScriptView) (report : ReportView) (t n : ℕ) → WasAccepted script → IsLegal script report → n < length (turns_of t report.log) → (p : TurnPlace) × HasTurn report p t n
turns_stand stand script report t n accepted legal lt = stand script report t n legal (runs_on_executor script accepted) lt
