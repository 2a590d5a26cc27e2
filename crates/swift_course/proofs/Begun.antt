-- Which turns are under way after a turn was applied, and which roots are there: none that was not before.
use Rattle.swift_course.proofs.Prelude.{◌≡◌, ◌≢◌, ◌⊎◌, ℕ, ◌+◌, ◌≤◌, ◌<◌, Bool, true, false, List, [], ◌∷◌, ◌++◌, if◌then◌else◌, replicate, length, refl, sym, ap, ◌∙◌, subst, append_assoc, arith, inl, inr, Option, Some, None, is_some, cases_eq, false≢true, append-nil, TaskId, Ending, Fault, Priority, next_of, ScriptView, root_count, EffectView, spawning, detaching, opening, adding, cancelling_task, cancelling_group, ExitView, calling, waiting, asking_next, closing, yielding, returning, failing, Advanced, Step, Run, Ended, Await, Event, Apply, CancelTask, Give, Life, Origin, JobStage, later, task_of, life_of, origin_in, stage_in, group_of, life_of-push_other, life_of-push_same, is_begun, AfterTurn, WaitingTaskView, JobFacts, TurnEnd, close_events, effect_events, end_events, exit_events, exit_resume, followed, gives, is_left_out, jobs_made, log_after, named_task, next_events, task, turn_end, wait_events}
use Rattle.swift_groups.specs.declared.answer.NextResult.{NextResult as Answer}
use Rattle.swift_groups.specs.declared.answer.NextResult.TheVariants as answer
use Rattle.swift_course.proofs.Lists.{no_one}
use Rattle.swift_course.proofs.Stages.{stage_of}
use Rattle.swift_course.proofs.Waking.{times}

-- an event that makes no root
abbrev pub MakesNoRoot : ℕ → Event → Type 0
MakesNoRoot roots e = (origin_in e ≡ None) ⊎ (roots ≤ task_of e)

pub origin_push : (roots x : ℕ) (log : List Event) (e : Event) → MakesNoRoot roots e → x < roots → (life_of x (log ++ e ∷ [])).origin ≡ (life_of x log).origin
origin_push roots x log e (inl none) lt = elim (cases_eq (task_of e) x) [
  | inl same ↦ ap (λ (l : Life). l.origin) (life_of-push_same x log e same) ∙ ap (λ (o : Option Origin). later o (life_of x log).origin) none
  | inr apart ↦ ap (λ (l : Life). l.origin) (life_of-push_other x log e apart)
]
origin_push roots x log e (inr le) lt = ap (λ (l : Life). l.origin) (life_of-push_other x log e (λ same. omega (arith, same, le, lt)))

-- an event that makes no root, and begins no turn
abbrev IsMild : ℕ → Event → Type 0
IsMild roots e = (is_begun (stage_in e) ≡ false) × MakesNoRoot roots e

abbrev AreMild : ℕ → List Event → Type 0
AreMild roots [] = Unit {0}
AreMild roots (e ∷ es) = IsMild roots e × AreMild roots es

-- A turn of task `x` that is under way in a later log was so in the earlier one, and the first roots come from where they came.
record GoesOn (roots x : ℕ) (log log' : List Event) : Type 0 where
  begun : is_begun (stage_of x log') ≡ true → is_begun (stage_of x log) ≡ true
  origin : x < roots → (life_of x log').origin ≡ (life_of x log).origin

goes_nowhere : (roots x : ℕ) (log : List Event) → GoesOn roots x log log
goes_nowhere roots x log = record { begun = λ is. is; origin = λ lt. refl }

goes_further : (roots x : ℕ) (log mid log' : List Event) → GoesOn roots x log mid → GoesOn roots x mid log' → GoesOn roots x log log'
goes_further roots x log mid log' a b = record { begun = λ is. a.begun (b.begun is); origin = λ lt. b.origin lt ∙ a.origin lt }

later_begun : (o s : Option JobStage) → is_begun o ≡ false → is_begun (later o s) ≡ true → is_begun s ≡ true
later_begun None s quiet is = is
later_begun (Some y) s quiet is = absurd (false≢true (sym quiet ∙ is))

event_goes : (roots x : ℕ) (log : List Event) (e : Event) → IsMild roots e → GoesOn roots x log (log ++ e ∷ [])
event_goes roots x log e mild = record {
  begun = λ is. elim (cases_eq (task_of e) x) [
    | inl same ↦ later_begun (stage_in e) (stage_of x log) mild.0 (sym (ap (λ (l : Life). is_begun l.stage) (life_of-push_same x log e same)) ∙ is)
    | inr apart ↦ sym (ap (λ (l : Life). is_begun l.stage) (life_of-push_other x log e apart)) ∙ is
  ];
  origin = origin_push roots x log e mild.1;
}

events_go : (es : List Event) (roots x : ℕ) (log : List Event) → AreMild roots es → GoesOn roots x log (log ++ es)
events_go [] roots x log mild = subst (GoesOn roots x log) (sym (append-nil log)) (goes_nowhere roots x log)
events_go (e ∷ es) roots x log mild =
    subst (GoesOn roots x log) (append_assoc log (e ∷ []) es)
    (goes_further roots x log (log ++ e ∷ []) ((log ++ e ∷ []) ++ es) (event_goes roots x log e mild.0) (events_go es roots x (log ++ e ∷ []) mild.1))

-- what a turn writes

mild_either : (roots : ℕ) (b : Bool) (es fs : List Event) → AreMild roots es → AreMild roots fs → AreMild roots (if b then es else fs)
mild_either roots true es fs p q = p
mild_either roots false es fs p q = q

effect_mild : (roots t : ℕ) (own : Priority) (log : List Event) (e : EffectView) → AreMild roots (effect_events roots t own log e)
effect_mild roots t own log opening = ((refl, inl refl), tt)
effect_mild roots t own log (adding g unless i p bindings) = mild_either roots (is_left_out t g unless log) _ _ ((refl, inl refl), tt) ((refl, inr (omega arith)), tt)
effect_mild roots t own log (cancelling_task name) = mild_either roots (is_some (life_of (named_task t name log).0 log).ending) [] (CancelTask (named_task t name log) ∷ []) tt ((refl, inl refl), tt)
effect_mild roots t own log (cancelling_group g) = ((refl, inl refl), tt)
effect_mild roots t own log _ = ((refl, inr (omega arith)), tt)

effects_go : (es : List EffectView) (roots t x : ℕ) (own : Priority) (log : List Event) → GoesOn roots x log (log_after roots t own log es)
effects_go [] roots t x own log = goes_nowhere roots x log
effects_go (e ∷ es) roots t x own log =
    let events = effect_events roots t own log e in
    goes_further roots x log (log ++ events) (log_after roots t own (log ++ events) es) (events_go events roots x log (effect_mild roots t own log e)) (effects_go es roots t x own (log ++ events))

wait_mild : (roots t : ℕ) (awaited : TaskId) (o : Option Ending) → AreMild roots (wait_events t awaited o)
wait_mild roots t awaited (Some e) = tt
wait_mild roots t awaited None = ((refl, inl refl), tt)

next_mild : (roots t g : ℕ) (a : Answer) → AreMild roots (next_events t g a)
next_mild roots t g answer.Empty = tt
next_mild roots t g _ = ((refl, inl refl), tt)

close_mild : (roots t g : ℕ) (f : Option Fault) → AreMild roots (close_events t g f)
close_mild roots t g None = ((refl, inl refl), tt)
close_mild roots t g (Some f) = ((refl, inl refl), ((refl, inl refl), tt))

end_mild : (roots t : ℕ) (s : Step) → AreMild roots (end_events t s)
end_mild roots t (Ended e) = ((refl, inl refl), tt)
end_mild roots t _ = tt

exit_mild : (roots t : ℕ) (log : List Event) (exit : ExitView) (step : Step) → AreMild roots (exit_events t log exit step)
exit_mild roots t log (waiting name) step = wait_mild roots t (named_task t name log) (life_of (named_task t name log).0 log).ending
exit_mild roots t log (asking_next g) step = next_mild roots t g (next_of (group_of t g log))
exit_mild roots t log (closing g f) step = close_mild roots t g f
exit_mild roots t log _ step = end_mild roots t step

gives_mild : (js : List JobFacts) (roots : ℕ) → AreMild roots (gives js)
gives_mild [] roots = tt
gives_mild (j ∷ js) roots = ((refl, inl refl), gives_mild js roots)

-- a task that is given a job has no turn under way then
gives_none : (js : List JobFacts) (roots x : ℕ) (log : List Event) → is_begun (stage_of x (log ++ gives js)) ≡ true → times x js ≡ 0
gives_none [] roots x log is = refl
gives_none (j ∷ js) roots x log is =
    let give : Event = Give (task j.task) j.number j.resume in
    let after = log ++ give ∷ [] in
    let is' : is_begun (stage_of x (after ++ gives js)) ≡ true = subst (λ (l : List Event). is_begun (stage_of x l) ≡ true) (sym (append_assoc log (give ∷ []) (gives js))) is in
    let now : is_begun (stage_of x after) ≡ true = (events_go (gives js) roots x after (gives_mild js roots)).begun is' in
    let apart : x ≢ j.task =
    (λ same. false≢true (sym (ap (λ (l : Life). is_begun l.stage) (life_of-push_same x log give (sym same))) ∙ now))
    in
    omega (arith, gives_none js roots x after is', no_one x j.task apart)

-- At the end of a turn its own task has none under way, nor has one that was given a job. The first roots come from where they came.
pub record TurnKeeps (roots t x : ℕ) (log : List Event) (e : TurnEnd) : Type 0 where
  pub origin : x < roots → (life_of x e.log).origin ≡ (life_of x log).origin
  pub was : is_begun (stage_of x e.log) ≡ true → is_begun (stage_of x log) ≡ true
  pub other : is_begun (stage_of x e.log) ≡ true → x ≢ t
  pub none : is_begun (stage_of x e.log) ≡ true → times x e.jobs ≡ 0

pub turn_keeps : (script : ScriptView) (log : List Event) (held : List (Option WaitingTaskView)) (t n x : ℕ) (own : Priority) (effects : List EffectView) (exit : ExitView) (after : Advanced)
    → TurnKeeps (root_count script) t x log (turn_end script log held t n own effects exit after)
turn_keeps script log held t n x own effects exit after =
    let roots = root_count script in
    let apply : Event = Apply (task t) n in
    let start = log ++ apply ∷ [] in
    let done = log_after roots t own start effects in
    let written = done ++ exit_events t done exit after.step in
    let made = jobs_made script t own start effects in
    let f0 : AfterTurn = record { held = held ++ replicate (length made) None; jobs = made } in
    let f = followed t (n + 1) after.task (exit_resume t done exit after.step) after.step written f0 in
    let last = written ++ gives f.jobs in
    let rest : GoesOn roots x start last =
    goes_further roots x start done last (effects_go effects roots t x own start)
    (goes_further roots x done written last (events_go (exit_events t done exit after.step) roots x done (exit_mild roots t done exit after.step)) (events_go (gives f.jobs) roots x written (gives_mild f.jobs roots)))
    in
    let all : GoesOn roots x log last = goes_further roots x log start last (event_goes roots x log apply (refl, inl refl)) rest in
    record {
      origin = all.origin;
      was = all.begun;
      other = λ is same. false≢true (sym (ap (λ (l : Life). is_begun l.stage) (life_of-push_same x log apply (sym same))) ∙ rest.begun is);
      none = gives_none f.jobs roots x written;
    }
