-- Which events the end of a turn writes, and what they keep.
use Rattle.swift_laws.proofs.Prelude.{◌≡◌, ℕ, List, [], ◌∷◌, ◌++◌, refl, sym, Bool, true, false, subst, append_assoc, Option, Some, None, is_some, if◌then◌else◌, unwrap_or, append-nil, TaskId, Ending, Fault, Priority, Background, next_of, EffectView, spawning, detaching, opening, adding, cancelling_task, cancelling_group, ExitView, waiting, asking_next, closing, Step, Ended, Event, Free, Open, Child, Skip, CancelTask, CancelGroup, Wait, Next, Close, End, tasks_of, life_of, opened_by, group_of, task, named_task, effect_events, is_left_out, log_after, next_events, close_events, wait_events, end_events, exit_events}
use Rattle.swift_groups.specs.declared.answer.NextResult.{NextResult as Answer}
use Rattle.swift_groups.specs.declared.answer.NextResult.TheVariants as answer

-- what the turn of a task writes between its being applied and the jobs that it makes, by the log before the event: a task that
-- is made has the next number, and each other event but a cancel is of the task itself
abbrev pub IsWritten : ℕ → ℕ → List Event → Event → Type 0
IsWritten roots t log (Free made by p detached) = (made.0 ≡ tasks_of roots log) × (by.0 ≡ t)
IsWritten roots t log (Child made o g p) = (made.0 ≡ tasks_of roots log) × (o.0 ≡ t)
IsWritten roots t log (Open o g) = o.0 ≡ t
IsWritten roots t log (Skip o g) = o.0 ≡ t
IsWritten roots t log (CancelTask u) = Unit {0}
IsWritten roots t log (CancelGroup o g) = o.0 ≡ t
IsWritten roots t log (Wait u awaited) = u.0 ≡ t
IsWritten roots t log (Next o g) = o.0 ≡ t
IsWritten roots t log (Close o g) = o.0 ≡ t
IsWritten roots t log (End u ending) = u.0 ≡ t
IsWritten roots t log _ = ⊥

-- a property of logs that each such event keeps is kept by effects and exits
module _ (P : List Event → Type 0) (roots t : ℕ) (own : Priority) (keeps : (log : List Event) (e : Event) → IsWritten roots t log e → P log → P (log ++ e ∷ [])) where
  keeps_nothing : (log : List Event) → P log → P (log ++ [])
  keeps_nothing log is = subst P (sym (append-nil log)) is

  keeps_either : (log es fs : List Event) (b : Bool) → P (log ++ es) → P (log ++ fs) → P (log ++ (if b then es else fs))
  keeps_either log es fs true p q = p
  keeps_either log es fs false p q = q

  pub keeps_effect : (log : List Event) (e : EffectView) → P log → P (log ++ effect_events roots t own log e)
  keeps_effect log (spawning i p bindings) is = keeps log (Free (task (tasks_of roots log)) (task t) (unwrap_or p own) false) (refl, refl) is
  keeps_effect log (detaching i p) is = keeps log (Free (task (tasks_of roots log)) (task t) p true) (refl, refl) is
  keeps_effect log opening is = keeps log (Open (task t) (opened_by t log)) refl is
  keeps_effect log (adding g unless i p bindings) is =
      keeps_either log (Skip (task t) g ∷ []) (Child (task (tasks_of roots log)) (task t) g (unwrap_or p Background) ∷ []) (is_left_out t g unless log)
      (keeps log (Skip (task t) g) refl is)
      (keeps log (Child (task (tasks_of roots log)) (task t) g (unwrap_or p Background)) (refl, refl) is)
  keeps_effect log (cancelling_task name) is =
      keeps_either log [] (CancelTask (named_task t name log) ∷ []) (is_some (life_of (named_task t name log).0 log).ending)
      (keeps_nothing log is)
      (keeps log (CancelTask (named_task t name log)) tt is)
  keeps_effect log (cancelling_group g) is = keeps log (CancelGroup (task t) g) refl is

  pub keeps_effects : (log : List Event) (es : List EffectView) → P log → P (log_after roots t own log es)
  keeps_effects log [] is = is
  keeps_effects log (e ∷ es) is = keeps_effects (log ++ effect_events roots t own log e) es (keeps_effect log e is)

  keeps_wait : (log : List Event) (awaited : TaskId) (o : Option Ending) → P log → P (log ++ wait_events t awaited o)
  keeps_wait log awaited (Some e) is = keeps_nothing log is
  keeps_wait log awaited None is = keeps log (Wait (task t) awaited) refl is

  keeps_next : (log : List Event) (g : ℕ) (a : Answer) → P log → P (log ++ next_events t g a)
  keeps_next log g answer.Empty is = keeps_nothing log is
  keeps_next log g _ is = keeps log (Next (task t) g) refl is

  keeps_close : (log : List Event) (g : ℕ) (f : Option Fault) → P log → P (log ++ close_events t g f)
  keeps_close log g None is = keeps log (Close (task t) g) refl is
  keeps_close log g (Some f) is =
      subst P (append_assoc log (CancelGroup (task t) g ∷ []) (Close (task t) g ∷ []))
      (keeps (log ++ CancelGroup (task t) g ∷ []) (Close (task t) g) refl (keeps log (CancelGroup (task t) g) refl is))

  keeps_end : (log : List Event) (step : Step) → P log → P (log ++ end_events t step)
  keeps_end log (Ended e) is = keeps log (End (task t) e) refl is
  keeps_end log _ is = keeps_nothing log is

  pub keeps_exit : (log : List Event) (exit : ExitView) (step : Step) → P log → P (log ++ exit_events t log exit step)
  keeps_exit log (waiting name) step is = keeps_wait log (named_task t name log) (life_of (named_task t name log).0 log).ending is
  keeps_exit log (asking_next g) step is = keeps_next log g (next_of (group_of t g log)) is
  keeps_exit log (closing g f) step is = keeps_close log g f is
  keeps_exit log _ step is = keeps_end log step is
