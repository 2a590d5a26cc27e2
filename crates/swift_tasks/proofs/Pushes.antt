-- What one more event leaves of what a book keeps.
use Rattle.swift_tasks.proofs.Prelude.{◌≡◌, ℕ, ◌<◌, List, [], ◌∷◌, ◌++◌, length, refl, sym, ◌∙◌, ap, arith, Bool, true, false, inl, inr, subst, zero, suc, append_assoc, Option, None, is_some, is_none, ◌&&◌, slice_index_or, IsSome, list_all, IsMade, cases_eq, false≢true, TaskId, Resume, Priority, Env, Event, Root, Begin, CancelTask, Give, Life, Origin, task_of, is_made, life_of, lived, is_open, is_waiting, closes, life_of-push_same, life_of-push_other, tasks_of-push_other, opened_by-push, is_closed-push_no, HoldsWaiting, Start, ScriptView, root_priority, root_events, WaitingTask, BookInvariant, UnopenedAreNotClosed}

-- An event of a task that makes none. The task waits after it exactly where it has waited before, and is open if it waits.
pub record LeavesWaits (log : List Event) (e : Event) : Type 0 where
  pub unmade : is_made e ≡ false
  pub same : is_waiting (lived (life_of (task_of e) log) e) ≡ is_waiting (life_of (task_of e) log)
  pub alive : is_waiting (lived (life_of (task_of e) log) e) ≡ true → is_open (lived (life_of (task_of e) log) e) ≡ true

pub holds_push : {A : Type 0} {roots : ℕ} {log : List Event} {held : List (Option A)} (e : Event) → LeavesWaits log e → HoldsWaiting roots log held → HoldsWaiting roots (log ++ e ∷ []) held
holds_push {A} {roots} {log} {held} e leaves holds = record {
  size = holds.size ∙ sym (tasks_of-push_other roots log e leaves.unmade);
  waits = λ t. elim (cases_eq t (task_of e)) [
    | inl eq ↦ holds.waits t ∙ ap (λ (k : ℕ). is_waiting (life_of k log)) eq ∙ sym leaves.same ∙ sym (ap is_waiting (life_of-push_same (task_of e) log e refl)) ∙ ap (λ (k : ℕ). is_waiting (life_of k (log ++ e ∷ []))) (sym eq)
    | inr ne ↦ holds.waits t ∙ sym (ap is_waiting (life_of-push_other t log e (λ q. ne (sym q))))
  ];
  alive = λ t w. elim (cases_eq t (task_of e)) [
    | inl eq ↦ (let life = life_of-push_same (task_of e) log e refl in
        let w' = subst (λ (k : ℕ). is_waiting (life_of k (log ++ e ∷ [])) ≡ true) eq w in
        subst (λ (k : ℕ). is_open (life_of k (log ++ e ∷ [])) ≡ true) (sym eq) (ap is_open life ∙ leaves.alive (sym (ap is_waiting life) ∙ w')))
    | inr ne ↦ (let life = life_of-push_other t log e (λ q. ne (sym q)) in
        ap is_open life ∙ holds.alive t (sym (ap is_waiting life) ∙ w))
  ];
}

-- an event that closes no group
pub closed_push : {log : List Event} (e : Event) → ((o g : ℕ) → closes o g e ≡ false) → UnopenedAreNotClosed log → UnopenedAreNotClosed (log ++ e ∷ [])
closed_push {log} e none closed = record {
  at = λ o g le. is_closed-push_no o g log e (none o g) ∙ closed.at o g (omega (arith, opened_by-push o log e));
}

unborn_open : (l : Life) → l.origin ≡ None → is_open l ≡ false
unborn_open l none = ap (λ (o : Option Origin). is_some o && is_none l.ending) none

rests : (b : Bool) → (b ≡ true → b ≡ false) → b ≡ false
rests true h = h refl
rests false h = refl

-- a task that was not made does not wait
pub unmade_rests : {A : Type 0} {roots : ℕ} {log : List Event} {held : List (Option A)} (t : ℕ) → HoldsWaiting roots log held → (life_of t log).origin ≡ None → is_waiting (life_of t log) ≡ false
unmade_rests {A} {roots} {log} {held} t holds none =
    rests (is_waiting (life_of t log)) (λ w. absurd (false≢true (sym (unborn_open (life_of t log) none) ∙ holds.alive t w)))

-- a root is added
pub leaves_root : {A : Type 0} {roots : ℕ} {log : List Event} {held : List (Option A)} (r : TaskId) (p : Priority) → HoldsWaiting roots log held → (life_of r.0 log).origin ≡ None → LeavesWaits log (Root r p)
leaves_root {A} {roots} {log} {held} r p holds none = record {
  unmade = refl;
  same = refl;
  alive = λ w. absurd (false≢true (sym (unmade_rests r.0 holds none) ∙ w));
}

-- a turn begins
pub leaves_begin : (log : List Event) (t : TaskId) (n : ℕ) (env : Env) → is_waiting (life_of t.0 log) ≡ false → LeavesWaits log (Begin t n env)
leaves_begin log t n env rest = record { unmade = refl; same = sym rest; alive = λ w. absurd (false≢true w) }

-- a job is made
pub leaves_give : (log : List Event) (t : TaskId) (n : ℕ) (resume : Resume) → is_waiting (life_of t.0 log) ≡ false → LeavesWaits log (Give t n resume)
leaves_give log t n resume rest = record { unmade = refl; same = sym rest; alive = λ w. absurd (false≢true w) }

-- a task is cancelled
pub leaves_cancel : {A : Type 0} {roots : ℕ} {log : List Event} {held : List (Option A)} (t : TaskId) → HoldsWaiting roots log held → LeavesWaits log (CancelTask t)
leaves_cancel {A} {roots} {log} {held} t holds = record { unmade = refl; same = refl; alive = λ w. holds.alive t.0 w }

-- such an event leaves what a book keeps
kept_with : {script : ScriptView} {roots : ℕ} {log : List Event} {held : List (Option WaitingTask)} (e : Event) → LeavesWaits log e → ((o g : ℕ) → closes o g e ≡ false) → BookInvariant script roots log held → BookInvariant script roots (log ++ e ∷ []) held
kept_with e leaves none kept = record { roots_are = kept.roots_are; holds = holds_push e leaves kept.holds; bodies = kept.bodies; closed = closed_push e none kept.closed }

pub kept_push : {script : ScriptView} {roots roots' : ℕ} {log log' : List Event} {held : List (Option WaitingTask)} (e : Event) → LeavesWaits log e → ((o g : ℕ) → closes o g e ≡ false) → BookInvariant script roots log held → roots' ≡ roots → log' ≡ log ++ e ∷ [] → BookInvariant script roots' log' held
kept_push {script} {roots} {roots'} {log} {log'} {held} e leaves none kept same more =
    subst (λ (r : ℕ). BookInvariant script r log' held) (sym same) (subst (λ (l : List Event). BookInvariant script roots l held) (sym more) (kept_with e leaves none kept))

-- a root is added, and the job of its first turn is made
pub kept_root : {script : ScriptView} {roots roots' : ℕ} {log log' : List Event} {held : List (Option WaitingTask)} (r : ℕ) → (life_of r log).origin ≡ None → BookInvariant script roots log held → roots' ≡ roots → log' ≡ log ++ root_events script r → BookInvariant script roots' log' held
kept_root {script} {roots} {roots'} {log} {log'} {held} r none kept same more =
    let t : TaskId = record { 0 = r } in
    let added : Event = Root t (root_priority script r) in
    let given : Event = Give t 0 Start in
    let once : BookInvariant script roots (log ++ added ∷ []) held = kept_with added (leaves_root t (root_priority script r) kept.holds none) (λ o g. refl) kept in
    let rests : is_waiting (life_of r (log ++ added ∷ [])) ≡ false = ap is_waiting (life_of-push_same r log added refl) ∙ unmade_rests r kept.holds none in
    kept_push given (leaves_give (log ++ added ∷ []) t 0 Start rests) (λ o g. refl) once same (more ∙ sym (append_assoc log (added ∷ []) (given ∷ [])))

-- a root that was added was made
pub root_made : (r : TaskId) (p : Priority) (log : List Event) → IsMade (log ++ Root r p ∷ []) r
root_made r p log = let P : Life → Type 0 = λ l. IsSome l.origin in subst P (sym (life_of-push_same r.0 log (Root r p) refl)) refl

and_left : (a b : Bool) → (a && b) ≡ true → a ≡ true
and_left true b h = refl
and_left false b h = h

and_right : (a b : Bool) → (a && b) ≡ true → b ≡ true
and_right true b h = h
and_right false b h = absurd (false≢true h)

-- each of some tasks was made
pub made_at : (log : List Event) (ts : List TaskId) (k : ℕ) (d : TaskId) → list_all (λ t. is_some (life_of t.0 log).origin) ts ≡ true → k < length ts → IsMade log (slice_index_or ts k d)
made_at log [] k d h lt = absurd (omega (arith, lt))
made_at log (t ∷ ts) zero d h lt = and_left (is_some (life_of t.0 log).origin) (list_all (λ t. is_some (life_of t.0 log).origin) ts) h
made_at log (t ∷ ts) (suc k) d h lt = made_at log ts k d (and_right (is_some (life_of t.0 log).origin) (list_all (λ t. is_some (life_of t.0 log).origin) ts) h) (omega (arith, lt))
