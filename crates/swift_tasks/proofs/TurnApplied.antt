-- From a book to its parts and back, around the end of a turn.
use Rattle.swift_tasks.proofs.Prelude.{◌≡◌, ℕ, zero, suc, ◌<◌, List, [], ◌∷◌, refl, sym, ◌∙◌, ap, subst, Option, Some, None, is_some, slice_index_or, AllByRecursion, length-map, ScriptView, root_count, EffectView, ExitView, JobView, BodyView, IsRunning, Event, tasks_of, JobFacts, WaitingTaskView, WaitingTask, JobFits, AreBodiesOf, BookInvariant, FitsScript, held_view, held_views, BookView, HoldsWaiting, IsEndOf, UnopenedAreNotClosed, refusal_of_apply}
use Rattle.swift_tasks.proofs.EmptyBook.{views_hold}
use Rattle.swift_tasks.proofs.TurnTaken.{taken_open, taken_fits}

-- a turn that a book does not refuse fits its parts
pub job_fits : (b : BookView) (script : ScriptView) (roots roots' : ℕ) (log log' : List Event) (held held' : List (Option WaitingTask)) (job : JobView BodyView) (es es' : List EffectView) (bodies : List (Option BodyView)) (exit : ExitView)
    → script ≡ b.script → log ≡ b.log → BookInvariant script roots log held → refusal_of_apply b.script b.log job es exit ≡ None → job.task.0 < tasks_of (root_count b.script) b.log → IsRunning job.body → job.body.script ≡ b.script
    → AreBodiesOf script es' bodies → roots' ≡ roots → log' ≡ log → held' ≡ held → es' ≡ es → JobFits script roots' log' (held_views held') job es' bodies exit
job_fits b script roots roots' log log' held held' job es es' bodies exit ss ls inv none known runs same started rs gs hs fs =
    let none' : refusal_of_apply script log job es exit ≡ None = ap (λ (s : ScriptView). refusal_of_apply s log job es exit) ss ∙ ap (λ (l : List Event). refusal_of_apply b.script l job es exit) ls ∙ none in
    let fits = taken_fits script log job es exit none' in
    let known' : job.task.0 < tasks_of roots log = subst (λ (r : ℕ). job.task.0 < tasks_of r log) (sym inv.roots_are) (subst (λ (s : ScriptView). job.task.0 < tasks_of (root_count s) log) (sym ss) (subst (λ (l : List Event). job.task.0 < tasks_of (root_count b.script) l) (sym ls) known)) in
    let first : JobFits script roots log (held_views held) job es bodies exit = record {
      turn = record { env = fits.env; begun = fits.begun; alive = taken_open script log job es exit none'; fits = fits.fits; started = subst (λ (vs : List EffectView). AreBodiesOf script vs bodies) fs started; roots_are = inv.roots_are };
      known = known';
      holds = views_hold held inv.holds;
      closed = inv.closed;
      running = runs;
      same = same ∙ sym ss;
    } in
    subst (λ (r : ℕ). JobFits script r log' (held_views held') job es' bodies exit) (sym rs)
    (subst (λ (l : List Event). JobFits script roots l (held_views held') job es' bodies exit) (sym gs)
    (subst (λ (h : List (Option WaitingTask)). JobFits script roots log (held_views h) job es' bodies exit) (sym hs)
    (subst (λ (vs : List EffectView). JobFits script roots log (held_views held) job vs bodies exit) (sym fs) first)))

some_view : (h : Option WaitingTask) → is_some h ≡ is_some (held_view h)
some_view None = refl
some_view (Some h) = refl

view_at : (held : List (Option WaitingTask)) (t : ℕ) → is_some (slice_index_or held t None) ≡ is_some (slice_index_or (held_views held) t None)
view_at [] t = refl
view_at (h ∷ hs) zero = some_view h
view_at (h ∷ hs) (suc t) = view_at hs t

-- what holds of tasks that wait as callers see them holds of them
pub holds_viewed : {roots : ℕ} {log : List Event} (held : List (Option WaitingTask)) → HoldsWaiting roots log (held_views held) → HoldsWaiting roots log held
holds_viewed held holds = record {
  size = sym (length-map held held_view) ∙ holds.size;
  waits = λ t. view_at held t ∙ holds.waits t;
  alive = holds.alive;
}

-- what a book keeps is kept
pub kept_after : (script : ScriptView) (roots roots' roots'' : ℕ) (log : List Event) (held : List (Option WaitingTask)) → roots ≡ root_count script → roots' ≡ roots → roots'' ≡ roots'
    → HoldsWaiting roots' log (held_views held) × UnopenedAreNotClosed log → AllByRecursion (FitsScript script) held → BookInvariant script roots'' log held
kept_after script roots roots' roots'' log held rs rs' rs'' kept bodies = record {
  roots_are = rs'' ∙ rs' ∙ rs;
  holds = subst (λ (r : ℕ). HoldsWaiting r log held) (sym rs'') (holds_viewed held kept.0);
  bodies = bodies;
  closed = kept.1;
}

abbrev book_of : ScriptView → List Event → List (Option WaitingTaskView) → BookView
book_of script log held = record { script = script; log = log; held = held }

-- the end of a turn of the parts is that of the book
pub end_of_book : (b : BookView) (script : ScriptView) (log log' : List Event) (held held' : List (Option WaitingTaskView)) (jobs jobs' : List JobFacts) (job : JobView BodyView) (es es' : List EffectView) (exit : ExitView) (l : List Event) (h : List (Option WaitingTaskView)) (js : List JobFacts)
    → book_of script log held ≡ b → log' ≡ log → held' ≡ held → jobs' ≡ jobs → es' ≡ es → IsEndOf (record { script = script; log = log'; held = held' }) jobs' job es' exit l h js → IsEndOf b jobs job es exit l h js
end_of_book b script log log' held held' jobs jobs' job es es' exit l h js is ls hs js' fs end =
    subst (λ (x : BookView). IsEndOf x jobs job es exit l h js) is
    (subst (λ (x : List Event). IsEndOf (book_of script x held) jobs job es exit l h js) ls
    (subst (λ (x : List (Option WaitingTaskView)). IsEndOf (book_of script log' x) jobs job es exit l h js) hs
    (subst (λ (x : List JobFacts). IsEndOf (book_of script log' held') x job es exit l h js) js' (subst (λ (x : List EffectView). IsEndOf (book_of script log' held') jobs' job x exit l h js) fs end))))
