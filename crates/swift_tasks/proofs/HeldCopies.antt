-- Copies of tasks that wait.
use Rattle.swift_tasks.proofs.Prelude.{◌≡◌, ℕ, List, [], ◌∷◌, refl, sym, subst, ap, ◌∙◌, Option, AllByRecursion, AllZip, ScriptView, Event, WaitingTaskView, WaitingTask, HoldsWaiting, BookInvariant, FitsScript, IsSameHeld, held_view, held_views}
use Rattle.swift_tasks.proofs.EmptyBook.{book_of, views_hold}
use Rattle.swift_tasks.proofs.TurnApplied.{holds_viewed}

pub same_views : (xs ys : List (Option WaitingTask)) → AllZip IsSameHeld xs ys → held_views ys ≡ held_views xs
same_views [] [] same = refl
same_views [] (y ∷ ys) same = absurd same
same_views (x ∷ xs) [] same = absurd same
same_views (x ∷ xs) (y ∷ ys) same = ap (λ (v : Option WaitingTaskView). v ∷ held_views ys) same.0.view ∙ ap (λ (vs : List (Option WaitingTaskView)). held_view x ∷ vs) (same_views xs ys same.1)

pub same_fits : (script : ScriptView) (xs ys : List (Option WaitingTask)) → AllZip IsSameHeld xs ys → AllByRecursion (FitsScript script) xs → AllByRecursion (FitsScript script) ys
same_fits script [] [] same all = tt
same_fits script [] (y ∷ ys) same all = absurd same
same_fits script (x ∷ xs) [] same all = absurd same
same_fits script (x ∷ xs) (y ∷ ys) same all = (same.0.fits script all.0, same_fits script xs ys same.1 all.1)

-- what a book keeps of those that wait holds of copies of them too
pub same_invariant : {script : ScriptView} {roots : ℕ} {log : List Event} (xs ys : List (Option WaitingTask)) → AllZip IsSameHeld xs ys → BookInvariant script roots log xs → BookInvariant script roots log ys
same_invariant {script} {roots} {log} xs ys same inv = record {
  roots_are = inv.roots_are;
  holds = holds_viewed ys (subst (HoldsWaiting roots log) (sym (same_views xs ys same)) (views_hold xs inv.holds));
  bodies = same_fits script xs ys same inv.bodies;
  closed = inv.closed;
}

pub same_book : (s s' : ScriptView) (l l' : List Event) (h h' : List (Option WaitingTaskView)) → s' ≡ s → l' ≡ l → h' ≡ h → book_of s' l' h' ≡ book_of s l h
same_book s s' l l' h h' script log held =
    ap (λ (x : ScriptView). book_of x l' h') script ∙ ap (λ (x : List Event). book_of s x h') log ∙ ap (λ (x : List (Option WaitingTaskView)). book_of s l x) held
