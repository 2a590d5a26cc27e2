-- A book in which no task waits, and tasks that wait as callers see them.
use Rattle.swift_tasks.proofs.Prelude.{get_or, ◌≡◌, ℕ, List, [], ◌∷◌, refl, sym, ◌∙◌, ap, subst, arith, zero, suc, replicate, false, Option, Some, None, is_some, slice_index_or, AllByRecursion, false≢true, length-replicate, length-map, ScriptView, root_count, LedgerView, Event, is_waiting, unborn_without, WaitingTaskView, WaitingTask, HoldsWaiting, BookView, empty_book, UnopenedAreNotClosed, BookInvariant, held_view, held_views, FitsScript}

none_at : (A : Type 0) (n t : ℕ) → is_some (get_or {A = Option A} (replicate n None) t None) ≡ false
none_at A zero t = refl
none_at A (suc n) zero = refl
none_at A (suc n) (suc t) = none_at A n t

pub empty_holds : {A : Type 0} (roots : ℕ) → HoldsWaiting {A = A} roots [] (replicate roots None)
empty_holds {A} roots = record {
  size = length-replicate roots None ∙ omega arith;
  waits = λ t. none_at A roots t ∙ sym (ap is_waiting (unborn_without t [] refl));
  alive = λ t w. absurd (false≢true (sym (ap is_waiting (unborn_without t [] refl)) ∙ w));
}

pub empty_views : (n : ℕ) → held_views (replicate n None) ≡ replicate n None
empty_views zero = refl
empty_views (suc n) = ap (λ hs. None ∷ hs) (empty_views n)

pub empty_bodies : (script : ScriptView) (n : ℕ) → AllByRecursion (FitsScript script) (replicate n None)
empty_bodies script zero = tt
empty_bodies script (suc n) = (tt, empty_bodies script n)

some_view : (h : Option WaitingTask) → is_some (held_view h) ≡ is_some h
some_view None = refl
some_view (Some h) = refl

view_at : (held : List (Option WaitingTask)) (t : ℕ) → is_some (slice_index_or (held_views held) t None) ≡ is_some (slice_index_or held t None)
view_at [] t = refl
view_at (h ∷ hs) zero = some_view h
view_at (h ∷ hs) (suc t) = view_at hs t

pub views_hold : {roots : ℕ} {log : List Event} (held : List (Option WaitingTask)) → HoldsWaiting roots log held → HoldsWaiting roots log (held_views held)
views_hold held holds = record {
  size = length-map held held_view ∙ holds.size;
  waits = λ t. view_at held t ∙ holds.waits t;
  alive = holds.alive;
}

pub empty_closed : UnopenedAreNotClosed []
empty_closed = record { at = λ o g le. refl }

abbrev pub book_of : ScriptView → List Event → List (Option WaitingTaskView) → BookView
book_of script log held = record { script = script; log = log; held = held }

-- a new book keeps what it has to
pub empty_kept : (script : ScriptView) (ledger : LedgerView) (held : List (Option WaitingTask)) {roots : ℕ} → roots ≡ root_count script → ledger ≡ record { roots = roots; log = []; spare = 0 } → held ≡ replicate roots None → BookInvariant script ledger.roots ledger.log held
empty_kept script ledger held {roots} count new none =
    subst (λ (l : LedgerView). BookInvariant script l.roots l.log held) (sym new)
    (subst (λ (hs : List (Option WaitingTask)). BookInvariant script roots [] hs) (sym none)
    (record { roots_are = count; holds = empty_holds roots; bodies = empty_bodies script roots; closed = empty_closed }))

-- a new book is empty
pub new_is_empty : (script : ScriptView) (log : List Event) (held : List (Option WaitingTask)) (roots : ℕ) → roots ≡ root_count script → log ≡ [] → held ≡ replicate roots None → book_of script log (held_views held) ≡ empty_book script
new_is_empty script log held roots count none rest =
    ap (λ (l : List Event). book_of script l (held_views held)) none
    ∙ ap (λ (hs : List (Option WaitingTaskView)). book_of script [] hs) (ap held_views rest ∙ empty_views roots ∙ ap (λ (n : ℕ). replicate n None) count)
