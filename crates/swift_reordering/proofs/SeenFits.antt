-- Whether a turn fits, by two logs that are one as far as one looks at lives.
use Rattle.swift_reordering.proofs.Prelude.{◌≡◌, ℕ, List, [], ◌∷◌, length, refl, ap, ap₂, Bool, Option, ◌&&◌, nat_lt, not, is_some, ScriptView, root_count, TaskName, Own, EffectView, adding, cancelling_task, cancelling_group, ExitView, waiting, asking_next, closing, Event, Counters, counters, can_name, can_use, can_run, fits_effect, counted, fits_exit, fits_turn, Life}
use Rattle.swift_interpreter.specs.declared.effect.TaskName.TheVariants.{Root as RootName}
use Rattle.swift_reordering.proofs.Sights.{IsSight, AreSeen, seen_origin, seen_own, seen_opened, seen_closed}

-- whether a turn fits

module _ (sees : ℕ → Life → Life) (sight : IsSight sees) (a b : List Event) (same : AreSeen sees a b) (script : ScriptView) (t : ℕ) where
  seen_can_name : (c : Counters) (name : TaskName) → can_name script a c name ≡ can_name script b c name
  seen_can_name c (RootName r) = ap (λ (o : Option _). nat_lt r.0 (root_count script) && is_some o) (seen_origin sees sight a b same r.0)
  seen_can_name c (Own k) = refl

  seen_can_use : (c : Counters) (g : ℕ) → can_use t a c g ≡ can_use t b c g
  seen_can_use c g = ap (λ (x : Bool). nat_lt g c.opened && not x) (seen_closed sees sight a b same t g)

  seen_fit : (c : Counters) (e : EffectView) → fits_effect script t a c e ≡ fits_effect script t b c e
  seen_fit c (adding g unless i p bindings) = ap (λ (x : Bool). nat_lt 0 c.room && (x && can_run script i)) (seen_can_use c g)
  seen_fit c (cancelling_task name) = seen_can_name c name
  seen_fit c (cancelling_group g) = seen_can_use c g
  seen_fit c _ = refl

  seen_fit_exit : (c : Counters) (exit : ExitView) → fits_exit script t a c exit ≡ fits_exit script t b c exit
  seen_fit_exit c (waiting name) = seen_can_name c name
  seen_fit_exit c (asking_next g) = seen_can_use c g
  seen_fit_exit c (closing g f) = seen_can_use c g
  seen_fit_exit c _ = refl

  pub seen_fits : (es : List EffectView) (c : Counters) (exit : ExitView) → fits_turn script t a c es exit ≡ fits_turn script t b c es exit
  seen_fits [] c exit = seen_fit_exit c exit
  seen_fits (e ∷ es) c exit = ap₂ (λ (x y : Bool). x && y) (seen_fit c e) (seen_fits es (counted c e) exit)

  pub seen_counters : (room : ℕ) → counters t a room ≡ counters t b room
  seen_counters room = ap₂ (λ (own opened : ℕ). record { own = own; opened = opened; room = room }) (ap length (seen_own sees sight a b same t)) (seen_opened sees sight a b same t)
