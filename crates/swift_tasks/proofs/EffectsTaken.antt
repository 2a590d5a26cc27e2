-- The effects of a turn, taken one by one.
use Rattle.swift_tasks.proofs.Prelude.{◌≡◌, ℕ, zero, suc, ◌<◌, List, [], ◌∷◌, ◌++◌, length, get_or, drop, refl, sym, ◌∙◌, ap, arith, Option, reverse, reverse-append, Priority, ScriptView, effect_views, EffectView, ExitView, Effect, BodyView, Event, reserved_of, Counters, counters, fits_effect, fits_turn, counted, effect_events, CanTake, CanTakeAll, CanLeave, AreBodiesOf, IsBodyOf}
use Rattle.swift_tasks.proofs.Fitting.{left, right}
use Rattle.swift_tasks.proofs.Grows.{effect_grows}
use Rattle.swift_tasks.proofs.Counting.{counters_step, room_step, can_take, can_leave, fits_on}

pub drop_at : {A : Type 0} (xs : List A) (k : ℕ) (x : A) → k < length xs → x ≡ get_or xs k x → drop k xs ≡ x ∷ drop (suc k) xs
drop_at [] k x lt is = absurd (omega (arith, lt))
drop_at (y ∷ ys) zero x lt is = ap (λ z. z ∷ ys) (sym is)
drop_at (y ∷ ys) (suc k) x lt is = drop_at ys k x (omega (arith, lt)) is

pub drop_all : {A : Type 0} (xs : List A) → drop (length xs) xs ≡ []
drop_all [] = refl
drop_all (x ∷ xs) = drop_all xs

-- past the last effect there is none
pub none_left : (es : List Effect) (k : ℕ) → k ≡ length es → effect_views (drop k es) ≡ []
none_left es k end = ap (λ (n : ℕ). effect_views (drop n es)) end ∙ ap effect_views (drop_all es)

-- the first effect may take place
pub take_first : (roots t : ℕ) (log : List Event) (e : EffectView) (es : List EffectView) (bodies : List (Option BodyView)) (exit : ExitView) → CanTakeAll roots t log (e ∷ es) bodies exit → CanTake roots t log e
take_first roots t log e es bodies exit can =
    can_take roots t can.script log can.room e (left (fits_effect can.script t log (counters t log can.room) e) (fits_turn can.script t log (counted (counters t log can.room) e) es exit) can.fits) can.left

-- after it the others may
pub take_rest : (roots t : ℕ) (own : Priority) (log : List Event) (e : EffectView) (es : List EffectView) (b : Option BodyView) (bs : List (Option BodyView)) (exit : ExitView)
    → reserved_of roots (log ++ effect_events roots t own log e) ≡ reserved_of roots log → CanTakeAll roots t log (e ∷ es) (b ∷ bs) exit → CanTakeAll roots t (log ++ effect_events roots t own log e) es bs exit
take_rest roots t own log e es b bs exit same can =
    let log' : List Event = log ++ effect_events roots t own log e in
    let c : Counters = counters t log can.room in
    let first = left (fits_effect can.script t log c e) (fits_turn can.script t log (counted c e) es exit) can.fits in
    let others = right (fits_effect can.script t log c e) (fits_turn can.script t log (counted c e) es exit) can.fits in
    let few = room_step roots t own can.script log can.room e first in
    let was = can.left in
    record {
      script = can.script;
      room = (counted c e).room;
      fits = ap (λ (n : Counters). fits_turn can.script t log' n es exit) (counters_step roots t own log can.room e) ∙ fits_on can.script t log log' (counted c e) es exit (effect_grows roots t own log e).stays others;
      left = omega (arith, few, was, same);
      started = can.started.1;
    }

-- and then the exit can be followed
pub take_none : (roots t : ℕ) (log : List Event) (bs : List (Option BodyView)) (exit : ExitView) → CanTakeAll roots t log [] bs exit → CanLeave t log exit
take_none roots t log bs exit can = can_leave t can.script log can.room exit can.fits

-- there is a body for each effect
pub no_body : (script : ScriptView) (e : EffectView) (es : List EffectView) → AreBodiesOf script (e ∷ es) [] → ⊥
no_body script e es are = are

pub last_first : {A : Type 0} (front xs : List A) (x : A) → xs ≡ front ++ x ∷ [] → reverse xs ≡ x ∷ reverse front
last_first front xs x is = ap reverse is ∙ reverse-append front (x ∷ [])

pub first_body : (script : ScriptView) (e : EffectView) (es : List EffectView) (b : Option BodyView) (bs : List (Option BodyView)) → AreBodiesOf script (e ∷ es) (b ∷ bs) → IsBodyOf script e b
first_body script e es b bs are = are.0

pub rest_bodies : (script : ScriptView) (e : EffectView) (es : List EffectView) (b : Option BodyView) (bs : List (Option BodyView)) → AreBodiesOf script (e ∷ es) (b ∷ bs) → AreBodiesOf script es bs
rest_bodies script e es b bs are = are.1
