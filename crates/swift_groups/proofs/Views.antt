-- What contracts see of the groups, read by number and after a change.
use Rattle.swift_groups.proofs.Prelude.{◌≡◌, ℕ, zero, suc, ◌<◌, List, Option, None, Some, Result, Ok, Err, [], ◌∷◌, ◌++◌, length, set, refl, ap, sym, ◌∙◌, arith, same_Some, slice_get, TaskId, Ending, GroupId, GroupFault, Open, Closing, Done, Group, GroupView, if_open, if_live, any_group, open_group, live_group, any_if_opened, open_if_opened, live_if_opened, known_in, open_in, live_in, known_found, open_found, live_found, group_is, groups_from}
use Rattle.swift_groups.specs.declared.group.GroupStage.{GroupStage}

abbrev Added : Type 0
Added = ℕ → List TaskId

abbrev Endings : Type 0
Endings = ℕ → List (TaskId × Ending)

pub view_same : (gs : List Group) (a a' : Added) (e e' : Endings) → ((i : ℕ) → a i ≡ a' i) → ((i : ℕ) → e i ≡ e' i) → groups_from gs a e ≡ groups_from gs a' e'
view_same [] a a' e e' h k = refl
view_same (g ∷ gs) a a' e e' h k =
    ap (λ (x : List TaskId). group_is g x (e 0) ∷ groups_from gs (λ i. a (suc i)) (λ i. e (suc i))) (h 0)
    ∙ ap (λ (x : List (TaskId × Ending)). group_is g (a' 0) x ∷ groups_from gs (λ i. a (suc i)) (λ i. e (suc i))) (k 0)
    ∙ ap (λ (x : List GroupView). group_is g (a' 0) (e' 0) ∷ x) (view_same gs (λ i. a (suc i)) (λ i. a' (suc i)) (λ i. e (suc i)) (λ i. e' (suc i)) (λ i. h (suc i)) (λ i. k (suc i)))

pub length_view : (gs : List Group) (a : Added) (e : Endings) → length (groups_from gs a e) ≡ length gs
length_view [] a e = refl
length_view (g ∷ gs) a e = ap suc (length_view gs (λ i. a (suc i)) (λ i. e (suc i)))

pub view_push : (gs : List Group) (g : Group) (a : Added) (e : Endings) → groups_from (gs ++ g ∷ []) a e ≡ groups_from gs a e ++ group_is g (a (length gs)) (e (length gs)) ∷ []
view_push [] g a e = refl
view_push (x ∷ xs) g a e = ap (λ (s : List GroupView). group_is x (a 0) (e 0) ∷ s) (view_push xs g (λ i. a (suc i)) (λ i. e (suc i)))

pub view_set : (gs : List Group) (i : ℕ) (g : Group) (a a' : Added) (e e' : Endings) → i < length gs → ((j : ℕ) → (j ≡ i → ⊥) → a' j ≡ a j) → ((j : ℕ) → (j ≡ i → ⊥) → e' j ≡ e j)
    → groups_from (set gs i g) a' e' ≡ set (groups_from gs a e) i (group_is g (a' i) (e' i))
view_set [] i g a a' e e' h k l = absurd (omega (arith, h))
view_set (x ∷ xs) zero g a a' e e' h k l =
    ap (λ (s : List GroupView). group_is g (a' 0) (e' 0) ∷ s)
    (view_same xs (λ i. a' (suc i)) (λ i. a (suc i)) (λ i. e' (suc i)) (λ i. e (suc i)) (λ i. k (suc i) (λ (q : suc i ≡ 0). absurd (omega (arith, q)))) (λ i. l (suc i) (λ (q : suc i ≡ 0). absurd (omega (arith, q)))))
view_set (x ∷ xs) (suc i) g a a' e e' h k l =
    ap (λ (y : List TaskId). group_is x y (e' 0) ∷ groups_from (set xs i g) (λ j. a' (suc j)) (λ j. e' (suc j))) (k 0 (λ (q : 0 ≡ suc i). absurd (omega (arith, q))))
    ∙ ap (λ (y : List (TaskId × Ending)). group_is x (a 0) y ∷ groups_from (set xs i g) (λ j. a' (suc j)) (λ j. e' (suc j))) (l 0 (λ (q : 0 ≡ suc i). absurd (omega (arith, q))))
    ∙ ap (λ (s : List GroupView). group_is x (a 0) (e 0) ∷ s)
    (view_set xs i g (λ j. a (suc j)) (λ j. a' (suc j)) (λ j. e (suc j)) (λ j. e' (suc j)) (omega (arith, h)) (λ j n. k (suc j) (λ (q : suc j ≡ suc i). n (omega (arith, q)))) (λ j n. l (suc j) (λ (q : suc j ≡ suc i). n (omega (arith, q)))))

view_some : (gs : List Group) (a : Added) (e : Endings) (i : ℕ) (g : Group) → slice_get gs i ≡ Some g → slice_get (groups_from gs a e) i ≡ Some (group_is g (a i) (e i))
view_some [] a e i g h = absurd (cc h)
view_some (x ∷ xs) a e zero g h = ap (λ (y : Group). Some (group_is y (a 0) (e 0))) (same_Some x g h)
view_some (x ∷ xs) a e (suc i) g h = view_some xs (λ j. a (suc j)) (λ j. e (suc j)) i g h

view_none : (gs : List Group) (a : Added) (e : Endings) (i : ℕ) → slice_get gs i ≡ None → slice_get (groups_from gs a e) i ≡ None
view_none [] a e i h = refl
view_none (x ∷ xs) a e zero h = absurd (cc h)
view_none (x ∷ xs) a e (suc i) h = view_none xs (λ j. a (suc j)) (λ j. e (suc j)) i h

-- what a call finds under a number
abbrev shown : List TaskId → List (TaskId × Ending) → Result Group GroupFault → Result GroupView GroupFault
shown a e (Ok g) = Ok (group_is g a e)
shown a e (Err f) = Err f

shown_open : (s : GroupStage) (g : Group) (a : List TaskId) (e : List (TaskId × Ending)) → if_open s (group_is g a e) ≡ shown a e (if_open s g)
shown_open Open g a e = refl
shown_open Closing g a e = refl
shown_open Done g a e = refl

shown_live : (s : GroupStage) (g : Group) (a : List TaskId) (e : List (TaskId × Ending)) → if_live s (group_is g a e) ≡ shown a e (if_live s g)
shown_live Open g a e = refl
shown_live Closing g a e = refl
shown_live Done g a e = refl

option_cases : {A B : Type 0} (o : Option A) → (o ≡ None → B) → ((x : A) → o ≡ Some x → B) → B
option_cases None n s = n refl
option_cases (Some x) n s = s x refl

open_view : (gs : List Group) (a : Added) (e : Endings) (id : GroupId) → open_group (groups_from gs a e) id ≡ shown (a id.0) (e id.0) (open_in gs id.0)
open_view gs a e id = option_cases (slice_get gs id.0)
    (λ h. ap open_if_opened (view_none gs a e id.0 h) ∙ sym (ap (λ (o : Option Group). shown (a id.0) (e id.0) (open_found o)) h))
    (λ g h. ap open_if_opened (view_some gs a e id.0 g h) ∙ shown_open g.stage g (a id.0) (e id.0) ∙ sym (ap (λ (o : Option Group). shown (a id.0) (e id.0) (open_found o)) h))

live_view : (gs : List Group) (a : Added) (e : Endings) (id : GroupId) → live_group (groups_from gs a e) id ≡ shown (a id.0) (e id.0) (live_in gs id.0)
live_view gs a e id = option_cases (slice_get gs id.0)
    (λ h. ap live_if_opened (view_none gs a e id.0 h) ∙ sym (ap (λ (o : Option Group). shown (a id.0) (e id.0) (live_found o)) h))
    (λ g h. ap live_if_opened (view_some gs a e id.0 g h) ∙ shown_live g.stage g (a id.0) (e id.0) ∙ sym (ap (λ (o : Option Group). shown (a id.0) (e id.0) (live_found o)) h))

known_view : (gs : List Group) (a : Added) (e : Endings) (id : GroupId) → any_group (groups_from gs a e) id ≡ shown (a id.0) (e id.0) (known_in gs id.0)
known_view gs a e id = option_cases (slice_get gs id.0)
    (λ h. ap any_if_opened (view_none gs a e id.0 h) ∙ sym (ap (λ (o : Option Group). shown (a id.0) (e id.0) (known_found o)) h))
    (λ g h. ap any_if_opened (view_some gs a e id.0 g h) ∙ sym (ap (λ (o : Option Group). shown (a id.0) (e id.0) (known_found o)) h))

pub known_ok : (gs : List Group) (a : Added) (e : Endings) (id : GroupId) (g : Group) → known_in gs id.0 ≡ Ok g → any_group (groups_from gs a e) id ≡ Ok (group_is g (a id.0) (e id.0))
known_ok gs a e id g h = known_view gs a e id ∙ ap (shown (a id.0) (e id.0)) h

pub known_err : (gs : List Group) (a : Added) (e : Endings) (id : GroupId) (f : GroupFault) → known_in gs id.0 ≡ Err f → any_group (groups_from gs a e) id ≡ Err f
known_err gs a e id f h = known_view gs a e id ∙ ap (shown (a id.0) (e id.0)) h

pub open_ok : (gs : List Group) (a : Added) (e : Endings) (id : GroupId) (g : Group) → open_in gs id.0 ≡ Ok g → open_group (groups_from gs a e) id ≡ Ok (group_is g (a id.0) (e id.0))
open_ok gs a e id g h = open_view gs a e id ∙ ap (shown (a id.0) (e id.0)) h

pub open_err : (gs : List Group) (a : Added) (e : Endings) (id : GroupId) (f : GroupFault) → open_in gs id.0 ≡ Err f → open_group (groups_from gs a e) id ≡ Err f
open_err gs a e id f h = open_view gs a e id ∙ ap (shown (a id.0) (e id.0)) h

pub live_ok : (gs : List Group) (a : Added) (e : Endings) (id : GroupId) (g : Group) → live_in gs id.0 ≡ Ok g → live_group (groups_from gs a e) id ≡ Ok (group_is g (a id.0) (e id.0))
live_ok gs a e id g h = live_view gs a e id ∙ ap (shown (a id.0) (e id.0)) h

pub live_err : (gs : List Group) (a : Added) (e : Endings) (id : GroupId) (f : GroupFault) → live_in gs id.0 ≡ Err f → live_group (groups_from gs a e) id ≡ Err f
live_err gs a e id f h = live_view gs a e id ∙ ap (shown (a id.0) (e id.0)) h

-- a group that was found stands under its number
stage_open : (s : GroupStage) (g x : Group) → if_open s g ≡ Ok x → g ≡ x
stage_open Open g x h = cc h
stage_open Closing g x h = absurd (cc h)
stage_open Done g x h = absurd (cc h)

stage_live : (s : GroupStage) (g x : Group) → if_live s g ≡ Ok x → g ≡ x
stage_live Open g x h = cc h
stage_live Closing g x h = cc h
stage_live Done g x h = absurd (cc h)

pub known_at : (gs : List Group) (i : ℕ) (g : Group) → known_in gs i ≡ Ok g → slice_get gs i ≡ Some g
known_at gs i g h = option_cases (slice_get gs i)
    (λ n. absurd (cc (h, ap known_found n)))
    (λ x s. s ∙ ap Some (let same : Ok x ≡ Ok g = sym (ap known_found s) ∙ h in cc))

pub open_at : (gs : List Group) (i : ℕ) (g : Group) → open_in gs i ≡ Ok g → slice_get gs i ≡ Some g
open_at gs i g h = option_cases (slice_get gs i)
    (λ n. absurd (cc (h, ap open_found n)))
    (λ x s. s ∙ ap Some (stage_open x.stage x g (sym (ap open_found s) ∙ h)))

pub live_at : (gs : List Group) (i : ℕ) (g : Group) → live_in gs i ≡ Ok g → slice_get gs i ≡ Some g
live_at gs i g h = option_cases (slice_get gs i)
    (λ n. absurd (cc (h, ap live_found n)))
    (λ x s. s ∙ ap Some (stage_live x.stage x g (sym (ap live_found s) ∙ h)))
