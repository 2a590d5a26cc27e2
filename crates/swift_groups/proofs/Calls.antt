-- What a call finds under a number, and what contracts see after it changed that group.
use Rattle.swift_groups.proofs.Prelude.{◌≡◌, ℕ, ◌<◌, List, Some, Result, Ok, Err, true, false, [], ◌∷◌, ◌++◌, length, set, refl, ap, sym, ◌∙◌, inl, inr, slice_get_within, cond-true, cond-false, cases_Bool, true≢false, slice_get, TaskId, Ending, GroupId, GroupFault, Group, ChildEnding, GroupView, GroupsView, is_among, unfinished, if_new, if_unfinished, any_group, open_group, live_group, groups_after, known_in, open_in, live_in, added_of, ended_of, group_is, groups_from, groups_view}
use Rattle.std.specs.Result.{IsErrAnd, IsOk, is_ok}
use Rattle.swift_groups.specs.declared.fault.GroupFault.TheVariants.{Child}
use Rattle.swift_groups.specs.declared.group.Child.{Child as Added}
use Rattle.swift_groups.specs.declared.groups.Groups.TheInside.{Inside}
use Rattle.swift_groups.proofs.Lists.{set_same}
use Rattle.swift_groups.proofs.Views.{view_set, view_push, known_ok, known_err, known_at, open_ok, open_err, open_at, live_ok, live_err, live_at}

-- the group as contracts see it
abbrev pub seen : Inside → ℕ → Group → GroupView
seen w i g = group_is g (added_of w.children.items i) (ended_of w.endings.items i)

-- a group that was found
pub record IsFound (w : Inside) (id : GroupId) (g : Group) (found : Result GroupView GroupFault) : Type 0 where
  pub at : slice_get w.groups.items id.0 ≡ Some g
  pub within : id.0 < length w.groups.items
  pub shown : found ≡ Ok (seen w id.0 g)

pub found_open : (w : Inside) (v : GroupsView) (id : GroupId) (gs : List Group) (g : Group) → groups_view w ≡ v → gs ≡ w.groups.items → Ok g ≡ open_in gs id.0 → IsFound w id g (open_group v.groups id)
found_open w v id gs g is same h =
    let here : open_in w.groups.items id.0 ≡ Ok g = ap (λ (s : List Group). open_in s id.0) (sym same) ∙ sym h in
    let at = open_at w.groups.items id.0 g here in
    record {
      at = at;
      within = slice_get_within w.groups.items id.0 g at;
      shown = ap (λ (x : GroupsView). open_group x.groups id) (sym is) ∙ open_ok w.groups.items (added_of w.children.items) (ended_of w.endings.items) id g here;
    }

pub found_live : (w : Inside) (v : GroupsView) (id : GroupId) (gs : List Group) (g : Group) → groups_view w ≡ v → gs ≡ w.groups.items → Ok g ≡ live_in gs id.0 → IsFound w id g (live_group v.groups id)
found_live w v id gs g is same h =
    let here : live_in w.groups.items id.0 ≡ Ok g = ap (λ (s : List Group). live_in s id.0) (sym same) ∙ sym h in
    let at = live_at w.groups.items id.0 g here in
    record {
      at = at;
      within = slice_get_within w.groups.items id.0 g at;
      shown = ap (λ (x : GroupsView). live_group x.groups id) (sym is) ∙ live_ok w.groups.items (added_of w.children.items) (ended_of w.endings.items) id g here;
    }

pub found_any : (w : Inside) (v : GroupsView) (id : GroupId) (gs : List Group) (g : Group) → groups_view w ≡ v → gs ≡ w.groups.items → Ok g ≡ known_in gs id.0 → IsFound w id g (any_group v.groups id)
found_any w v id gs g is same h =
    let here : known_in w.groups.items id.0 ≡ Ok g = ap (λ (s : List Group). known_in s id.0) (sym same) ∙ sym h in
    let at = known_at w.groups.items id.0 g here in
    record {
      at = at;
      within = slice_get_within w.groups.items id.0 g at;
      shown = ap (λ (x : GroupsView). any_group x.groups id) (sym is) ∙ known_ok w.groups.items (added_of w.children.items) (ended_of w.endings.items) id g here;
    }

-- a refusal
pub refused_open : (w : Inside) (v : GroupsView) (id : GroupId) (gs : List Group) (f : GroupFault) → groups_view w ≡ v → gs ≡ w.groups.items → Err f ≡ open_in gs id.0 → open_group v.groups id ≡ Err f
refused_open w v id gs f is same h =
    ap (λ (x : GroupsView). open_group x.groups id) (sym is)
    ∙ open_err w.groups.items (added_of w.children.items) (ended_of w.endings.items) id f (ap (λ (s : List Group). open_in s id.0) (sym same) ∙ sym h)

pub refused_live : (w : Inside) (v : GroupsView) (id : GroupId) (gs : List Group) (f : GroupFault) → groups_view w ≡ v → gs ≡ w.groups.items → Err f ≡ live_in gs id.0 → live_group v.groups id ≡ Err f
refused_live w v id gs f is same h =
    ap (λ (x : GroupsView). live_group x.groups id) (sym is)
    ∙ live_err w.groups.items (added_of w.children.items) (ended_of w.endings.items) id f (ap (λ (s : List Group). live_in s id.0) (sym same) ∙ sym h)

pub refused_any : (w : Inside) (v : GroupsView) (id : GroupId) (gs : List Group) (f : GroupFault) → groups_view w ≡ v → gs ≡ w.groups.items → Err f ≡ known_in gs id.0 → any_group v.groups id ≡ Err f
refused_any w v id gs f is same h =
    ap (λ (x : GroupsView). any_group x.groups id) (sym is)
    ∙ known_err w.groups.items (added_of w.children.items) (ended_of w.endings.items) id f (ap (λ (s : List Group). known_in s id.0) (sym same) ∙ sym h)

-- nothing changes where the call is refused
pub kept_by_refusal : (v : GroupsView) (id : GroupId) (F : GroupView → GroupView) (found : Result GroupView GroupFault) (f : GroupFault) → found ≡ Err f
    → v ≡ record { groups = groups_after F v.groups id found; reserved = v.reserved }
kept_by_refusal v id F found f h = ap (λ (r : Result GroupView GroupFault). record { groups = groups_after F v.groups id r; reserved = v.reserved }) (sym h)

-- what contracts see after one group was changed
pub changed : (w : Inside) (v : GroupsView) (id : GroupId) (g g' : Group) (found : Result GroupView GroupFault) (F : GroupView → GroupView) (cs : List Added) (es : List ChildEnding)
    → groups_view w ≡ v → IsFound w id g found
    → ((j : ℕ) → (j ≡ id.0 → ⊥) → added_of cs j ≡ added_of w.children.items j) → ((j : ℕ) → (j ≡ id.0 → ⊥) → ended_of es j ≡ ended_of w.endings.items j)
    → group_is g' (added_of cs id.0) (ended_of es id.0) ≡ F (seen w id.0 g)
    → groups_from (set w.groups.items id.0 g') (added_of cs) (ended_of es) ≡ groups_after F v.groups id found
changed w v id g g' found F cs es is k added ended new =
    view_set w.groups.items id.0 g' (added_of w.children.items) (added_of cs) (ended_of w.endings.items) (ended_of es) k.within added ended
    ∙ ap (λ (x : GroupView). set (groups_view w).groups id.0 x) new
    ∙ ap (λ (x : GroupsView). set x.groups id.0 (F (seen w id.0 g))) is
    ∙ ap (λ (r : Result GroupView GroupFault). groups_after F v.groups id r) (sym k.shown)

-- what contracts see after a change of the groups and of what is reserved
pub groups_are : (s s' : List GroupView) (n n' : ℕ) → s ≡ s' → n ≡ n' → ◌≡◌ {A = GroupsView} (record { groups = s; reserved = n }) (record { groups = s'; reserved = n' })
groups_are s s' n n' h k = ap (λ (x : List GroupView). record { groups = x; reserved = n }) h ∙ ap (λ (m : ℕ). record { groups = s'; reserved = m }) k

-- what a call that was refused returns
pub err_from : {A : Type 0} (r : Result A GroupFault) (f : GroupFault) → IsErrAnd r (λ e. e ≡ f) → r ≡ Err f
err_from (Ok x) f h = absurd h
err_from (Err e) f h = ap Err h

-- what contracts see where the group stays as it was
pub unchanged : (w : Inside) (v : GroupsView) (id : GroupId) (g : Group) (found : Result GroupView GroupFault) (F : GroupView → GroupView)
    → groups_view w ≡ v → IsFound w id g found → seen w id.0 g ≡ F (seen w id.0 g) → v ≡ record { groups = groups_after F v.groups id found; reserved = v.reserved }
unchanged w v id g found F is k same =
    sym is
    ∙ groups_are _ _ _ _
    (ap (λ (s : List Group). groups_from s (added_of w.children.items) (ended_of w.endings.items)) (sym (set_same w.groups.items id.0 g k.at))
    ∙ changed w v id g g found F w.children.items w.endings.items is k (λ j o. refl) (λ j o. refl) same)
    (ap (λ (x : GroupsView). x.reserved) is)

-- what contracts see after a group was opened
pub opened : (w : Inside) (v : GroupsView) (gs : List Group) (g : Group) → groups_view w ≡ v → gs ≡ w.groups.items ++ g ∷ []
    → added_of w.children.items (length w.groups.items) ≡ [] → ended_of w.endings.items (length w.groups.items) ≡ []
    → groups_from gs (added_of w.children.items) (ended_of w.endings.items) ≡ v.groups ++ group_is g [] [] ∷ []
opened w v gs g is same no_child no_ending =
    let a : ℕ → List TaskId = added_of w.children.items in let e : ℕ → List (TaskId × Ending) = ended_of w.endings.items in
    ap (λ (s : List Group). groups_from s a e) same
    ∙ view_push w.groups.items g a e
    ∙ ap (λ (s : List TaskId). groups_from w.groups.items a e ++ group_is g s (e (length w.groups.items)) ∷ []) no_child
    ∙ ap (λ (s : List (TaskId × Ending)). groups_from w.groups.items a e ++ group_is g [] s ∷ []) no_ending
    ∙ ap (λ (x : GroupsView). x.groups ++ group_is g [] [] ∷ []) is

-- a group without the task, and one with it as an unfinished child
pub without : (t : TaskId) (g : GroupView) (found : Result GroupView GroupFault) → found ≡ Ok g → is_among g.added t ≡ false → if_new t found ≡ Ok g
without t g found h n = ap (if_new t) h ∙ cond-false (is_among g.added t) (Err Child) (Ok g) n

pub not_without : (t : TaskId) (g : GroupView) (found : Result GroupView GroupFault) → found ≡ Ok g → is_among g.added t ≡ true → if_new t found ≡ Err Child
not_without t g found h y = ap (if_new t) h ∙ cond-true (is_among g.added t) (Err Child) (Ok g) y

pub with_unfinished : (t : TaskId) (g : GroupView) (found : Result GroupView GroupFault) → found ≡ Ok g → is_among (unfinished g) t ≡ true → if_unfinished t found ≡ Ok g
with_unfinished t g found h y = ap (if_unfinished t) h ∙ cond-true (is_among (unfinished g) t) (Ok g) (Err Child) y

pub not_unfinished : (t : TaskId) (g : GroupView) (found : Result GroupView GroupFault) → found ≡ Ok g → is_among (unfinished g) t ≡ false → if_unfinished t found ≡ Err Child
not_unfinished t g found h n = ap (if_unfinished t) h ∙ cond-false (is_among (unfinished g) t) (Ok g) (Err Child) n

pub new_from : (t : TaskId) (g : GroupView) (found : Result GroupView GroupFault) → IsOk (if_new t found) → found ≡ Ok g → is_among g.added t ≡ false
new_from t g found ok h = elim (cases_Bool (is_among g.added t)) [
  | inl y ↦ absurd (true≢false (sym ok ∙ ap is_ok (not_without t g found h y)))
  | inr n ↦ n
]

pub not_refused : (t : TaskId) (found : Result GroupView GroupFault) (f : GroupFault) → IsOk (if_new t found) → found ≡ Err f → ⊥
not_refused t found f ok h = true≢false (sym ok ∙ ap (λ (r : Result GroupView GroupFault). is_ok (if_new t r)) h)
