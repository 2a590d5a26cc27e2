-- What calls do to the group at a place.
use Rattle.swift_ledger.proofs.Prelude.{◌≡◌, ◌≢◌, ℕ, zero, suc, ◌<◌, ◌≤◌, List, Result, Ok, Err, [], ◌∷◌, set, Bool, true, false, cond, refl, ap, sym, ◌∙◌, arith, cond-true, cond-false, lt-leb, true≢false, slice_get_within, leb, TaskId, Ending, Memory, GroupStage, GroupView, GroupsView, is_among, unfinished, with_ending, handed_on, closed_on, if_unfinished, if_open, if_live, accepted, open_if_opened, live_if_opened, open_group, live_group, group_with_unfinished, groups_after, slice_get_set, stage_of, GroupNotes, CanEnd, ended_with}
use Rattle.std.proofs.Common.{Some}
use Rattle.std.specs.List.{slice_get}
use Rattle.std.specs.Result.{IsOk}
use Rattle.swift_groups.specs.declared.fault.GroupFault.{GroupFault}
use Rattle.swift_groups.specs.declared.fault.GroupFault.TheVariants.{Child as NoChild}
use Rattle.swift_groups.specs.declared.group.GroupStage.TheVariants.{Open as IsOpen}
use Rattle.swift_ledger.proofs.KeptGroups.{stage_open}

-- one place written twice
set_twice : {X : Type 0} (xs : List X) (i : ℕ) (y z : X) → set (set xs i y) i z ≡ set xs i z
set_twice [] i y z = refl
set_twice (x ∷ xs) zero y z = refl
set_twice (x ∷ xs) (suc i) y z = ap (λ s. x ∷ s) (set_twice xs i y z)

-- what the groups do at a place
pub open_at : (gs : List GroupView) (i : ℕ) (g : GroupView) → slice_get gs i ≡ Some g → g.stage ≡ IsOpen → open_group gs (record { 0 = i }) ≡ Ok g
open_at gs i g at stage = ap open_if_opened at ∙ ap (λ (s : GroupStage). if_open s g) stage

pub live_open : (gs : List GroupView) (i : ℕ) (g : GroupView) → slice_get gs i ≡ Some g → g.stage ≡ IsOpen → live_group gs (record { 0 = i }) ≡ Ok g
live_open gs i g at stage = ap live_if_opened at ∙ ap (λ (s : GroupStage). if_live s g) stage

live_stage : (b : Bool) (ts : List TaskId) (t : TaskId) (g : GroupView) → is_among ts t ≡ true → if_live (stage_of b ts) g ≡ Ok g
live_stage false ts t g h = refl
live_stage true [] t g h = absurd (true≢false (sym h))
live_stage true (u ∷ us) t g h = refl

pub live_at : (gs : List GroupView) (i : ℕ) (g : GroupView) (b : Bool) (ts : List TaskId) (t : TaskId) → slice_get gs i ≡ Some g → g.stage ≡ stage_of b ts → is_among ts t ≡ true → live_group gs (record { 0 = i }) ≡ Ok g
live_at gs i g b ts t at stage among = ap live_if_opened at ∙ ap (λ (s : GroupStage). if_live s g) stage ∙ live_stage b ts t g among

-- a child that may be added is added, where there is room
pub added : (r : Result (Unit {0}) GroupFault) (n m : ℕ) (found : Result GroupView GroupFault) (g : GroupView) (f : GroupFault)
    → (r ≢ Err Memory → r ≡ accepted found) → (r ≡ Err Memory → (n ≡ 0) × IsOk found) → found ≡ Ok g → 0 < m → m ≤ n → r ≡ Err f → ⊥
added r n m found g f refusals memory ok positive room is =
    let none : r ≢ Err Memory = λ (q : r ≡ Err Memory). let z = (memory q).0 in absurd (omega (arith, z, positive, room)) in
    let yes : r ≡ Ok tt = refusals none ∙ ap accepted ok in
    absurd (cc (yes, is))

-- the groups after an ending, and after a second call on the same group
after_finished : (gs : List GroupView) (i : ℕ) (held : GroupNotes) (t : TaskId) (x : Ending) (found : GroupView) → (can : CanEnd gs i held t) → slice_get gs i ≡ Some found
    → groups_after (with_ending t x) gs (record { 0 = i }) (group_with_unfinished gs (record { 0 = i }) t) ≡ set gs i (with_ending t x found)
after_finished gs i held t x found can at =
    let same : can.found ≡ found = let q : Some can.found ≡ Some found = sym can.at ∙ at in cc in
    let live = live_at gs i can.found held.is_closed (unfinished can.found) t can.at can.stage can.among in
    let ok : group_with_unfinished gs (record { 0 = i }) t ≡ Ok can.found = ap (if_unfinished t) live ∙ cond-true (is_among (unfinished can.found) t) (Ok can.found) (Err NoChild) can.among in
    ap (groups_after (with_ending t x) gs (record { 0 = i })) ok ∙ ap (λ (g : GroupView). set gs i (with_ending t x g)) same

pub end-closed : (v v1 v2 : GroupsView) (i : ℕ) (held : GroupNotes) (t : TaskId) (x : Ending) (found : GroupView) → CanEnd v.groups i held t → slice_get v.groups i ≡ Some found
    → v1 ≡ record v { groups = groups_after (with_ending t x) v.groups (record { 0 = i }) (group_with_unfinished v.groups (record { 0 = i }) t) }
    → v2 ≡ record v1 { groups = groups_after closed_on v1.groups (record { 0 = i }) (live_group v1.groups (record { 0 = i })) }
    → held.is_closed ≡ true → v2 ≡ record v { groups = set v.groups i (ended_with held t x found) }
end-closed v v1 v2 i held t x found can at first second is =
    let after : GroupView = with_ending t x found in
    let same : can.found ≡ found = let q : Some can.found ≡ Some found = sym can.at ∙ at in cc in
    let first' : v1 ≡ record v { groups = set v.groups i after } = first ∙ ap (λ (s : List GroupView). record v { groups = s }) (after_finished v.groups i held t x found can at) in
    let stands : slice_get (set v.groups i after) i ≡ Some after = slice_get_set v.groups i after (slice_get_within v.groups i found at) in
    let live : live_group (set v.groups i after) (record { 0 = i }) ≡ Ok after =
    live_at (set v.groups i after) i after held.is_closed (unfinished can.found) t stands (sym (ap (λ (g : GroupView). g.stage) same) ∙ can.stage) can.among in
    second ∙ ap (λ (u : GroupsView). record u { groups = groups_after closed_on u.groups (record { 0 = i }) (live_group u.groups (record { 0 = i })) }) first'
    ∙ ap (λ (s : List GroupView). record v { groups = s })
    (ap (groups_after closed_on (set v.groups i after) (record { 0 = i })) live ∙ set_twice v.groups i after (closed_on after)
    ∙ ap (λ (g : GroupView). set v.groups i g) (sym (cond-true held.is_closed (closed_on after) (cond (leb held.asked held.ended) after (handed_on after)) is)))

pub end-handed : (v v1 v2 : GroupsView) (i : ℕ) (held : GroupNotes) (t : TaskId) (x : Ending) (found : GroupView) → CanEnd v.groups i held t → slice_get v.groups i ≡ Some found
    → v1 ≡ record v { groups = groups_after (with_ending t x) v.groups (record { 0 = i }) (group_with_unfinished v.groups (record { 0 = i }) t) }
    → v2 ≡ record v1 { groups = groups_after handed_on v1.groups (record { 0 = i }) (open_group v1.groups (record { 0 = i })) }
    → held.is_closed ≡ false → held.ended < held.asked → v2 ≡ record v { groups = set v.groups i (ended_with held t x found) }
end-handed v v1 v2 i held t x found can at first second is gt =
    let after : GroupView = with_ending t x found in
    let same : can.found ≡ found = let q : Some can.found ≡ Some found = sym can.at ∙ at in cc in
    let first' : v1 ≡ record v { groups = set v.groups i after } = first ∙ ap (λ (s : List GroupView). record v { groups = s }) (after_finished v.groups i held t x found can at) in
    let stands : slice_get (set v.groups i after) i ≡ Some after = slice_get_set v.groups i after (slice_get_within v.groups i found at) in
    let open' : open_group (set v.groups i after) (record { 0 = i }) ≡ Ok after =
    open_at (set v.groups i after) i after stands (sym (ap (λ (g : GroupView). g.stage) same) ∙ can.stage ∙ stage_open held.is_closed (unfinished can.found) is) in
    let last : ended_with held t x found ≡ handed_on after =
    cond-false held.is_closed (closed_on after) (cond (leb held.asked held.ended) after (handed_on after)) is
    ∙ cond-false (leb held.asked held.ended) after (handed_on after) (lt-leb held.asked held.ended gt) in
    second ∙ ap (λ (u : GroupsView). record u { groups = groups_after handed_on u.groups (record { 0 = i }) (open_group u.groups (record { 0 = i })) }) first'
    ∙ ap (λ (s : List GroupView). record v { groups = s })
    (ap (groups_after handed_on (set v.groups i after) (record { 0 = i })) open' ∙ set_twice v.groups i after (handed_on after) ∙ ap (λ (g : GroupView). set v.groups i g) (sym last))
