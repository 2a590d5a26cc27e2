-- What the index keeps once one more event is written.
use Rattle.swift_ledger.proofs.Prelude.{◌≡◌, ℕ, suc, ◌+◌, ◌<◌, ◌≤◌, List, Ok, Err, [], ◌∷◌, ◌++◌, length, get_or, set, ◌-◌, Bool, true, false, not, ◌||◌, ◌&&◌, eqb, refl, ap, sym, ◌∙◌, subst, inl, inr, arith, length-set, cases_lt, cases_Bool, cond-false, eq-eqb, eqb-true, and_parts, and_from, not-true, ltb-true, ltb-false, true≢false, slice_get_within, get_or_from_slice_get, IsTrue, is_some, nat_lt, vec_capacity, filter_map, cons_option, get, spare, TaskId, Ending, Priority, GroupView, GroupsView, is_among, unfinished, unfinished_of, with_child, as_cancelled, handed_on, closed_on, if_new, open_group, live_group, group_without, groups_after, slice_get_set, slice_get_set_other, Event, Root, Begin, Apply, Free, Open, Child, Skip, CancelTask, CancelGroup, Wait, Next, Close, End, Give, Life, events_of, life_of, child_in, ending_among, asks, closes, names_group, opens, parent_of, parent_by, opened_by, is_open_group, is_closed, children_of, endings_of, is_named_group, stage_of, opened_by-push_no, unborn_without, has_ended-unended, GroupNotes, GroupIndex, count_at, HasPlaces, GroupFacts, no_facts, facts_of, FitsGroups, AreNotesOf, IsKeptAt, AreGroupsOf, CanEnd, ended_with, is_child_of, place_in, same_number}
use Rattle.std.proofs.Common.{Option, None, Some}
use Rattle.std.specs.Prelude.{vec_len}
use Rattle.std.specs.List.{slice_get}
use Rattle.std.proofs.lemmas.List.Sums.{count_by-le-length}
use Rattle.swift_groups.specs.declared.fault.GroupFault.TheVariants.{Child as NoChild}
use Rattle.swift_groups.proofs.Children.{among_unfinished}
use Rattle.swift_ledger.proofs.GroupFacts.{parents-push, facts-quiet, facts-next, facts-close, facts-cancel, facts-child, facts-end}
use Rattle.swift_ledger.proofs.KeptGroups.{kept_next, stage_kept, kept_child, kept_cancel, kept_close, kept_end}
use Rattle.swift_ledger.proofs.GroupCalls.{open_at, live_open}

same_id : (t u : TaskId) → t.0 ≡ u.0 → t ≡ u
same_id t u h = ap (λ (n : ℕ). record { 0 = n }) h

pub both : (o u g h : ℕ) → (eqb o u && eqb g h) ≡ true → (o ≡ u) × (g ≡ h)
both o u g h e = let p = and_parts (eqb o u) (eqb g h) e in (eqb-true o u p.0, eqb-true g h p.1)

pub own_pair : (o g : ℕ) → (eqb o o && eqb g g) ≡ true
own_pair o g = and_from (eqb o o) (eqb g g) (eq-eqb o o refl) (eq-eqb g g refl)

pub not_closed : (log : List Event) (o g : ℕ) → IsTrue (is_open_group o g log) → is_closed o g log ≡ false
not_closed log o g h = not-true (is_closed o g log) (and_parts (nat_lt g (opened_by o log)) (not (is_closed o g log)) h).1

pub kept_at : (o u : TaskId) (g h : ℕ) (log : List Event) (found : GroupView) (held : GroupNotes) → o.0 ≡ u.0 → g ≡ h → AreNotesOf o (facts_of o.0 g log) found held → AreNotesOf u (facts_of u.0 h log) found held
kept_at o u g h log found held p q k =
    subst (λ (v : TaskId). AreNotesOf v (facts_of v.0 h log) found held) (same_id o u p) (subst (λ (n : ℕ). AreNotesOf o (facts_of o.0 n log) found held) q k)

-- what is read at a place
pub read_held : (w : GroupIndex) (o : TaskId) (f : GroupFacts) (i : ℕ) (held : GroupNotes) (k : IsKeptAt w o f i) → held ≡ get_or w.held.items i held → held ≡ k.held
read_held w o f i held k read = read ∙ get_or_from_slice_get w.held.items i k.held held k.beside

-- one group has changed
pub changed : (w w' : GroupIndex) (log : List Event) (e : Event) (o : TaskId) (g i : ℕ) (found : GroupView) (held : GroupNotes)
    → AreGroupsOf w log → FitsGroups log e → place_in w o g ≡ Some i
    → w'.places ≡ w.places → w'.counts ≡ w.counts → w'.groups.groups ≡ set w.groups.groups i found → w'.held.items ≡ set w.held.items i held
    → w'.spare ≤ w'.groups.reserved → w'.spare ≤ w.spare → vec_len w'.held + w'.spare ≤ vec_capacity w'.held
    → ((u h : ℕ) → (eqb o.0 u && eqb g h) ≡ false → facts_of u h (log ++ e ∷ []) ≡ facts_of u h log)
    → ((u : ℕ) → opened_by u (log ++ e ∷ []) ≡ opened_by u log)
    → AreNotesOf o (facts_of o.0 g (log ++ e ∷ [])) found held
    → AreGroupsOf w' (log ++ e ∷ [])
changed w w' log e o g i found held old fits here places counts groups helds room less beside others count kept =
    let at : (u : TaskId) (h : ℕ) → place_in w' u h ≡ place_in w u h = λ u h. ap (λ m. get same_number m (u, h)) places in
    let mine = old.each o g i here in
    let within = slice_get_within w.groups.groups i mine.found mine.group in
    let within' = slice_get_within w.held.items i mine.held mine.beside in
    let was : g < opened_by o.0 log = ltb-true g (opened_by o.0 log) (sym (old.opened o g) ∙ ap is_some here) in
    record {
      opened = λ u h. ap is_some (at u h) ∙ old.opened u h ∙ ap (nat_lt h) (sym (count u.0));
      each = λ u h j there.
          let there' : place_in w u h ≡ Some j = sym (at u h) ∙ there in
          elim (cases_Bool (eqb o.0 u.0 && eqb g h)) [
            | inl y ↦
                let p = both o.0 u.0 g h y in
                let also : place_in w o g ≡ Some j = ap (λ (v : TaskId). get same_number w.places (v, g)) (same_id o u p.0) ∙ ap (λ (n : ℕ). get same_number w.places (u, n)) p.1 ∙ there' in
                let same : i ≡ j = let q : Some i ≡ Some j = sym here ∙ also in cc in
                record {
                  found = found;
                  held = held;
                  group = ap (λ (s : List GroupView). slice_get s j) groups ∙ ap (λ (n : ℕ). slice_get (set w.groups.groups i found) n) (sym same) ∙ slice_get_set w.groups.groups i found within;
                  beside = ap (λ (s : List GroupNotes). slice_get s j) helds ∙ ap (λ (n : ℕ). slice_get (set w.held.items i held) n) (sym same) ∙ slice_get_set w.held.items i held within';
                  kept = kept_at o u g h (log ++ e ∷ []) found held p.0 p.1 kept;
                }
            | inr n ↦
                let k = old.each u h j there' in
                let ne : j ≡ i → ⊥ = λ (q : j ≡ i).
                let a = old.apart o u g h j (here ∙ ap Some (sym q)) there' in
                true≢false (sym (and_from (eqb o.0 u.0) (eqb g h) (eq-eqb o.0 u.0 a.0) (eq-eqb g h a.1)) ∙ n) in
                record {
                  found = k.found;
                  held = k.held;
                  group = ap (λ (s : List GroupView). slice_get s j) groups ∙ slice_get_set_other w.groups.groups i j found ne ∙ k.group;
                  beside = ap (λ (s : List GroupNotes). slice_get s j) helds ∙ slice_get_set_other w.held.items i j held ne ∙ k.beside;
                  kept = subst (λ (f : GroupFacts). AreNotesOf u f k.found k.held) (sym (others u.0 h n)) k.kept;
                }
          ];
      apart = λ u v h k j a b. old.apart u v h k j (sym (at u h) ∙ a) (sym (at v k) ∙ b);
      counted = λ u. ap (λ m. count_at m u.0) counts ∙ old.counted u ∙ sym (count u.0);
      unopened = λ u h le. elim (cases_Bool (eqb o.0 u && eqb g h)) [
        | inl y ↦ let p = both o.0 u g h y in let c = count u in let c' : opened_by o.0 log ≡ opened_by u log = ap (λ (n : ℕ). opened_by n log) p.0 in let q = p.1 in absurd (omega (arith, le, c, c', was, q))
        | inr n ↦ others u h n ∙ old.unopened u h (let c = count u in omega (arith, le, c))
      ];
      parents = parents-push log e old.parents fits;
      same = ap length helds ∙ length-set w.held.items i held ∙ old.same ∙ sym (ap length groups ∙ length-set w.groups.groups i found);
      groups_room = room;
      places_room = subst (λ m. w'.spare ≤ spare m) (sym places) (let r = old.places_room in omega (arith, r, less));
      counts_room = λ some. subst (λ m. HasPlaces m) (sym counts) (old.counts_room (omega (arith, some, less)));
      held_room = beside;
    }

-- a result is asked for
pub ask-step : (w w' : GroupIndex) (log : List Event) (o : TaskId) (g i : ℕ) (held : GroupNotes) → AreGroupsOf w log → IsTrue (is_open_group o.0 g log) → place_in w o g ≡ Some i → held ≡ get_or w.held.items i held
    → w'.groups ≡ record w.groups { groups = groups_after handed_on w.groups.groups (record { 0 = i }) (open_group w.groups.groups (record { 0 = i })) }
    → w'.held.items ≡ set w.held.items i (record held { asked = held.asked + 1 })
    → w'.places ≡ w.places → w'.counts ≡ w.counts → w'.spare ≡ w.spare → vec_len w'.held ≡ vec_len w.held → vec_capacity w'.held ≡ vec_capacity w.held
    → AreGroupsOf w' (log ++ Next o g ∷ [])
ask-step w w' log o g i held old opened here read groups helds places counts spares len cap =
    let at = old.each o g i here in
    let free = not_closed log o.0 g opened in
    let is : held ≡ at.held = read_held w o (facts_of o.0 g log) i held at read in
    let found = open_at w.groups.groups i at.found at.group (stage_kept o (facts_of o.0 g log) at.found at.held at.kept free) in
    let reserved = ap (λ (v : GroupsView). v.reserved) groups in
    changed w w' log (Next o g) o g i (handed_on at.found) (record at.held { asked = at.held.asked + 1 }) old opened here places counts
    (ap (λ (v : GroupsView). v.groups) groups ∙ ap (groups_after handed_on w.groups.groups (record { 0 = i })) found)
    (helds ∙ ap (λ (x : GroupNotes). set w.held.items i (record x { asked = x.asked + 1 })) is)
    (let r = old.groups_room in omega (arith, r, reserved, spares))
    (omega (arith, spares))
    (let r = old.held_room in omega (arith, r, len, cap, spares))
    (λ u h n. facts-quiet u h log (Next o g) refl refl n refl refl)
    (λ u. opened_by-push_no u log (Next o g) refl)
    (subst (λ (f : GroupFacts). AreNotesOf o f (handed_on at.found) (record at.held { asked = at.held.asked + 1 })) (sym (facts-next o.0 g log o g true (own_pair o.0 g)))
    (kept_next o (facts_of o.0 g log) at.found at.held at.kept free))

or_true : (b : Bool) → b || true ≡ true
or_true true = refl
or_true false = refl

-- a group is closed
pub close-step : (w w' : GroupIndex) (log : List Event) (o : TaskId) (g i : ℕ) (held : GroupNotes) → AreGroupsOf w log → IsTrue (is_open_group o.0 g log) → place_in w o g ≡ Some i → held ≡ get_or w.held.items i held
    → w'.groups ≡ record w.groups { groups = groups_after closed_on w.groups.groups (record { 0 = i }) (live_group w.groups.groups (record { 0 = i })) }
    → w'.held.items ≡ set w.held.items i (record held { is_closed = true })
    → w'.places ≡ w.places → w'.counts ≡ w.counts → w'.spare ≡ w.spare → vec_len w'.held ≡ vec_len w.held → vec_capacity w'.held ≡ vec_capacity w.held
    → AreGroupsOf w' (log ++ Close o g ∷ [])
close-step w w' log o g i held old opened here read groups helds places counts spares len cap =
    let at = old.each o g i here in
    let free = not_closed log o.0 g opened in
    let is : held ≡ at.held = read_held w o (facts_of o.0 g log) i held at read in
    let found = live_open w.groups.groups i at.found at.group (stage_kept o (facts_of o.0 g log) at.found at.held at.kept free) in
    let reserved = ap (λ (v : GroupsView). v.reserved) groups in
    changed w w' log (Close o g) o g i (closed_on at.found) (record at.held { is_closed = true }) old opened here places counts
    (ap (λ (v : GroupsView). v.groups) groups ∙ ap (groups_after closed_on w.groups.groups (record { 0 = i })) found)
    (helds ∙ ap (λ (x : GroupNotes). set w.held.items i (record x { is_closed = true })) is)
    (let r = old.groups_room in omega (arith, r, reserved, spares))
    (omega (arith, spares))
    (let r = old.held_room in omega (arith, r, len, cap, spares))
    (λ u h n. facts-quiet u h log (Close o g) refl refl refl n refl)
    (λ u. opened_by-push_no u log (Close o g) refl)
    (subst (λ (f : GroupFacts). AreNotesOf o f (closed_on at.found) (record at.held { is_closed = true }))
    (sym (facts-close o.0 g log o g true (own_pair o.0 g) ∙ ap (λ (b : Bool). record (facts_of o.0 g log) { closed = b }) (or_true (is_closed o.0 g log))))
    (kept_close o (facts_of o.0 g log) at.found at.held at.kept))

-- a group is cancelled
pub cancel-step : (w w' : GroupIndex) (log : List Event) (o : TaskId) (g i : ℕ) (held : GroupNotes) → AreGroupsOf w log → IsTrue (is_open_group o.0 g log) → place_in w o g ≡ Some i → held ≡ get_or w.held.items i held
    → w'.groups ≡ record w.groups { groups = groups_after as_cancelled w.groups.groups (record { 0 = i }) (live_group w.groups.groups (record { 0 = i })) }
    → w'.held.items ≡ set w.held.items i (record held { is_named = true })
    → w'.places ≡ w.places → w'.counts ≡ w.counts → w'.spare ≡ w.spare → vec_len w'.held ≡ vec_len w.held → vec_capacity w'.held ≡ vec_capacity w.held
    → AreGroupsOf w' (log ++ CancelGroup o g ∷ [])
cancel-step w w' log o g i held old opened here read groups helds places counts spares len cap =
    let at = old.each o g i here in
    let free = not_closed log o.0 g opened in
    let is : held ≡ at.held = read_held w o (facts_of o.0 g log) i held at read in
    let found = live_open w.groups.groups i at.found at.group (stage_kept o (facts_of o.0 g log) at.found at.held at.kept free) in
    let reserved = ap (λ (v : GroupsView). v.reserved) groups in
    changed w w' log (CancelGroup o g) o g i (as_cancelled at.found) (record at.held { is_named = true }) old opened here places counts
    (ap (λ (v : GroupsView). v.groups) groups ∙ ap (groups_after as_cancelled w.groups.groups (record { 0 = i })) found)
    (helds ∙ ap (λ (x : GroupNotes). set w.held.items i (record x { is_named = true })) is)
    (let r = old.groups_room in omega (arith, r, reserved, spares))
    (omega (arith, spares))
    (let r = old.held_room in omega (arith, r, len, cap, spares))
    (λ u h n. facts-quiet u h log (CancelGroup o g) refl refl refl refl n)
    (λ u. opened_by-push_no u log (CancelGroup o g) refl)
    (subst (λ (f : GroupFacts). AreNotesOf o f (as_cancelled at.found) (record at.held { is_named = true }))
    (sym (facts-cancel o.0 g log o g true (own_pair o.0 g) ∙ ap (λ (b : Bool). record (facts_of o.0 g log) { named = b }) (or_true (is_named_group o.0 g log))))
    (kept_cancel o (facts_of o.0 g log) at.found at.held at.kept))

-- a new task is no child of the group
pub not_child : (w : GroupIndex) (log : List Event) (o t : TaskId) (g i : ℕ) → (old : AreGroupsOf w log) → IsTrue (is_open_group o.0 g log) → (here : place_in w o g ≡ Some i) → events_of t.0 log ≡ []
    → group_without w.groups.groups (record { 0 = i }) t ≡ Ok (old.each o g i here).found
not_child w log o t g i old opened here new =
    let at = old.each o g i here in
    let none : is_among at.found.added t ≡ false =
    ap (λ (x : GroupView). is_among x.added t) at.kept.group ∙ old.parents t o.0 g ∙ ap (λ (l : Life). is_child_of o.0 g (parent_by l.origin)) (unborn_without t.0 log new) in
    ap (if_new t) (open_at w.groups.groups i at.found at.group (stage_kept o (facts_of o.0 g log) at.found at.held at.kept (not_closed log o.0 g opened)))
    ∙ cond-false (is_among at.found.added t) (Err NoChild) (Ok at.found) none

-- a child is added
pub child-step : (w w' : GroupIndex) (log : List Event) (t o : TaskId) (g i : ℕ) (p : Priority) (held : GroupNotes) → AreGroupsOf w log → events_of t.0 log ≡ [] → IsTrue (is_open_group o.0 g log) → place_in w o g ≡ Some i
    → held ≡ get_or w.held.items i held
    → w'.groups ≡ record { groups = groups_after (with_child t) w.groups.groups (record { 0 = i }) (group_without w.groups.groups (record { 0 = i }) t); reserved = w.groups.reserved - 1 }
    → w'.held.items ≡ set w.held.items i (record held { has_children = true })
    → w'.places ≡ w.places → w'.counts ≡ w.counts → w.spare ≡ w'.spare + 1 → vec_len w'.held ≡ vec_len w.held → vec_capacity w'.held ≡ vec_capacity w.held
    → AreGroupsOf w' (log ++ Child t o g p ∷ [])
child-step w w' log t o g i p held old new opened here read groups helds places counts spares len cap =
    let at = old.each o g i here in
    let free = not_closed log o.0 g opened in
    let is : held ≡ at.held = read_held w o (facts_of o.0 g log) i held at read in
    let reserved = ap (λ (v : GroupsView). v.reserved) groups in
    changed w w' log (Child t o g p) o g i (with_child t at.found) (record at.held { has_children = true }) old (new, opened) here places counts
    (ap (λ (v : GroupsView). v.groups) groups ∙ ap (groups_after (with_child t) w.groups.groups (record { 0 = i })) (not_child w log o t g i old opened here new))
    (helds ∙ ap (λ (x : GroupNotes). set w.held.items i (record x { has_children = true })) is)
    (let r = old.groups_room in omega (arith, r, reserved, spares))
    (omega (arith, spares))
    (let r = old.held_room in omega (arith, r, len, cap, spares))
    (λ u h n. facts-quiet u h log (Child t o g p) (cond-false (eqb o.0 u && eqb g h) (Some t) None n) refl refl refl refl)
    (λ u. opened_by-push_no u log (Child t o g p) refl)
    (subst (λ (f : GroupFacts). AreNotesOf o f (with_child t at.found) (record at.held { has_children = true })) (sym (facts-child o.0 g log t o g p true new (own_pair o.0 g)))
    (kept_child o (facts_of o.0 g log) at.found at.held t at.kept free))

pub own_among : (w : GroupIndex) (log : List Event) (t o : TaskId) (g : ℕ) → AreGroupsOf w log → parent_of t.0 log ≡ Some (o.0, g) → is_among (children_of o.0 g log) t ≡ true
own_among w log t o g old parent = old.parents t o.0 g ∙ ap (is_child_of o.0 g) parent ∙ own_pair o.0 g

pub child_opened : (w : GroupIndex) (log : List Event) (t o : TaskId) (g : ℕ) → AreGroupsOf w log → parent_of t.0 log ≡ Some (o.0, g) → g < opened_by o.0 log
child_opened w log t o g old parent = elim (cases_lt g (opened_by o.0 log)) [
  | inl lt ↦ lt
  | inr ge ↦ absurd (true≢false (sym (own_among w log t o g old parent) ∙ ap (λ (f : GroupFacts). is_among f.children t) (old.unopened o.0 g ge)))
]

pub can_end : (w : GroupIndex) (log : List Event) (t o : TaskId) (g i : ℕ) (held : GroupNotes) → AreGroupsOf w log → (life_of t.0 log).ending ≡ None → parent_of t.0 log ≡ Some (o.0, g) → place_in w o g ≡ Some i
    → held ≡ get_or w.held.items i held → CanEnd w.groups.groups i held t
can_end w log t o g i held old alive parent here read =
    let at = old.each o g i here in
    let is : held ≡ at.held = read_held w o (facts_of o.0 g log) i held at read in
    record {
      found = at.found;
      at = at.group;
      among = ap (λ (x : GroupView). is_among (unfinished x) t) at.kept.group
          ∙ among_unfinished (children_of o.0 g log) (endings_of o.0 g log) t (has_ended-unended o.0 g log t alive)
          ∙ own_among w log t o g old parent;
      stage = ap (λ (x : GroupView). x.stage) at.kept.group
          ∙ ap (λ (b : Bool). stage_of b (unfinished_of (children_of o.0 g log) (endings_of o.0 g log))) (sym (ap (λ (x : GroupNotes). x.is_closed) is ∙ at.kept.closed))
          ∙ ap (λ (x : GroupView). stage_of held.is_closed (unfinished x)) (sym at.kept.group);
    }

pub end-step : (w w' : GroupIndex) (log : List Event) (t o : TaskId) (x : Ending) (g i : ℕ) (held : GroupNotes) → AreGroupsOf w log → (life_of t.0 log).ending ≡ None → parent_of t.0 log ≡ Some (o.0, g) → place_in w o g ≡ Some i
    → held ≡ get_or w.held.items i held
    → ((found : GroupView) → slice_get w.groups.groups i ≡ Some found → w'.groups ≡ record w.groups { groups = set w.groups.groups i (ended_with held t x found) })
    → w'.held.items ≡ set w.held.items i (record held { ended = held.ended + 1 })
    → w'.places ≡ w.places → w'.counts ≡ w.counts → w'.spare ≡ w.spare → vec_len w'.held ≡ vec_len w.held → vec_capacity w'.held ≡ vec_capacity w.held
    → AreGroupsOf w' (log ++ End t x ∷ [])
end-step w w' log t o x g i held old alive parent here read groups helds places counts spares len cap =
    let at = old.each o g i here in
    let is : held ≡ at.held = read_held w o (facts_of o.0 g log) i held at read in
    let groups' = groups at.found at.group in
    let reserved = ap (λ (v : GroupsView). v.reserved) groups' in
    let kept : AreNotesOf o (facts_of o.0 g log) at.found held = subst (λ (v : GroupNotes). AreNotesOf o (facts_of o.0 g log) at.found v) (sym is) at.kept in
    changed w w' log (End t x) o g i (ended_with held t x at.found) (record held { ended = held.ended + 1 }) old alive here places counts
    (ap (λ (v : GroupsView). v.groups) groups')
    helds
    (let r = old.groups_room in omega (arith, r, reserved, spares))
    (omega (arith, spares))
    (let r = old.held_room in omega (arith, r, len, cap, spares))
    (λ u h n. facts-quiet u h log (End t x) refl
    (cond-false (is_among (children_of u h log) t) (Some (t, x)) None (old.parents t u h ∙ ap (is_child_of u h) parent ∙ n)) refl refl refl)
    (λ u. opened_by-push_no u log (End t x) refl)
    (subst (λ (f : GroupFacts). AreNotesOf o f (ended_with held t x at.found) (record held { ended = held.ended + 1 })) (sym (facts-end o.0 g log t x true (own_among w log t o g old parent)))
    (kept_end o (facts_of o.0 g log) at.found held t x kept))

-- a count is no more than there are events
cons_few : {Y : Type 0} (o : Option Y) (ys : List Y) (n : ℕ) → length ys ≤ n → length (cons_option o ys) ≤ suc n
cons_few None ys n h = omega (arith, h)
cons_few (Some y) ys n h = omega (arith, h)

filter_map_few : {X Y : Type 0} (h : X → Option Y) (xs : List X) → length (filter_map h xs) ≤ length xs
filter_map_few h [] = omega arith
filter_map_few h (x ∷ xs) = cons_few (h x) (filter_map h xs) (length xs) (filter_map_few h xs)

pub asked_few : (w : GroupIndex) (log : List Event) (o : TaskId) (g i : ℕ) (held : GroupNotes) → AreGroupsOf w log → place_in w o g ≡ Some i → held ≡ get_or w.held.items i held → held.asked ≤ length log
asked_few w log o g i held old here read =
    let at = old.each o g i here in
    let is = ap (λ (x : GroupNotes). x.asked) (read_held w o (facts_of o.0 g log) i held at read) in let a = at.kept.asked in
    let few = count_by-le-length (asks o.0 g) log in omega (arith, is, a, few)

pub ended_few : (w : GroupIndex) (log : List Event) (o : TaskId) (g i : ℕ) (held : GroupNotes) → AreGroupsOf w log → place_in w o g ≡ Some i → held ≡ get_or w.held.items i held → held.ended ≤ length log
ended_few w log o g i held old here read =
    let at = old.each o g i here in
    let is = ap (λ (x : GroupNotes). x.ended) (read_held w o (facts_of o.0 g log) i held at read) in let a = at.kept.ended in
    let few = filter_map_few (ending_among (children_of o.0 g log)) log in omega (arith, is, a, few)

-- a group without a place
pub no_place : (w : GroupIndex) (log : List Event) (o : TaskId) (g : ℕ) → AreGroupsOf w log → place_in w o g ≡ None → facts_of o.0 g log ≡ no_facts
no_place w log o g old none = old.unopened o.0 g (ltb-false g (opened_by o.0 log) (sym (old.opened o g) ∙ ap is_some none))

-- an event that changes no group
pub kept-step : (w : GroupIndex) (log : List Event) (e : Event) → AreGroupsOf w log → FitsGroups log e → ((u h : ℕ) → facts_of u h (log ++ e ∷ []) ≡ facts_of u h log) → ((u : ℕ) → opened_by u (log ++ e ∷ []) ≡ opened_by u log)
    → AreGroupsOf w (log ++ e ∷ [])
kept-step w log e old fits facts count = record {
  opened = λ u h. old.opened u h ∙ ap (nat_lt h) (sym (count u.0));
  each = λ u h j there. let k = old.each u h j there in
      record { found = k.found; held = k.held; group = k.group; beside = k.beside; kept = subst (λ (f : GroupFacts). AreNotesOf u f k.found k.held) (sym (facts u.0 h)) k.kept };
  apart = old.apart;
  counted = λ u. old.counted u ∙ sym (count u.0);
  unopened = λ u h le. facts u h ∙ old.unopened u h (let c = count u in omega (arith, le, c));
  parents = parents-push log e old.parents fits;
  same = old.same;
  groups_room = old.groups_room;
  places_room = old.places_room;
  counts_room = old.counts_room;
  held_room = old.held_room;
}

-- a task has ended that is nobody's child
pub end-alone : (w : GroupIndex) (log : List Event) (t : TaskId) (x : Ending) → AreGroupsOf w log → (life_of t.0 log).ending ≡ None → parent_of t.0 log ≡ None → AreGroupsOf w (log ++ End t x ∷ [])
end-alone w log t x old alive none = kept-step w log (End t x) old alive
    (λ u h. facts-quiet u h log (End t x) refl (cond-false (is_among (children_of u h log) t) (Some (t, x)) None (old.parents t u h ∙ ap (is_child_of u h) none)) refl refl refl)
    (λ u. opened_by-push_no u log (End t x) refl)

pub plain-step : (w : GroupIndex) (log : List Event) (e : Event) → AreGroupsOf w log → FitsGroups log e
    → ((u h : ℕ) → child_in u h e ≡ None) → ((u h : ℕ) → ending_among (children_of u h log) e ≡ None) → ((u h : ℕ) → asks u h e ≡ false) → ((u h : ℕ) → closes u h e ≡ false) → ((u h : ℕ) → names_group u h e ≡ false) → ((u : ℕ) → opens u e ≡ false)
    → AreGroupsOf w (log ++ e ∷ [])
plain-step w log e old fits a b c d n m = kept-step w log e old fits (λ u h. facts-quiet u h log e (a u h) (b u h) (c u h) (d u h) (n u h)) (λ u. opened_by-push_no u log e (m u))

pub other-step : (w : GroupIndex) (log : List Event) (e : Event) → AreGroupsOf w log → FitsGroups log e
    → ((o : TaskId) (g : ℕ) → e ≡ Open o g → ⊥) → ((t o : TaskId) (g : ℕ) (p : Priority) → e ≡ Child t o g p → ⊥) → ((o : TaskId) (g : ℕ) → e ≡ CancelGroup o g → ⊥)
    → ((o : TaskId) (g : ℕ) → e ≡ Next o g → ⊥) → ((o : TaskId) (g : ℕ) → e ≡ Close o g → ⊥) → ((t : TaskId) (x : Ending) → e ≡ End t x → ⊥)
    → AreGroupsOf w (log ++ e ∷ [])
other-step w log (Open o g) old fits a b c d n m = absurd (a o g refl)
other-step w log (Child t o g p) old fits a b c d n m = absurd (b t o g p refl)
other-step w log (CancelGroup o g) old fits a b c d n m = absurd (c o g refl)
other-step w log (Next o g) old fits a b c d n m = absurd (d o g refl)
other-step w log (Close o g) old fits a b c d n m = absurd (n o g refl)
other-step w log (End t x) old fits a b c d n m = absurd (m t x refl)
other-step w log (Root t p) old fits a b c d n m = plain-step w log (Root t p) old fits (λ u h. refl) (λ u h. refl) (λ u h. refl) (λ u h. refl) (λ u h. refl) (λ u. refl)
other-step w log (Begin t k env) old fits a b c d n m = plain-step w log (Begin t k env) old fits (λ u h. refl) (λ u h. refl) (λ u h. refl) (λ u h. refl) (λ u h. refl) (λ u. refl)
other-step w log (Apply t k) old fits a b c d n m = plain-step w log (Apply t k) old fits (λ u h. refl) (λ u h. refl) (λ u h. refl) (λ u h. refl) (λ u h. refl) (λ u. refl)
other-step w log (Free t by p detached) old fits a b c d n m = plain-step w log (Free t by p detached) old fits (λ u h. refl) (λ u h. refl) (λ u h. refl) (λ u h. refl) (λ u h. refl) (λ u. refl)
other-step w log (Skip o g) old fits a b c d n m = plain-step w log (Skip o g) old fits (λ u h. refl) (λ u h. refl) (λ u h. refl) (λ u h. refl) (λ u h. refl) (λ u. refl)
other-step w log (CancelTask t) old fits a b c d n m = plain-step w log (CancelTask t) old fits (λ u h. refl) (λ u h. refl) (λ u h. refl) (λ u h. refl) (λ u h. refl) (λ u. refl)
other-step w log (Wait t awaited) old fits a b c d n m = plain-step w log (Wait t awaited) old fits (λ u h. refl) (λ u h. refl) (λ u h. refl) (λ u h. refl) (λ u h. refl) (λ u. refl)
other-step w log (Give t k resume) old fits a b c d n m = plain-step w log (Give t k resume) old fits (λ u h. refl) (λ u h. refl) (λ u h. refl) (λ u h. refl) (λ u h. refl) (λ u. refl)
