-- What the index keeps of an empty log, with more room, and once a group is opened.
use Rattle.swift_ledger.proofs.Prelude.{◌≡◌, ℕ, ◌+◌, ◌<◌, ◌≤◌, List, [], ◌∷◌, ◌++◌, length, ◌-◌, true, false, ◌&&◌, cond, eqb, refl, ap, sym, ◌∙◌, subst, inl, inr, arith, cases_eq, cases_lt, cases_Bool, cond-true, cond-false, eq-eqb, ne_eqb, and_from, lt-ltb, le-ltb, true≢false, length_push, slice_get_within, is_some, nat_lt, vec_capacity, spare, TASKS, TaskId, GroupView, GroupsView, slice_get_old, slice_get_new, Event, Open, Origin, parent_by, opened_by, opened_by-push, origin_of, GroupNotes, GroupIndex, count_at, HasPlaces, GroupFacts, facts_of, AreNotesOf, AreGroupsOf, is_child_of, place_in, same_number}
use Rattle.std.proofs.Common.{Option, None, Some}
use Rattle.std.specs.Prelude.{vec_len}
use Rattle.std.specs.List.{slice_get}
use Rattle.std.specs.Map.{lookup}
use Rattle.swift_groups.specs.Groups.{opened_by as new_group}
use Rattle.swift_ledger.proofs.GroupFacts.{parents-push, facts-quiet, opened-own, opened-other}
use Rattle.swift_ledger.proofs.KeptGroups.{kept_new}
use Rattle.swift_ledger.proofs.GroupSteps.{both, kept_at}

-- more room
pub room-step : (w w' : GroupIndex) (log : List Event) → AreGroupsOf w log → w'.groups.groups ≡ w.groups.groups → ((o : TaskId) (g : ℕ) → place_in w' o g ≡ place_in w o g)
    → ((t : ℕ) → count_at w'.counts t ≡ count_at w.counts t) → w'.held.items ≡ w.held.items
    → w'.spare ≤ w'.groups.reserved → w'.spare ≤ spare w'.places → (0 < w'.spare → HasPlaces w'.counts) → vec_len w'.held + w'.spare ≤ vec_capacity w'.held → AreGroupsOf w' log
room-step w w' log old groups places counts helds a b c d = record {
  opened = λ u h. ap is_some (places u h) ∙ old.opened u h;
  each = λ u h j there. let k = old.each u h j (sym (places u h) ∙ there) in
      record { found = k.found; held = k.held; group = ap (λ (s : List GroupView). slice_get s j) groups ∙ k.group; beside = ap (λ (s : List GroupNotes). slice_get s j) helds ∙ k.beside; kept = k.kept };
  apart = λ u v h k j x y. old.apart u v h k j (sym (places u h) ∙ x) (sym (places v k) ∙ y);
  counted = λ u. counts u.0 ∙ old.counted u;
  unopened = old.unopened;
  parents = old.parents;
  same = ap length helds ∙ old.same ∙ sym (ap length groups);
  groups_room = a;
  places_room = b;
  counts_room = c;
  held_room = d;
}

-- no events
pub none-step : (w : GroupIndex) → w.groups ≡ record { groups = []; reserved = 0 } → w.places.entries ≡ [] → ((t : ℕ) → count_at w.counts t ≡ 0) → w.held.items ≡ [] → w.spare ≡ 0 → vec_len w.held ≤ vec_capacity w.held → AreGroupsOf w []
none-step w groups places counts helds spares room =
    let nowhere : (o : TaskId) (g : ℕ) → place_in w o g ≡ None = λ o g. ap (λ es. lookup (same_number (o, g)) es) places in
    record {
      opened = λ o g. ap is_some (nowhere o g) ∙ sym (le-ltb g 0 (omega arith));
      each = λ o g i h. absurd (let n = nowhere o g in cc (n, h));
      apart = λ o u g h i a b. absurd (let n = nowhere o g in cc (n, a));
      counted = λ o. counts o.0;
      unopened = λ o g le. refl;
      parents = λ t o g. sym (ap (λ (x : Option Origin). is_child_of o g (parent_by x)) (origin_of t.0 []));
      same = ap length helds ∙ sym (ap (λ (v : GroupsView). length v.groups) groups);
      groups_room = omega (arith, spares);
      places_room = omega (arith, spares);
      counts_room = λ some. absurd (omega (arith, some, spares));
      held_room = omega (arith, spares, room);
    }

lt_more : (h g : ℕ) → (h ≡ g → ⊥) → nat_lt h g ≡ nat_lt h (g + 1)
lt_more h g ne = elim (cases_lt h g) [
  | inl lt ↦ lt-ltb h g lt ∙ sym (lt-ltb h (g + 1) (omega (arith, lt)))
  | inr ge ↦ le-ltb h g ge ∙ sym (le-ltb h (g + 1) (elim (cases_eq h g) [ inl q ↦ absurd (ne q) | inr d ↦ omega (arith, ge, d) ]))
]

pub open-step : (w w' : GroupIndex) (log : List Event) (o : TaskId) (g n : ℕ) → AreGroupsOf w log → g ≡ opened_by o.0 log → o.0 < TASKS → n ≡ length w.groups.groups
    → w'.groups ≡ record { groups = w.groups.groups ++ new_group o ∷ []; reserved = w.groups.reserved - 1 }
    → ((u : TaskId) (h : ℕ) → place_in w' u h ≡ cond (eqb o.0 u.0 && eqb g h) (Some n) (place_in w u h))
    → ((t : ℕ) → count_at w'.counts t ≡ cond (eqb o.0 t) (g + 1) (count_at w.counts t))
    → w'.held.items ≡ w.held.items ++ record { asked = 0; ended = 0; is_closed = false; is_named = false; has_children = false } ∷ []
    → w.spare ≡ w'.spare + 1 → spare w.places ≤ spare w'.places + 1 → HasPlaces w'.counts → vec_len w'.held ≡ vec_len w.held + 1 → vec_capacity w'.held ≡ vec_capacity w.held
    → AreGroupsOf w' (log ++ Open o g ∷ [])
open-step w w' log o g n old number small place groups places counts helds spares room1 room2 len cap =
    let e : Event = Open o g in
    let facts : (u h : ℕ) → facts_of u h (log ++ e ∷ []) ≡ facts_of u h log = λ u h. facts-quiet u h log e refl refl refl refl refl in
    let own = opened-own log o g in
    let groups' : w'.groups.groups ≡ w.groups.groups ++ new_group o ∷ [] = ap (λ (v : GroupsView). v.groups) groups in
    let reserved = ap (λ (v : GroupsView). v.reserved) groups in
    let yes : (u : TaskId) (h : ℕ) → (eqb o.0 u.0 && eqb g h) ≡ true → place_in w' u h ≡ Some n = λ u h y. places u h ∙ cond-true (eqb o.0 u.0 && eqb g h) (Some n) (place_in w u h) y in
    let no : (u : TaskId) (h : ℕ) → (eqb o.0 u.0 && eqb g h) ≡ false → place_in w' u h ≡ place_in w u h = λ u h y. places u h ∙ cond-false (eqb o.0 u.0 && eqb g h) (Some n) (place_in w u h) y in
    let inside : (u : TaskId) (h j : ℕ) → place_in w u h ≡ Some j → j < n = λ u h j there. let k = old.each u h j there in let r = slice_get_within w.groups.groups j k.found k.group in omega (arith, r, place) in
    let kept : AreNotesOf o (facts_of o.0 g (log ++ e ∷ [])) (new_group o) (record { asked = 0; ended = 0; is_closed = false; is_named = false; has_children = false }) =
    subst (λ (f : GroupFacts). AreNotesOf o f (new_group o) (record { asked = 0; ended = 0; is_closed = false; is_named = false; has_children = false })) (sym (facts o.0 g ∙ old.unopened o.0 g (omega (arith, number)))) (kept_new o) in
    record {
      opened = λ u h. elim (cases_Bool (eqb o.0 u.0 && eqb g h)) [
        | inl y ↦
            let p = both o.0 u.0 g h y in let q = p.1 in
            let c : opened_by u.0 (log ++ e ∷ []) ≡ opened_by o.0 (log ++ e ∷ []) = ap (λ (m : ℕ). opened_by m (log ++ e ∷ [])) (sym p.0) in
            ap is_some (yes u h y) ∙ sym (lt-ltb h (opened_by u.0 (log ++ e ∷ [])) (omega (arith, c, own, number, q)))
        | inr d ↦ ap is_some (no u h d) ∙ old.opened u h ∙ elim (cases_eq o.0 u.0) [
          | inl s ↦
              let ne : h ≡ opened_by u.0 log → ⊥ = λ (q : h ≡ opened_by u.0 log).
              let c : opened_by u.0 log ≡ opened_by o.0 log = ap (λ (m : ℕ). opened_by m log) (sym s) in
              let r : g ≡ h = number ∙ sym c ∙ sym q in
              true≢false (sym (and_from (eqb o.0 u.0) (eqb g h) (eq-eqb o.0 u.0 s) (eq-eqb g h r)) ∙ d) in
              lt_more h (opened_by u.0 log) ne
              ∙ ap (nat_lt h) (sym (ap (λ (m : ℕ). opened_by m (log ++ e ∷ [])) (sym s) ∙ own ∙ ap (λ (m : ℕ). opened_by m log + 1) s))
          | inr x ↦ ap (nat_lt h) (sym (opened-other log o g u.0 x))
        ]
      ];
      each = λ u h j there. elim (cases_Bool (eqb o.0 u.0 && eqb g h)) [
        | inl y ↦
            let p = both o.0 u.0 g h y in
            let at : j ≡ n = let q : Some n ≡ Some j = sym (yes u h y) ∙ there in cc in
            record {
              found = new_group o;
              held = record { asked = 0; ended = 0; is_closed = false; is_named = false; has_children = false };
              group = ap (λ (s : List GroupView). slice_get s j) groups' ∙ ap (λ (m : ℕ). slice_get (w.groups.groups ++ new_group o ∷ []) m) (at ∙ place) ∙ slice_get_new w.groups.groups (new_group o);
              beside = ap (λ (s : List GroupNotes). slice_get s j) helds
                  ∙ ap (λ (m : ℕ). slice_get (w.held.items ++ record { asked = 0; ended = 0; is_closed = false; is_named = false; has_children = false } ∷ []) m) (at ∙ place ∙ sym old.same)
                  ∙ slice_get_new w.held.items (record { asked = 0; ended = 0; is_closed = false; is_named = false; has_children = false });
              kept = kept_at o u g h (log ++ e ∷ []) (new_group o) (record { asked = 0; ended = 0; is_closed = false; is_named = false; has_children = false }) p.0 p.1 kept;
            }
        | inr d ↦
            let k = old.each u h j (sym (no u h d) ∙ there) in
            record {
              found = k.found;
              held = k.held;
              group = ap (λ (s : List GroupView). slice_get s j) groups' ∙ slice_get_old w.groups.groups (new_group o ∷ []) j k.found k.group;
              beside = ap (λ (s : List GroupNotes). slice_get s j) helds ∙ slice_get_old w.held.items (record { asked = 0; ended = 0; is_closed = false; is_named = false; has_children = false } ∷ []) j k.held k.beside;
              kept = subst (λ (f : GroupFacts). AreNotesOf u f k.found k.held) (sym (facts u.0 h)) k.kept;
            }
      ];
      apart = λ u v h k j a b. elim (cases_Bool (eqb o.0 u.0 && eqb g h)) [
        | inl y ↦ let p = both o.0 u.0 g h y in elim (cases_Bool (eqb o.0 v.0 && eqb g k)) [
          | inl z ↦ let q = both o.0 v.0 g k z in (sym p.0 ∙ q.0, sym p.1 ∙ q.1)
          | inr d ↦
              let at : j ≡ n = let r : Some n ≡ Some j = sym (yes u h y) ∙ a in cc in
              let lt = inside v k j (sym (no v k d) ∙ b) in absurd (omega (arith, at, lt))
        ]
        | inr c ↦ elim (cases_Bool (eqb o.0 v.0 && eqb g k)) [
          | inl z ↦
              let at : j ≡ n = let r : Some n ≡ Some j = sym (yes v k z) ∙ b in cc in
              let lt = inside u h j (sym (no u h c) ∙ a) in absurd (omega (arith, at, lt))
          | inr d ↦ old.apart u v h k j (sym (no u h c) ∙ a) (sym (no v k d) ∙ b)
        ]
      ];
      counted = λ u. elim (cases_eq o.0 u.0) [
        | inl s ↦
            counts u.0 ∙ cond-true (eqb o.0 u.0) (g + 1) (count_at w.counts u.0) (eq-eqb o.0 u.0 s)
            ∙ ap (λ (m : ℕ). m + 1) number ∙ sym own ∙ ap (λ (m : ℕ). opened_by m (log ++ e ∷ [])) s
        | inr x ↦
            counts u.0 ∙ cond-false (eqb o.0 u.0) (g + 1) (count_at w.counts u.0) (ne_eqb o.0 u.0 x)
            ∙ old.counted u ∙ sym (opened-other log o g u.0 x)
      ];
      unopened = λ u h le. facts u h ∙ old.unopened u h (let m = opened_by-push u log e in omega (arith, m, le));
      parents = parents-push log e old.parents (number, small);
      same = ap length helds ∙ length_push w.held.items (record { asked = 0; ended = 0; is_closed = false; is_named = false; has_children = false }) ∙ ap (λ (m : ℕ). m + 1) old.same
          ∙ sym (ap length groups' ∙ length_push w.groups.groups (new_group o));
      groups_room = let r = old.groups_room in omega (arith, r, reserved, spares);
      places_room = let r = old.places_room in omega (arith, r, room1, spares);
      counts_room = λ some. room2;
      held_room = let r = old.held_room in omega (arith, r, len, cap, spares);
    }
