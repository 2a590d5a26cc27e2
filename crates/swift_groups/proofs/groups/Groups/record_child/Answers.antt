use Rattle.swift_groups.proofs.Prelude.{◌≡◌, false, eqb, ◌-◌, List, Some, arith, refl, sym, ap, ◌∙◌, get, TaskId, Child, GroupsView, with_child, added_of, same_key}
use Rattle.swift_groups.proofs.Children.{added_push_same, added_push_other, mark_fresh, mark_written}
use Rattle.swift_groups.proofs.FieldsKept.{are_groups_added, unfinished_le}
use Rattle.swift_groups.proofs.Calls.{seen, found_open, refused_open, changed, groups_are, without, new_from, not_refused}
use Rattle.swift_groups.proofs.groups.Groups.record_child.Goals as goal

pub unreachable-requires : goal.unreachable-requires
unreachable-requires c =
    not_refused c.args.child _ _ c.requires.new (refused_open c.self.inside c.args.self.now c.args.group _ _ c.self.view_is c.deref.ensures.value c.in_default.ensures)

pub overflow_add-found : goal.overflow_add-found
overflow_add-found c =
    let k = found_open c.self.inside c.args.self.now c.args.group _ _ c.self.view_is c.deref.ensures.value c.in-Ok.ensures in
    let few = unfinished_le _ _ _ _ c.args.group.0 c.in-Ok.found c.self.invariant.are_groups k.at in
    omega (arith, few)

pub index_mut-requires : goal.index_mut-requires
index_mut-requires c =
    let k = found_open c.self.inside c.args.self.now c.args.group _ _ c.self.view_is c.deref.ensures.value c.in-Ok.ensures in
    let within = k.within in omega (arith, within)

pub invariant_of-self : goal.invariant_of-self
invariant_of-self c =
    let k = found_open c.self.inside c.args.self.now c.args.group _ _ c.self.view_is c.deref.ensures.value c.in-Ok.ensures in
    let i = c.self.invariant in
    let is = i.are_groups.each c.args.group.0 c.in-Ok.found k.at in
    let new = new_from c.args.child _ _ c.requires.new k.shown in
    let fresh = i.are_groups.marks c.args.group.0 c.args.child ∙ mark_fresh _ _ c.args.child is.known new in
    let room = ap (λ (v : GroupsView). v.reserved) c.self.view_is in let reserved = c.requires.room in
    let len = c.in-Ok-push.ensures.len in let cap = c.in-Ok-push.ensures.capacity in let spare' = c.in-Ok-insert.ensures.spare in
    record {
      are_groups = are_groups_added c.self.inside.groups.items _ _ _ _ _ c.args.group.0 c.in-Ok.found _ _ c.in-Ok-push.ensures.items i.are_groups k.at refl fresh
          (λ j t. c.in-Ok-insert.ensures.updates.0 (j, t) ∙ mark_written (eqb c.args.group.0 j) (eqb c.args.child.0 t.0) (Some false) (get same_key c.self.inside.marks (j, t)))
          refl refl refl refl;
      linked = i.linked;
      groups_room = let r = i.groups_room in omega (arith, r, room, reserved);
      children_room = let r = i.children_room in omega (arith, r, room, reserved, len, cap);
      marks_room = let r = i.marks_room in omega (arith, r, room, reserved, spare');
      endings_room = let r = i.endings_room in omega (arith, r, room, reserved, len);
      after_room = let r = i.after_room in omega (arith, r, room, reserved, len);
    }

pub returns : goal.returns
returns c =
    let k = found_open c.self.inside c.args.self.now c.args.group _ _ c.self.view_is c.deref.ensures.value c.in-Ok.ensures in
    let new = new_from c.args.child _ _ c.requires.new k.shown in
    let items = c.in-Ok-push.ensures.items in
    groups_are _ _ _ _
    (changed c.self.inside c.args.self.now c.args.group c.in-Ok.found _ _ (with_child c.args.child) c.push.new.self.items c.self.inside.endings.items c.self.view_is
    (record { at = k.at; within = k.within; shown = without c.args.child _ _ k.shown new })
    (λ j o. ap (λ (s : List Child). added_of s j) items ∙ added_push_other _ _ j (λ (q : c.args.group.0 ≡ j). o (sym q)))
    (λ j o. refl)
    (ap (λ (a : List TaskId). record (with_child c.args.child (seen c.self.inside c.args.group.0 c.in-Ok.found)) { added = a }) (ap (λ (s : List Child). added_of s c.args.group.0) items ∙ added_push_same _ _ c.args.group.0 refl)))
    (ap (λ (v : GroupsView). v.reserved - 1) c.self.view_is)
