use Rattle.swift_groups.proofs.Prelude.{◌-◌, List, length, arith, refl, sym, ap, subst, get, Group, GroupsView, added_of, ended_of, AreGroups, same_key}
use Rattle.swift_groups.proofs.Views.{length_view}
use Rattle.swift_groups.proofs.FieldsKept.{are_groups_opened}
use Rattle.swift_groups.proofs.Calls.{opened, groups_are}
use Rattle.swift_groups.proofs.groups.Groups.record_group.Goals as goal

pub invariant_of-self : goal.invariant_of-self
invariant_of-self c =
    let i = c.self.invariant in
    let room = ap (λ (v : GroupsView). v.reserved) c.self.view_is in
    let reserved = c.requires in
    let len = c.in-Ok.ensures.len in let cap = c.in-Ok.ensures.capacity in
    record {
      are_groups = subst (λ (s : List Group). AreGroups s c.self.inside.children.items c.self.inside.endings.items (λ j t. get same_key c.self.inside.marks (j, t))) (sym c.in-Ok.ensures.items)
          (are_groups_opened _ _ _ _ _ i.are_groups refl refl refl refl);
      linked = i.linked;
      groups_room = let r = i.groups_room in omega (arith, r, room, reserved, len, cap);
      children_room = let r = i.children_room in omega (arith, r, room, reserved);
      marks_room = let r = i.marks_room in omega (arith, r, room, reserved);
      endings_room = let r = i.endings_room in omega (arith, r, room, reserved);
      after_room = let r = i.after_room in omega (arith, r, room, reserved);
    }

pub returns-clause-number : goal.returns-clause-number
returns-clause-number c =
    let len = length_view c.self.inside.groups.items (added_of c.self.inside.children.items) (ended_of c.self.inside.endings.items) in
    let seen = ap (λ (v : GroupsView). length v.groups) c.self.view_is in
    let number = c.len-number.ensures in
    omega (arith, len, seen, number)

pub returns-clause-opened : goal.returns-clause-opened
returns-clause-opened c =
    let k = c.self.invariant.are_groups in
    groups_are _ _ _ _
    (opened c.self.inside c.args.self.now _ _ c.self.view_is c.in-Ok.ensures.items (k.none_added (length c.self.inside.groups.items) (omega arith)) (k.none_ended (length c.self.inside.groups.items) (omega arith)))
    (ap (λ (v : GroupsView). v.reserved - 1) c.self.view_is)
