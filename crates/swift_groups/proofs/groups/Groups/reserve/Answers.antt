use Rattle.swift_groups.proofs.Prelude.{ℕ, List, Option, arith, refl, sym, subst, ChildEnding, AreLinked}
use Rattle.swift_groups.proofs.FieldsKept.{are_groups_same}
use Rattle.swift_groups.proofs.groups.Groups.reserve.Goals as goal

pub invariant_of-self : goal.invariant_of-self
invariant_of-self c =
    let m = c.reserve.ensures in let k = c.self.invariant in
    record {
      are_groups = are_groups_same _ _ _ _ _ _ _ _ k.are_groups m.items refl refl (λ i t. refl);
      linked = k.linked;
      groups_room = let r = k.groups_room in omega (arith, r, m.len, m.capacity);
      children_room = k.children_room;
      marks_room = k.marks_room;
      endings_room = k.endings_room;
      after_room = k.after_room;
    }

pub invariant_of-self-in_err-make_room_for_children : goal.invariant_of-self-in_err-make_room_for_children
invariant_of-self-in_err-make_room_for_children c =
    let g = c.in_ok-reserve.ensures in let m = c.make_room_for_children.ensures in let k = c.self.invariant in
    record {
      are_groups = are_groups_same _ _ _ _ _ _ _ _ k.are_groups g.items m.children refl m.marks;
      linked = k.linked;
      groups_room = let r = k.groups_room in omega (arith, r, g.len, g.capacity);
      children_room = let r = k.children_room in omega (arith, r, m.children_len, m.children_room);
      marks_room = let r = k.marks_room in omega (arith, r, m.marks_room);
      endings_room = let r = k.endings_room in omega (arith, r, m.children_len);
      after_room = let r = k.after_room in omega (arith, r, m.children_len);
    }

pub invariant_of-self-in_err-make_room_for_endings : goal.invariant_of-self-in_err-make_room_for_endings
invariant_of-self-in_err-make_room_for_endings c =
    let g = c.in_ok-reserve.ensures in let m = c.in_ok-make_room_for_children.ensures in let e = c.make_room_for_endings.ensures in let k = c.self.invariant in
    record {
      are_groups = are_groups_same _ _ _ _ _ _ _ _ k.are_groups g.items m.children e.endings m.marks;
      linked = subst (λ (s : List ChildEnding). AreLinked s c.make_room_for_endings.new.after.items) (sym e.endings) (subst (λ (s : List (Option ℕ)). AreLinked c.self.inside.endings.items s) (sym e.after) k.linked);
      groups_room = let r = k.groups_room in omega (arith, r, g.len, g.capacity);
      children_room = let r = k.children_room in omega (arith, r, m.children_len, m.children_room);
      marks_room = let r = k.marks_room in omega (arith, r, m.marks_room);
      endings_room = let r = k.endings_room in omega (arith, r, m.children_len, e.endings_room);
      after_room = let r = k.after_room in omega (arith, r, m.children_len, e.after_room);
    }

pub invariant_of-self-2 : goal.invariant_of-self-2
invariant_of-self-2 c =
    let g = c.in_ok-reserve.ensures in let m = c.in_ok-make_room_for_children.ensures in let e = c.in_ok-make_room_for_endings.ensures in let k = c.self.invariant in
    let len = c.len.ensures in
    record {
      are_groups = are_groups_same _ _ _ _ _ _ _ _ k.are_groups g.items m.children e.endings m.marks;
      linked = subst (λ (s : List ChildEnding). AreLinked s c.make_room_for_endings.new.after.items) (sym e.endings) (subst (λ (s : List (Option ℕ)). AreLinked c.self.inside.endings.items s) (sym e.after) k.linked);
      groups_room = g.ok;
      children_room = m.children_ok;
      marks_room = m.marks_ok;
      endings_room = omega (arith, len, e.endings_ok);
      after_room = omega (arith, len, e.after_ok);
    }
