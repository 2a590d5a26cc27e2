use Rattle.swift_groups.proofs.Prelude.{rules, ◌≡◌, true, eqb, List, Some, Result, arith, refl, sym, ap, ◌∙◌, get, is_some, TaskId, Ending, GroupFault, ChildEnding, GroupView, GroupsView, with_ending, if_unfinished, accepted, ended_of, same_key, unended}
use Rattle.swift_groups.proofs.Links.{ended_push_same, ended_push_other}
use Rattle.swift_groups.proofs.Children.{mark_unended, unended_mark, mark_written}
use Rattle.swift_groups.proofs.FieldsKept.{are_groups_ended, ending_fits}
use Rattle.swift_groups.proofs.Calls.{seen, found_live, refused_live, kept_by_refusal, changed, groups_are, err_from, with_unfinished, not_unfinished}
use Rattle.swift_groups.proofs.groups.Groups.finished.Goals as goal

pub returns-in_err-found-clause-refusals : goal.returns-in_err-found-clause-refusals
returns-in_err-found-clause-refusals c =
    let refused = refused_live c.self.inside c.args.self.now c.args.group _ _ c.self.view_is c.deref.ensures.value c.in_err-found.ensures in
    err_from c.from_residual.result c.in_err-found.field-0.0 c.from_residual.ensures.1 ∙ sym (ap (λ (r : Result GroupView GroupFault). accepted (if_unfinished c.args.child r)) refused)

pub returns-in_err-found-clause-after : goal.returns-in_err-found-clause-after
returns-in_err-found-clause-after c =
    let refused = refused_live c.self.inside c.args.self.now c.args.group _ _ c.self.view_is c.deref.ensures.value c.in_err-found.ensures in
    kept_by_refusal c.args.self.now c.args.group (with_ending c.args.child c.args.ending) _ _ (ap (if_unfinished c.args.child) refused)

pub returns-then-not-is_unfinished-clause-refusals : goal.returns-then-not-is_unfinished-clause-refusals
returns-then-not-is_unfinished-clause-refusals c =
    let k = found_live c.self.inside c.args.self.now c.args.group _ _ c.self.view_is c.deref.ensures.value c.in_ok-found.ensures in
    let seen = ap unended (c.self.invariant.are_groups.marks c.args.group.0 c.args.child) ∙ mark_unended _ _ c.args.child in
    let no = not_unfinished c.args.child _ _ k.shown (sym seen ∙ sym c.if-not-is_unfinished.ensures) in
    sym (ap accepted no)

pub returns-then-not-is_unfinished-clause-after : goal.returns-then-not-is_unfinished-clause-after
returns-then-not-is_unfinished-clause-after c =
    let k = found_live c.self.inside c.args.self.now c.args.group _ _ c.self.view_is c.deref.ensures.value c.in_ok-found.ensures in
    let seen = ap unended (c.self.invariant.are_groups.marks c.args.group.0 c.args.child) ∙ mark_unended _ _ c.args.child in
    kept_by_refusal c.args.self.now c.args.group (with_ending c.args.child c.args.ending) _ _ (not_unfinished c.args.child _ _ k.shown (sym seen ∙ sym c.if-not-is_unfinished.ensures))

pub enqueue-requires-clause-last : goal.enqueue-requires-clause-last
enqueue-requires-clause-last c =
    let k = found_live c.self.inside c.args.self.now c.args.group _ _ c.self.view_is c.deref.ensures.value c.in_ok-found.ensures in
    (c.self.invariant.are_groups.each c.args.group.0 c.in_ok-found.found k.at).last

pub enqueue-requires-clause-endings : goal.enqueue-requires-clause-endings
enqueue-requires-clause-endings c =
    let k = found_live c.self.inside c.args.self.now c.args.group _ _ c.self.view_is c.deref.ensures.value c.in_ok-found.ensures in
    let i = c.self.invariant in
    let fits = ending_fits _ _ _ _ c.args.group.0 c.in_ok-found.found c.args.child c.args.ending i.are_groups k.at (unended_mark _ (sym c.if-not-is_unfinished.ensures)) in
    let less = fits.1 in let r = i.endings_room in omega (arith, less, r)

pub enqueue-requires-clause-after : goal.enqueue-requires-clause-after
enqueue-requires-clause-after c =
    let k = found_live c.self.inside c.args.self.now c.args.group _ _ c.self.view_is c.deref.ensures.value c.in_ok-found.ensures in
    let i = c.self.invariant in
    let fits = ending_fits _ _ _ _ c.args.group.0 c.in_ok-found.found c.args.child c.args.ending i.are_groups k.at (unended_mark _ (sym c.if-not-is_unfinished.ensures)) in
    let less = fits.1 in let r = i.after_room in let same = i.linked.same in omega (arith, less, r, same)

pub overflow_sub-found : goal.overflow_sub-found
overflow_sub-found c =
    let k = found_live c.self.inside c.args.self.now c.args.group _ _ c.self.view_is c.deref.ensures.value c.in_ok-found.ensures in
    let fits = ending_fits _ _ _ _ c.args.group.0 c.in_ok-found.found c.args.child c.args.ending c.self.invariant.are_groups k.at (unended_mark _ (sym c.if-not-is_unfinished.ensures)) in
    let some = fits.0 in omega (arith, some)

pub mark_ended-requires : goal.mark_ended-requires
mark_ended-requires c = ap is_some (unended_mark _ (sym c.if-not-is_unfinished.ensures))

pub invariant_of-self : goal.invariant_of-self
invariant_of-self c =
    let k = found_live c.self.inside c.args.self.now c.args.group _ _ c.self.view_is c.deref.ensures.value c.in_ok-found.ensures in
    let i = c.self.invariant in
    let q = c.enqueue.ensures in
    let len = q.endings_len in let len' = q.after_len in
    record {
      are_groups = are_groups_ended c.self.inside.groups.items _ c.self.inside.endings.items _ _ _ c.args.group.0 c.len-place.result c.in_ok-found.found _ _ q.endings i.are_groups k.at refl (search rules)
          (unended_mark _ (sym c.if-not-is_unfinished.ensures))
          (λ j t. c.mark_ended.ensures.written j t ∙ mark_written (eqb c.args.group.0 j) (eqb c.args.child.0 t.0) (Some true) (get same_key c.self.inside.marks (j, t)))
          refl refl c.or.ensures refl;
      linked = q.linked;
      groups_room = i.groups_room;
      children_room = i.children_room;
      marks_room = let r = i.marks_room in let s = c.mark_ended.ensures.room in omega (arith, r, s);
      endings_room = let r = i.endings_room in let cap = q.endings_capacity in omega (arith, r, cap);
      after_room = let r = i.after_room in let cap = q.after_capacity in omega (arith, r, cap);
    }

pub returns-clause-refusals : goal.returns-clause-refusals
returns-clause-refusals c =
    let k = found_live c.self.inside c.args.self.now c.args.group _ _ c.self.view_is c.deref.ensures.value c.in_ok-found.ensures in
    let seen = ap unended (c.self.invariant.are_groups.marks c.args.group.0 c.args.child) ∙ mark_unended _ _ c.args.child in
    let yes = with_unfinished c.args.child _ _ k.shown (sym seen ∙ sym c.if-not-is_unfinished.ensures) in
    sym (ap accepted yes)

pub returns-clause-after : goal.returns-clause-after
returns-clause-after c =
    let k = found_live c.self.inside c.args.self.now c.args.group _ _ c.self.view_is c.deref.ensures.value c.in_ok-found.ensures in
    let marked = ap unended (c.self.invariant.are_groups.marks c.args.group.0 c.args.child) ∙ mark_unended _ _ c.args.child in
    let yes = with_unfinished c.args.child _ _ k.shown (sym marked ∙ sym c.if-not-is_unfinished.ensures) in
    let items = c.enqueue.ensures.endings in
    groups_are _ _ _ _
    (changed c.self.inside c.args.self.now c.args.group c.in_ok-found.found _ _ (with_ending c.args.child c.args.ending) c.self.inside.children.items c.enqueue.new.endings.items c.self.view_is
    (record { at = k.at; within = k.within; shown = yes })
    (λ j o. refl)
    (λ j o. ap (λ (s : List ChildEnding). ended_of s j) items ∙ ended_push_other _ _ j (λ (q : c.args.group.0 ≡ j). o (sym q)))
    (ap (λ (e : List (TaskId × Ending)). record (seen c.self.inside c.args.group.0 c.in_ok-found.found) { ended = e }) (ap (λ (s : List ChildEnding). ended_of s c.args.group.0) items ∙ ended_push_same _ _ c.args.group.0 refl)))
    (ap (λ (v : GroupsView). v.reserved) c.self.view_is)
