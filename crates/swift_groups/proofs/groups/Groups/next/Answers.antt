use Rattle.swift_groups.proofs.Prelude.{Ok, arith, refl, sym, ap, ◌∙◌, GroupsView, next_of, handed_on, answer}
use Rattle.swift_groups.proofs.Results.{next_empty, next_wait, handed_none, first_within, handed_within, next_result, handed_one, group_handed}
use Rattle.swift_groups.proofs.FieldsKept.{are_groups_changed}
use Rattle.swift_groups.proofs.Calls.{found_open, refused_open, kept_by_refusal, changed, unchanged, groups_are, err_from}
use Rattle.swift_groups.proofs.groups.Groups.next.Goals as goal

pub returns-in_err-found-clause-result : goal.returns-in_err-found-clause-result
returns-in_err-found-clause-result c =
    let refused = refused_open c.self.inside c.args.self.now c.args.group _ _ c.self.view_is c.deref.ensures.value c.in_err-found.ensures in
    err_from c.from_residual.result c.in_err-found.field-0.0 c.from_residual.ensures.1 ∙ sym (ap (answer next_of) refused)

pub returns-in_err-found-clause-after : goal.returns-in_err-found-clause-after
returns-in_err-found-clause-after c =
    let refused = refused_open c.self.inside c.args.self.now c.args.group _ _ c.self.view_is c.deref.ensures.value c.in_err-found.ensures in
    kept_by_refusal c.args.self.now c.args.group handed_on _ _ refused

pub returns-then-found-eq0-clause-result : goal.returns-then-found-eq0-clause-result
returns-then-found-eq0-clause-result c =
    let k = found_open c.self.inside c.args.self.now c.args.group _ _ c.self.view_is c.deref.ensures.value c.in_ok-found.ensures in
    let is = c.self.invariant.are_groups.each c.args.group.0 c.in_ok-found.found k.at in
    sym (ap (answer next_of) k.shown ∙ ap Ok (next_empty _ _ c.self.inside.endings.items c.args.group.0 is c.in_default.is c.if-found-eq0.true))

pub returns-then-found-eq0-clause-after : goal.returns-then-found-eq0-clause-after
returns-then-found-eq0-clause-after c =
    let k = found_open c.self.inside c.args.self.now c.args.group _ _ c.self.view_is c.deref.ensures.value c.in_ok-found.ensures in
    let is = c.self.invariant.are_groups.each c.args.group.0 c.in_ok-found.found k.at in
    unchanged c.self.inside c.args.self.now c.args.group _ _ handed_on c.self.view_is k (handed_none _ _ c.self.inside.endings.items c.args.group.0 is c.in_default.is)

pub returns-in_default-clause-result : goal.returns-in_default-clause-result
returns-in_default-clause-result c =
    let k = found_open c.self.inside c.args.self.now c.args.group _ _ c.self.view_is c.deref.ensures.value c.in_ok-found.ensures in
    let is = c.self.invariant.are_groups.each c.args.group.0 c.in_ok-found.found k.at in
    sym (ap (answer next_of) k.shown ∙ ap Ok (next_wait _ _ c.self.inside.endings.items c.args.group.0 is c.in_default.is c.if-found-eq0.false))

pub returns-in_default-clause-after : goal.returns-in_default-clause-after
returns-in_default-clause-after c =
    let k = found_open c.self.inside c.args.self.now c.args.group _ _ c.self.view_is c.deref.ensures.value c.in_ok-found.ensures in
    let is = c.self.invariant.are_groups.each c.args.group.0 c.in_ok-found.found k.at in
    unchanged c.self.inside c.args.self.now c.args.group _ _ handed_on c.self.view_is k (handed_none _ _ c.self.inside.endings.items c.args.group.0 is c.in_default.is)

pub index-ended-requires : goal.index-ended-requires
index-ended-requires c =
    let k = found_open c.self.inside c.args.self.now c.args.group _ _ c.self.view_is c.deref.ensures.value c.in_ok-found.ensures in
    let is = c.self.invariant.are_groups.each c.args.group.0 c.in_ok-found.found k.at in
    let within = first_within _ _ c.self.inside.endings.items c.args.group.0 c.in-Some.first is c.in-Some.is in
    omega (arith, within)

pub overflow_add-found : goal.overflow_add-found
overflow_add-found c =
    let k = found_open c.self.inside c.args.self.now c.args.group _ _ c.self.view_is c.deref.ensures.value c.in_ok-found.ensures in
    let is = c.self.invariant.are_groups.each c.args.group.0 c.in_ok-found.found k.at in
    let within = handed_within _ _ c.self.inside.endings.items c.args.group.0 c.in-Some.first is c.in-Some.is in
    omega (arith, within)

pub index-requires : goal.index-requires
index-requires c =
    let k = found_open c.self.inside c.args.self.now c.args.group _ _ c.self.view_is c.deref.ensures.value c.in_ok-found.ensures in
    let is = c.self.invariant.are_groups.each c.args.group.0 c.in_ok-found.found k.at in
    let within = first_within _ _ c.self.inside.endings.items c.args.group.0 c.in-Some.first is c.in-Some.is in
    let same = c.self.invariant.linked.same in
    omega (arith, within, same)

pub index_mut-requires : goal.index_mut-requires
index_mut-requires c =
    let k = found_open c.self.inside c.args.self.now c.args.group _ _ c.self.view_is c.deref.ensures.value c.in_ok-found.ensures in
    let within = k.within in omega (arith, within)

pub invariant_of-self : goal.invariant_of-self
invariant_of-self c =
    let k = found_open c.self.inside c.args.self.now c.args.group _ _ c.self.view_is c.deref.ensures.value c.in_ok-found.ensures in
    let i = c.self.invariant in
    let is = i.are_groups.each c.args.group.0 c.in_ok-found.found k.at in
    record {
      are_groups = are_groups_changed _ _ _ _ c.args.group.0 c.in_ok-found.found _ i.are_groups k.at
          (group_handed c.in_ok-found.found _ _ c.self.inside.endings.items c.self.inside.after.items c.args.group.0 c.in-Some.first is i.linked c.in-Some.is refl refl c.index.ensures refl) refl;
      linked = i.linked;
      groups_room = i.groups_room;
      children_room = i.children_room;
      marks_room = i.marks_room;
      endings_room = i.endings_room;
      after_room = i.after_room;
    }

pub returns-clause-result : goal.returns-clause-result
returns-clause-result c =
    let k = found_open c.self.inside c.args.self.now c.args.group _ _ c.self.view_is c.deref.ensures.value c.in_ok-found.ensures in
    let is = c.self.invariant.are_groups.each c.args.group.0 c.in_ok-found.found k.at in
    sym (ap (answer next_of) k.shown ∙ ap Ok (next_result _ _ c.self.inside.endings.items c.args.group.0 c.in-Some.first c.index-ended.result.now is c.in-Some.is c.index-ended.ensures))

pub returns-clause-after : goal.returns-clause-after
returns-clause-after c =
    let k = found_open c.self.inside c.args.self.now c.args.group _ _ c.self.view_is c.deref.ensures.value c.in_ok-found.ensures in
    let is = c.self.invariant.are_groups.each c.args.group.0 c.in_ok-found.found k.at in
    groups_are _ _ _ _
    (changed c.self.inside c.args.self.now c.args.group c.in_ok-found.found _ _ handed_on c.self.inside.children.items c.self.inside.endings.items c.self.view_is k (λ j o. refl) (λ j o. refl)
    (handed_one _ _ c.self.inside.endings.items c.args.group.0 c.in-Some.first c.index-ended.result.now is c.in-Some.is c.index-ended.ensures))
    (ap (λ (v : GroupsView). v.reserved) c.self.view_is)
