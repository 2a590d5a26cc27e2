use Rattle.swift_groups.proofs.Prelude.{Ok, arith, refl, sym, ap, ◌∙◌, GroupsView, close_of, closed_on, answer}
use Rattle.swift_groups.proofs.Results.{close_done, closed_done, close_wait, closed_wait}
use Rattle.swift_groups.proofs.FieldsKept.{are_groups_changed}
use Rattle.swift_groups.proofs.Calls.{found_live, refused_live, kept_by_refusal, changed, groups_are, err_from}
use Rattle.swift_groups.proofs.groups.Groups.close.Goals as goal

pub returns-in_err-found-clause-result : goal.returns-in_err-found-clause-result
returns-in_err-found-clause-result c =
    let refused = refused_live c.self.inside c.args.self.now c.args.group _ _ c.self.view_is c.deref.ensures.value c.in_err-found.ensures in
    err_from c.from_residual.result c.in_err-found.field-0.0 c.from_residual.ensures.1 ∙ sym (ap (answer close_of) refused)

pub returns-in_err-found-clause-after : goal.returns-in_err-found-clause-after
returns-in_err-found-clause-after c =
    let refused = refused_live c.self.inside c.args.self.now c.args.group _ _ c.self.view_is c.deref.ensures.value c.in_err-found.ensures in
    kept_by_refusal c.args.self.now c.args.group closed_on _ _ refused

pub index_mut-requires : goal.index_mut-requires
index_mut-requires c =
    let k = found_live c.self.inside c.args.self.now c.args.group _ _ c.self.view_is c.deref.ensures.value c.in_ok-found.ensures in
    let within = k.within in omega (arith, within)

pub invariant_of-self : goal.invariant_of-self
invariant_of-self c =
    let k = found_live c.self.inside c.args.self.now c.args.group _ _ c.self.view_is c.deref.ensures.value c.in_ok-found.ensures in
    let i = c.self.invariant in
    let is = i.are_groups.each c.args.group.0 c.in_ok-found.found k.at in
    record {
      are_groups = are_groups_changed _ _ _ _ c.args.group.0 c.in_ok-found.found _ i.are_groups k.at
          (record { unfinished = is.unfinished; handed = is.handed; first = is.first; last = is.last; known = is.known; once = is.once }) refl;
      linked = i.linked;
      groups_room = i.groups_room;
      children_room = i.children_room;
      marks_room = i.marks_room;
      endings_room = i.endings_room;
      after_room = i.after_room;
    }

pub returns-then-found-eq0-clause-result : goal.returns-then-found-eq0-clause-result
returns-then-found-eq0-clause-result c =
    let k = found_live c.self.inside c.args.self.now c.args.group _ _ c.self.view_is c.deref.ensures.value c.in_ok-found.ensures in
    let is = c.self.invariant.are_groups.each c.args.group.0 c.in_ok-found.found k.at in
    sym (ap (answer close_of) k.shown ∙ ap Ok (close_done _ _ _ _ is c.if-found-eq0.true))

pub returns-then-found-eq0-clause-after : goal.returns-then-found-eq0-clause-after
returns-then-found-eq0-clause-after c =
    let k = found_live c.self.inside c.args.self.now c.args.group _ _ c.self.view_is c.deref.ensures.value c.in_ok-found.ensures in
    let is = c.self.invariant.are_groups.each c.args.group.0 c.in_ok-found.found k.at in
    groups_are _ _ _ _
    (changed c.self.inside c.args.self.now c.args.group c.in_ok-found.found _ _ closed_on c.self.inside.children.items c.self.inside.endings.items c.self.view_is k (λ j o. refl) (λ j o. refl)
    (closed_done _ _ _ _ is c.if-found-eq0.true))
    (ap (λ (v : GroupsView). v.reserved) c.self.view_is)

pub index_mut-requires-2 : goal.index_mut-requires-2
index_mut-requires-2 c =
    let k = found_live c.self.inside c.args.self.now c.args.group _ _ c.self.view_is c.deref.ensures.value c.in_ok-found.ensures in
    let within = k.within in omega (arith, within)

pub invariant_of-self-2 : goal.invariant_of-self-2
invariant_of-self-2 c =
    let k = found_live c.self.inside c.args.self.now c.args.group _ _ c.self.view_is c.deref.ensures.value c.in_ok-found.ensures in
    let i = c.self.invariant in
    let is = i.are_groups.each c.args.group.0 c.in_ok-found.found k.at in
    record {
      are_groups = are_groups_changed _ _ _ _ c.args.group.0 c.in_ok-found.found _ i.are_groups k.at
          (record { unfinished = is.unfinished; handed = is.handed; first = is.first; last = is.last; known = is.known; once = is.once }) refl;
      linked = i.linked;
      groups_room = i.groups_room;
      children_room = i.children_room;
      marks_room = i.marks_room;
      endings_room = i.endings_room;
      after_room = i.after_room;
    }

pub returns-clause-result : goal.returns-clause-result
returns-clause-result c =
    let k = found_live c.self.inside c.args.self.now c.args.group _ _ c.self.view_is c.deref.ensures.value c.in_ok-found.ensures in
    let is = c.self.invariant.are_groups.each c.args.group.0 c.in_ok-found.found k.at in
    sym (ap (answer close_of) k.shown ∙ ap Ok (close_wait _ _ _ _ is c.if-found-eq0.false))

pub returns-clause-after : goal.returns-clause-after
returns-clause-after c =
    let k = found_live c.self.inside c.args.self.now c.args.group _ _ c.self.view_is c.deref.ensures.value c.in_ok-found.ensures in
    let is = c.self.invariant.are_groups.each c.args.group.0 c.in_ok-found.found k.at in
    groups_are _ _ _ _
    (changed c.self.inside c.args.self.now c.args.group c.in_ok-found.found _ _ closed_on c.self.inside.children.items c.self.inside.endings.items c.self.view_is k (λ j o. refl) (λ j o. refl)
    (closed_wait _ _ _ _ is c.if-found-eq0.false))
    (ap (λ (v : GroupsView). v.reserved) c.self.view_is)
