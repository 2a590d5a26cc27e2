use Rattle.swift_groups.proofs.Prelude.{Result, sym, ap, ◌∙◌, GroupFault, GroupView, if_new, accepted}
use Rattle.swift_groups.proofs.Children.{mark_none, mark_some}
use Rattle.swift_groups.proofs.Calls.{found_open, refused_open, err_from, without, not_without}
use Rattle.swift_groups.proofs.groups.Groups.check_new.Goals as goal

pub returns-in_err-open_group : goal.returns-in_err-open_group
returns-in_err-open_group c =
    let refused = refused_open c.self.inside c.args.self.now c.args.group _ _ c.self.view_is c.deref.ensures.value c.in_err-open_group.ensures in
    err_from c.from_residual.result c.in_err-open_group.field-0.0 c.from_residual.ensures.1 ∙ sym (ap (λ (r : Result GroupView GroupFault). accepted (if_new c.args.child r)) refused)

pub returns-in-None : goal.returns-in-None
returns-in-None c =
    let k = found_open c.self.inside c.args.self.now c.args.group _ _ c.self.view_is c.deref.ensures.value c.in_ok-open_group.ensures in
    let new = mark_none _ _ c.args.child (sym (c.self.invariant.are_groups.marks c.args.group.0 c.args.child) ∙ sym c.in-None.ensures) in
    sym (ap accepted (without c.args.child _ _ k.shown new.1))

pub returns-in-Some : goal.returns-in-Some
returns-in-Some c =
    let k = found_open c.self.inside c.args.self.now c.args.group _ _ c.self.view_is c.deref.ensures.value c.in_ok-open_group.ensures in
    let is = c.self.invariant.are_groups.each c.args.group.0 c.in_ok-open_group.field-0 k.at in
    let old = mark_some _ _ c.args.child c.in-Some.field-0 is.known (sym (c.self.invariant.are_groups.marks c.args.group.0 c.args.child) ∙ sym c.in-Some.ensures) in
    sym (ap accepted (not_without c.args.child _ _ k.shown old))
