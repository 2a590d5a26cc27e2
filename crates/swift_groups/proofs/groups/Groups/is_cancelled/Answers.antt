use Rattle.swift_groups.proofs.Prelude.{sym, ap, ◌∙◌, GroupView, answer}
use Rattle.swift_groups.proofs.Calls.{found_live, refused_live, err_from}
use Rattle.swift_groups.proofs.groups.Groups.is_cancelled.Goals as goal

pub returns-in_err-found : goal.returns-in_err-found
returns-in_err-found c =
    let refused = refused_live c.self.inside c.args.self.now c.args.group _ _ c.self.view_is c.deref.ensures.value c.in_err-found.ensures in
    err_from c.from_residual.result c.in_err-found.field-0.0 c.from_residual.ensures.1 ∙ sym (ap (answer (λ (g : GroupView). g.cancelled)) refused)

pub returns : goal.returns
returns c =
    let k = found_live c.self.inside c.args.self.now c.args.group _ _ c.self.view_is c.deref.ensures.value c.in_ok-found.ensures in
    sym (ap (answer (λ (g : GroupView). g.cancelled)) k.shown)
