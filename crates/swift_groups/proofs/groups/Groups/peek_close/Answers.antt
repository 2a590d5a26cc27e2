use Rattle.swift_groups.proofs.Prelude.{◌≡◌, Ok, arith, sym, ap, ◌∙◌, close_of, answer}
use Rattle.swift_groups.proofs.Results.{close_done, close_wait}
use Rattle.swift_groups.proofs.Calls.{found_any, refused_any, err_from}
use Rattle.swift_groups.proofs.groups.Groups.peek_close.Goals as goal

pub returns-in_err-found : goal.returns-in_err-found
returns-in_err-found c =
    let refused = refused_any c.self.inside c.args.self.now c.args.group _ _ c.self.view_is c.deref.ensures.value c.in_err-found.ensures in
    err_from c.from_residual.result c.in_err-found.field-0.0 c.from_residual.ensures.1 ∙ sym (ap (answer close_of) refused)

pub returns-in-0 : goal.returns-in-0
returns-in-0 c =
    let k = found_any c.self.inside c.args.self.now c.args.group _ _ c.self.view_is c.deref.ensures.value c.in_ok-found.ensures in
    let is = c.self.invariant.are_groups.each c.args.group.0 c.in_ok-found.found k.at in
    sym (ap (answer close_of) k.shown ∙ ap Ok (close_done _ _ _ _ is c.in-0.is))

pub returns-in_default : goal.returns-in_default
returns-in_default c =
    let k = found_any c.self.inside c.args.self.now c.args.group _ _ c.self.view_is c.deref.ensures.value c.in_ok-found.ensures in
    let is = c.self.invariant.are_groups.each c.args.group.0 c.in_ok-found.found k.at in
    sym (ap (answer close_of) k.shown ∙ ap Ok (close_wait _ _ _ _ is (λ (z : c.in_ok-found.found.unfinished ≡ 0). omega arith)))
