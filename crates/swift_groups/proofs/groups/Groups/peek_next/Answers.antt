use Rattle.swift_groups.proofs.Prelude.{Ok, arith, sym, ap, ◌∙◌, next_of, answer}
use Rattle.swift_groups.proofs.Results.{next_empty, next_wait, first_within, next_result}
use Rattle.swift_groups.proofs.Calls.{found_open, refused_open, err_from}
use Rattle.swift_groups.proofs.groups.Groups.peek_next.Goals as goal

pub returns-in_err-found : goal.returns-in_err-found
returns-in_err-found c =
    let refused = refused_open c.self.inside c.args.self.now c.args.group _ _ c.self.view_is c.deref.ensures.value c.in_err-found.ensures in
    err_from c.from_residual.result c.in_err-found.field-0.0 c.from_residual.ensures.1 ∙ sym (ap (answer next_of) refused)

pub returns-in-None : goal.returns-in-None
returns-in-None c =
    let k = found_open c.self.inside c.args.self.now c.args.group _ _ c.self.view_is c.deref.ensures.value c.in_ok-found.ensures in
    let is = c.self.invariant.are_groups.each c.args.group.0 c.in_ok-found.found k.at in
    sym (ap (answer next_of) k.shown ∙ ap Ok (next_empty _ _ c.self.inside.endings.items c.args.group.0 is c.in-None.is c.if-found-eq0.true))

pub returns-in-None-2 : goal.returns-in-None-2
returns-in-None-2 c =
    let k = found_open c.self.inside c.args.self.now c.args.group _ _ c.self.view_is c.deref.ensures.value c.in_ok-found.ensures in
    let is = c.self.invariant.are_groups.each c.args.group.0 c.in_ok-found.found k.at in
    sym (ap (answer next_of) k.shown ∙ ap Ok (next_wait _ _ c.self.inside.endings.items c.args.group.0 is c.in-None-2.is c.if-found-eq0.false))

pub index-requires : goal.index-requires
index-requires c =
    let k = found_open c.self.inside c.args.self.now c.args.group _ _ c.self.view_is c.deref.ensures.value c.in_ok-found.ensures in
    let is = c.self.invariant.are_groups.each c.args.group.0 c.in_ok-found.found k.at in
    let within = first_within _ _ c.self.inside.endings.items c.args.group.0 c.in-Some.first is c.in-Some.is in
    omega (arith, within)

pub returns-in-Some : goal.returns-in-Some
returns-in-Some c =
    let k = found_open c.self.inside c.args.self.now c.args.group _ _ c.self.view_is c.deref.ensures.value c.in_ok-found.ensures in
    let is = c.self.invariant.are_groups.each c.args.group.0 c.in_ok-found.found k.at in
    sym (ap (answer next_of) k.shown ∙ ap Ok (next_result _ _ c.self.inside.endings.items c.args.group.0 c.in-Some.first c.index.result.now is c.in-Some.is c.index.ensures))
