use Rattle.swift_explorer.proofs.Prelude.{◌++◌, ap, ◌∙◌, get_or, slice_get-get_or, NamedGroup}
use Rattle.swift_explorer.proofs.LogsRead.{group_here}
use Rattle.swift_explorer.proofs.keys.log_digest.put_group_at.Goals as goal

pub returns : goal.returns
returns c = λ d are.
    (let gs = c.args.groups.now in
    let i = c.in-Some.place in
    let v : NamedGroup = get_or gs i c.index-groups-place.result in
    let at = slice_get-get_or gs i c.index-groups-place.result c.in-Some.ensures.within in
    c.in_ok-put_group-2.ensures ∙ ap (λ l. c.args.key.now.items ++ l) (group_here gs d c.args.owner.0 c.args.group i v are c.in-Some.ensures.some at))
