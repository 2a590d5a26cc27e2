use Rattle.swift_groups.proofs.Prelude.{rules, sym, ◌∙◌, arith}
use Rattle.swift_groups.proofs.Links.{place_within, linked_first, linked_later}
use Rattle.swift_groups.proofs.queue.enqueue.Goals as goal

pub index_mut-requires : goal.index_mut-requires
index_mut-requires c =
    let within = place_within c.args.endings.now.items c.args.ended.group _ c.in-Some.before (sym c.requires.last ∙ c.in-Some.is) in
    let same = c.requires.linked.same in
    let len = c.in-Ok-push.ensures.len in
    omega (arith, within, same, len)

pub returns-in-Some-clause-linked : goal.returns-in-Some-clause-linked
returns-in-Some-clause-linked c =
    linked_later c.args.endings.now.items _ c.args.ended c.args.after.now.items _ c.in-Some.before c.len-place.result
    c.in-Ok.ensures.items c.in-Ok-push.ensures.items (search rules) c.requires.linked (sym c.requires.last ∙ c.in-Some.is)

pub returns-in_default-last-clause-linked : goal.returns-in_default-last-clause-linked
returns-in_default-last-clause-linked c =
    linked_first c.args.endings.now.items _ c.args.ended c.args.after.now.items _
    c.in-Ok.ensures.items c.in-Ok-push.ensures.items c.requires.linked (sym c.requires.last ∙ c.in_default-last.is)
