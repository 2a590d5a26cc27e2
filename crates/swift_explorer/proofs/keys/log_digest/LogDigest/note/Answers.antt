use Rattle.swift_explorer.proofs.Prelude.{◌≤◌, ◌+◌, ◌-◌, ◌^◌, ℕ, ap, subst, ◌∙◌, arith, one_if}
use Rattle.swift_explorer.proofs.CardsNoted.{open_fewer}
use Rattle.swift_explorer.proofs.LogsRead.{asked_fewer, covered_open, read_more}
use Rattle.swift_explorer.proofs.keys.log_digest.LogDigest.note.Goals as goal

pub note_all-requires : goal.note_all-requires
note_all-requires c =
    let r = c.args.self.now in
    open_fewer r.events (2 ^ 63 - 2) c.cover-2.new.cards.items c.requires.few
    (covered_open r.events c.cover.new.cards.items c.cover-2.new.cards.items c.in_ok-cover-2.ensures.more (covered_open r.events r.cards.items c.cover.new.cards.items c.in_ok-cover.ensures.more c.requires.some.1.opened))

pub note_groups-requires : goal.note_groups-requires
note_groups-requires c =
    let r = c.args.self.now in
    let few = c.requires.few in
    asked_fewer r.events (2 ^ 63 - 1) c.cover_group.new.groups.items (omega (arith, few)) (c.in_ok-cover_group.ensures.asked r.events c.requires.some.1.asked)

pub counted-self-requires : goal.counted-self-requires
counted-self-requires c =
    let few = c.requires.few in
    let made = c.requires.some.1.few in
    omega (arith, few, made)

pub returns : goal.returns
returns c = λ log is.
    (let r = c.args.self.now in
    let e = c.args.event in
    let cs = c.cover.new.cards.items in
    let ds = c.cover-2.new.cards.items in
    let one = c.in_ok-cover.ensures in
    let two = c.in_ok-cover-2.ensures in
    let up = two.more.more in
    let low = is.tasks in
    let bound = is.bound in
    read_more log e r _ cs ds c.cover_group.new.groups.items one.more two.more
    (omega (arith, one.covered, up, c.task.ensures))
    (omega (arith, two.covered, c.other_of.ensures))
    c.in_ok-note_all.ensures
    c.in_ok-cover_group.ensures.groups
    c.in_ok-cover_group.ensures.asked
    c.in_ok-cover_group.ensures.named
    c.in_ok-note_groups.ensures
    (c.counted-self.ensures ∙ ap (λ b. r.made + one_if b) c.makes_task.ensures)
    c.larger-self.ensures.left
    (subst (λ (n : ℕ). n ≤ c.larger-self.result) c.group_end.ensures.end c.larger-self.ensures.right)
    (omega arith)
    (two.few (one.few low))
    (c.larger-self.ensures.least (2 ^ 32) bound c.group_end.ensures.fits)
    is)
