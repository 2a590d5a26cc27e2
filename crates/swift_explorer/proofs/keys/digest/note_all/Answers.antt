use Rattle.swift_explorer.proofs.Prelude.{ℕ, ◌^◌, ◌-◌, subst, arith, IsNotedAt}
use Rattle.swift_explorer.proofs.CardsNoted.{one_noted, open_at, open_fewer, two_noted}
use Rattle.swift_explorer.proofs.keys.digest.note_all.Goals as goal

pub note_at-requires : goal.note_at-requires
note_at-requires c = open_fewer (2 ^ 63 - 2) (2 ^ 63 - 1) c.args.cards.now.items (omega arith) c.requires

pub note_at-requires-2 : goal.note_at-requires-2
note_at-requires-2 c = open_at (2 ^ 63 - 2) c.task-first.result.0 c.args.event c.args.cards.now.items c.note_at.new.cards.items c.requires c.in_ok-note_at.ensures

pub returns-then-second-first : goal.returns-then-second-first
returns-then-second-first c =
    let e = c.args.event in
    let cs = c.args.cards.now.items in
    let ns = c.note_at.new.cards.items in
    one_noted e cs ns (subst (λ (u : ℕ). IsNotedAt u e cs ns) c.task-first.ensures c.in_ok-note_at.ensures) (omega (arith, c.other_of-second.ensures, c.task-first.ensures, c.if-second-first.true))

pub returns : goal.returns
returns c =
    let e = c.args.event in
    let cs = c.args.cards.now.items in
    let ms = c.note_at.new.cards.items in
    let ns = c.note_at-2.new.cards.items in
    two_noted e cs ms ns
    (subst (λ (u : ℕ). IsNotedAt u e cs ms) c.task-first.ensures c.in_ok-note_at.ensures)
    (subst (λ (u : ℕ). IsNotedAt u e ms ns) c.other_of-second.ensures c.in_ok-note_at-2.ensures)
    (λ is. omega (arith, c.other_of-second.ensures, c.task-first.ensures, c.if-second-first.false, is))
