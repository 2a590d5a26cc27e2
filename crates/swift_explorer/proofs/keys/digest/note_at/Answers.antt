use Rattle.swift_explorer.proofs.Prelude.{◌<◌, ◌≤◌, length, refl, arith, ◌^◌, ◌-◌, slice_get_read}
use Rattle.swift_explorer.proofs.CardsNoted.{noted_none, noted_set}
use Rattle.swift_explorer.proofs.keys.digest.note_at.Goals as goal

pub returns-then-place-len : goal.returns-then-place-len
returns-then-place-len c = noted_none c.args.task.0 c.args.event c.args.cards.now.items (omega (arith, c.if-place-len.true, c.len.ensures))

pub note-requires : goal.note-requires
note-requires c =
    let cs = c.args.cards.now.items in
    let t = c.args.task.0 in
    let x = c.index_mut.result.now in
    let lt : t < length cs = omega (arith, c.if-place-len.false, c.len.ensures) in
    let few : x.opened ≤ 2 ^ 63 - 1 = c.requires t x (slice_get_read cs (length cs) t x refl lt c.index_mut.ensures.value) in
    omega (arith, few)

pub returns : goal.returns
returns c =
    let cs = c.args.cards.now.items in
    let t = c.args.task.0 in
    let x = c.index_mut.result.now in
    let e = c.in_ok-note.ensures in
    let lt : t < length cs = omega (arith, c.if-place-len.false, c.len.ensures) in
    noted_set t c.args.event cs x c.note.new.self lt (slice_get_read cs (length cs) t x refl lt c.index_mut.ensures.value)
    (record { life = e.life; links = e.links; own = e.own; waiters = e.waiters; named = e.named; opened = e.opened })
