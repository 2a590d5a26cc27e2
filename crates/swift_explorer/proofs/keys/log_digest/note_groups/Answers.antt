use Rattle.swift_explorer.proofs.Prelude.{◌<◌, ◌≤◌, ◌-◌, ◌^◌, length, length-set, refl, sym, ◌∙◌, arith, slice_get_read}
use Rattle.swift_explorer.proofs.LogsRead.{noted_all, noted_done, noted_none, noted_rest}
use Rattle.swift_explorer.proofs.keys.log_digest.note_groups.Goals as goal

pub loop-place-init : goal.loop-place-init
loop-place-init c = record { count = refl; done = noted_none c.args.event c.args.groups.now.items; rest = λ i le. refl }

pub note-requires : goal.note-requires
note-requires c =
    let gs = c.loop-place.groups.items in
    let i = c.loop-place.place in
    let v = c.index_mut.result.now in
    let lt : i < length gs = omega (arith, c.loop-place-test.true, c.len-place-end.ensures, c.loop-place.invariant.count) in
    let few : v.card.asked ≤ 2 ^ 63 - 1 = c.requires i v (sym (c.loop-place.invariant.rest i (omega arith)) ∙ slice_get_read gs (length gs) i v refl lt c.index_mut.ensures.value) in
    omega (arith, few)

pub loop-place-preserved : goal.loop-place-preserved
loop-place-preserved c =
    let xs = c.args.groups.now.items in
    let gs = c.loop-place.groups.items in
    let i = c.loop-place.place in
    let v = c.index_mut.result.now in
    let w = c.note.new.self in
    let was = c.loop-place.invariant in
    let lt : i < length gs = omega (arith, c.loop-place-test.true, c.len-place-end.ensures, was.count) in
    record {
      count = length-set gs i w ∙ was.count;
      done = noted_done c.args.event xs gs i v w lt (slice_get_read gs (length gs) i v refl lt c.index_mut.ensures.value) c.in_ok-note.ensures was.done was.rest;
      rest = noted_rest xs gs i w was.rest;
    }

pub returns : goal.returns
returns c =
    let was = c.loop-place.invariant in
    let count = was.count in
    noted_all c.args.event c.args.groups.now.items c.loop-place.groups.items c.loop-place.place (omega (arith, c.loop-place-test.false, c.len-place-end.ensures, count)) count was.done
