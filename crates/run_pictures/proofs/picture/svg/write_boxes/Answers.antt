use Rattle.std.proofs.Common.{◌<◌, ◌≤◌, ◌++◌, length, min, arith}
use Rattle.run_pictures.specs.SaysInside.{sheet_of}
use Rattle.run_pictures.proofs.Drawing.{drawn_all, drawn_more, past_either, says_then}
use Rattle.run_pictures.proofs.picture.svg.write_boxes.Goals as goal

pub loop-place-preserved : goal.loop-place-preserved
loop-place-preserved c = λ es names.
    let picture = c.args.view.picture.now in
    let sheet = sheet_of c.args.view.script.now es c.args.view.layout.now in
    let i = c.loop-place.place in
    let before = c.loop-place.invariant es names in
    let one = c.write_box.ensures es names in
    let lt : i < length picture.boxes.items = omega (arith, c.loop-place-test.true, c.min-place-end.ensures, c.len.ensures, c.len-2.ensures, picture.boxes.ok.0, picture.placed.ok.0) in
    let below : i < length picture.placed.items = omega (arith, c.loop-place-test.true, c.min-place-end.ensures, c.len.ensures, c.len-2.ensures, picture.boxes.ok.0, picture.placed.ok.0) in (
      before.0 ++ one.words,
      says_then before.1 one.says,
      drawn_more sheet picture.boxes.items picture.placed.items i c.index-in-loop-place.result.now c.index-in-loop-place-2.result.now before.0 one.words lt below c.index-in-loop-place.ensures c.index-in-loop-place-2.ensures one.holds before.2,
    )

pub returns : goal.returns
returns c = λ es names.
    let picture = c.args.view.picture.now in
    let sheet = sheet_of c.args.view.script.now es c.args.view.layout.now in
    let i = c.loop-place.place in
    let before = c.loop-place.invariant es names in
    let past : min (length picture.boxes.items) (length picture.placed.items) ≤ i = omega (arith, c.loop-place-test.false, c.min-place-end.ensures, c.len.ensures, c.len-2.ensures, picture.boxes.ok.0, picture.placed.ok.0) in
    record { words = before.0; says = before.1; holds = drawn_all sheet picture.boxes.items picture.placed.items i before.0 (past_either _ _ i past) before.2 }
