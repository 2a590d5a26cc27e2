use Rattle.std.proofs.Common.{◌<◌, ◌≤◌, ◌++◌, length, arith}
use Rattle.run_pictures.proofs.Drawing.{folds_all, folds_more, says_then}
use Rattle.run_pictures.proofs.picture.folds.write_all.Goals as goal

pub loop-slot-preserved : goal.loop-slot-preserved
loop-slot-preserved c =
    let cells = c.args.layout.now.cells in
    let i = c.loop-slot.slot in
    let before = c.loop-slot.invariant in
    let fold = c.write_fold.ensures in
    let within : i < length cells.items = omega (arith, c.loop-slot-test.true, c.len-slot-end.ensures, cells.ok.0) in
    (before.0 ++ fold.words, says_then before.1 fold.says, folds_more cells.items i c.index.result.now before.0 fold.words within c.index.ensures fold.holds before.2)

pub returns : goal.returns
returns c =
    let cells = c.args.layout.now.cells in
    let i = c.loop-slot.slot in
    let before = c.loop-slot.invariant in
    let past : length cells.items ≤ i = omega (arith, c.loop-slot-test.false, c.len-slot-end.ensures, cells.ok.0) in
    record { words = before.0; says = before.1; holds = folds_all cells.items i before.0 past before.2 }
