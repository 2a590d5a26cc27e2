use Rattle.std.proofs.Common.{◌≡◌, true, sym, ◌∙◌, rules}
use Rattle.std.specs.Prelude.{nat_lt}
use Rattle.run_pictures.proofs.Drawing.{fold_said, says_then}
use Rattle.run_pictures.proofs.picture.folds.write_fold.Goals as goal

pub returns : goal.returns
returns c =
    let is : nat_lt 1 c.args.cell.now.turns ≡ true = search rules in
    fold_said c.args.cell.now c.bytes.result.now c.args.out.now c.say.new.self is (says_then c.begin_fold.ensures c.say.ensures)
