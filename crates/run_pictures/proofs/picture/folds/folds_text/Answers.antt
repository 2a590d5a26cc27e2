use Rattle.run_pictures.specs.Drawn.{AreFolds}
use Rattle.run_pictures.proofs.Drawing.{said_from_nothing}
use Rattle.run_pictures.proofs.picture.folds.folds_text.Goals as goal

pub returns : goal.returns
returns c =
    said_from_nothing (AreFolds c.args.layout.now.cells.items) c.new-out.result c.write_all.new.out c.in_ok-text.text.items c.new-out.ensures c.in_ok-text.ensures.whole c.in_ok-text.ensures.bytes c.write_all.ensures
