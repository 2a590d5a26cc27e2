use Rattle.run_pictures.specs.SaysInside.{box_top}
use Rattle.run_pictures.proofs.Drawing.{is_box}
use Rattle.run_pictures.proofs.picture.card.write_card.Goals as goal

pub returns : goal.returns
returns c = λ es names.
    is_box c.args.view.script.now es (box_top c.args.view.layout.now) c.args.turn.now c.args.placed.now.is_undone c.args.slot c.left_of.result c.box_top.result c.saturating_sub-width.result
    c.bytes-more.result.now c.bytes.result.now c.args.out.now c.write_parts.new.out c.left_of.ensures c.box_top.ensures (c.write_parts.ensures es names)
