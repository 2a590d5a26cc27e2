use Rattle.run_pictures.specs.Drawn.{AreDrawn}
use Rattle.run_pictures.specs.SaysInside.{sheet_of}
use Rattle.run_pictures.proofs.Drawing.{said_from_nothing}
use Rattle.run_pictures.proofs.picture.svg.boxes_text.Goals as goal

pub returns : goal.returns
returns c = λ es names.
    let view = c.args.view in
    said_from_nothing (AreDrawn (sheet_of view.script.now es view.layout.now) view.picture.now.boxes.items view.picture.now.placed.items) c.new-out.result c.write_boxes.new.out c.in_ok-text.text.items
    c.new-out.ensures c.in_ok-text.ensures.whole c.in_ok-text.ensures.bytes (c.write_boxes.ensures es names)
