use Rattle.explorer_answers.proofs.Prelude.{◌+◌, codes, decimal}
use Rattle.explorer_answers.proofs.Pieces.{three_pieces}
use Rattle.explorer_answers.proofs.text.put_place.Goals as goal

pub returns : goal.returns
returns c =
    three_pieces c.extend_from_slice-2.result c.args.out.now.items c.extend_from_slice.new.self.items c.put_number.new.out.items c.extend_from_slice-2.new.self.items
    (codes "fails in outcome ") (decimal (c.args.place + 1)) (codes ": ")
    c.in_ok-extend_from_slice.ensures.items c.in_ok-put_number.ensures c.extend_from_slice-2.ensures.items
