use Rattle.script_printing.proofs.Prelude.{take_rest}
use Rattle.script_printing.proofs.Written.{after_no_list, after_list}
use Rattle.script_printing.proofs.list.write_list.Goals as goal

pub returns-in-empty : goal.returns-in-empty
returns-in-empty g c =
    after_no_list g.T.Write.pieces g.T.Write.view c.args.items.now c.in-empty.len_below c.args.out.now.items

pub returns-in_ok-write_more-in-len1-up : goal.returns-in_ok-write_more-in-len1-up
returns-in_ok-write_more-in-len1-up g c =
    after_list g.T.Write.pieces g.T.Write.view c.args.items.now c.first-item.result c.in-len1-up.len_at_least c.first-item.is c.args.out.now.items c.write.new.out.items _ c.in_ok-write-in-len1-up.ensures (rw take_rest at c.in_ok-write_more-in-len1-up.ensures)
