use Rattle.script_compiler.proofs.Prelude.{on_ok_weaker, Has}
use Rattle.script_compiler.proofs.Spread.{reaching}
use Rattle.script_compiler.proofs.waits.marks.Marks.reach.Goals as goal

pub returns : goal.returns
returns c =
    on_ok_weaker c.spread.result
    (reaching c.args.callers.now (Has c.args.lists.now c.args.list) c.args.self.now c.mark_list.new.self c.spread.new.self c.in_ok-mark_list.ensures c.requires.closed)
    c.spread.ensures
