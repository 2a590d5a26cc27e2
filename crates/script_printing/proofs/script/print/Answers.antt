use Rattle.script_printing.proofs.Prelude.{map, view_executor, view_local, view_actor, view_root, ScriptView}
use Rattle.script_printing.proofs.Written.{script_written}
use Rattle.script_printing.proofs.script.print.Goals as goal

pub returns : goal.returns
returns c =
    let s : ScriptView = record { executors = map view_executor c.args.executors.now; locals = map view_local c.args.locals.now; actors = map view_actor c.args.actors.now; roots = map view_root c.args.roots.now } in
    script_written s c.new-out.result.items c.write_lines.new.out.items c.write_lines-2.new.out.items c.write_lines-3.new.out.items c.write_lines-4.new.out.items c.new-out.ensures.items c.in_ok-write_lines.ensures c.in_ok-write_lines-2.ensures c.in_ok-write_lines-3.ensures c.in_ok-write_lines-4.ensures
