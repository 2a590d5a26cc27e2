use Rattle.std.proofs.Common.{◌++◌}
use Rattle.explorer_page.specs.declared.texts.found.TheConstants.{FOUND}
use Rattle.explorer_page.specs.declared.texts.orders.TheConstants.{ORDERS}
use Rattle.explorer_page.specs.declared.texts.reader.TheConstants.{READER}
use Rattle.explorer_page.specs.declared.texts.table.TheConstants.{TABLE}
use Rattle.explorer_page.specs.declared.texts.turns.TheConstants.{TURNS}
use Rattle.run_page.proofs.Joined.{onto, onto_last}
use Rattle.explorer_page.proofs.texts.script.Goals as goal

pub returns : goal.returns
returns c =
    let x0 = c.args.out.now.items in
    let x1 = c.say_text.new.out.items in
    let x2 = c.say_text-2.new.out.items in
    let x3 = c.say_text-3.new.out.items in
    let x4 = c.say_text-4.new.out.items in
    let x5 = c.say_text-5.new.out.items in
    let two = onto x0 x1 x2 FOUND.now TABLE.now c.in_ok-say_text.ensures c.in_ok-say_text-2.ensures in
    let three = onto x0 x2 x3 (FOUND.now ++ TABLE.now) ORDERS.now two c.in_ok-say_text-3.ensures in
    let four = onto x0 x3 x4 (FOUND.now ++ TABLE.now ++ ORDERS.now) TURNS.now three c.in_ok-say_text-4.ensures in
    onto_last c.say_text-5.result x0 x4 x5 (FOUND.now ++ TABLE.now ++ ORDERS.now ++ TURNS.now) READER.now four c.say_text-5.ensures
