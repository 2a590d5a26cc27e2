use Rattle.run_page.proofs.Prelude.{◌++◌}
use Rattle.run_page.specs.declared.texts.chosen.TheConstants.{CHOSEN}
use Rattle.run_page.specs.declared.texts.lanes.TheConstants.{LANES}
use Rattle.run_page.specs.declared.texts.method.TheConstants.{METHOD}
use Rattle.run_page.specs.declared.texts.reader.TheConstants.{READER}
use Rattle.run_page.specs.declared.texts.run.TheConstants.{RUN}
use Rattle.run_page.specs.declared.texts.words.TheConstants.{WORDS}
use Rattle.run_page.proofs.Joined.{onto, onto_last}
use Rattle.run_page.proofs.texts.script.Goals as goal

pub returns : goal.returns
returns c =
    let x0 = c.args.out.now.items in
    let x1 = c.say_text.new.out.items in
    let x2 = c.say_text-2.new.out.items in
    let x3 = c.say_text-3.new.out.items in
    let x4 = c.say_text-4.new.out.items in
    let x5 = c.say_text-5.new.out.items in
    let x6 = c.say_text-6.new.out.items in
    let two = onto x0 x1 x2 RUN.now WORDS.now c.in_ok-say_text.ensures c.in_ok-say_text-2.ensures in
    let three = onto x0 x2 x3 (RUN.now ++ WORDS.now) METHOD.now two c.in_ok-say_text-3.ensures in
    let four = onto x0 x3 x4 (RUN.now ++ WORDS.now ++ METHOD.now) LANES.now three c.in_ok-say_text-4.ensures in
    let five = onto x0 x4 x5 (RUN.now ++ WORDS.now ++ METHOD.now ++ LANES.now) CHOSEN.now four c.in_ok-say_text-5.ensures in
    onto_last c.say_text-6.result x0 x5 x6 (RUN.now ++ WORDS.now ++ METHOD.now ++ LANES.now ++ CHOSEN.now) READER.now five c.say_text-6.ensures
