use Rattle.std.proofs.Common.{ℕ, List, ◌++◌}
use Rattle.run_page.specs.Escapes.{escaped}
use Rattle.explorer_page.specs.Pages.{back_text, front_text, more_json, said_json}
use Rattle.explorer_page.specs.declared.texts.frame.TheConstants.{MIDDLE}
use Rattle.run_page.proofs.Joined.{onto, onto_last}
use Rattle.explorer_page.proofs.page.parts.Goals as goal

pub returns : goal.returns
returns c =
    let h = c.args.heading in
    let p = c.args.script.now in
    let json = escaped (said_json c.args.of h.text.now p c.args.asked.now c.args.found.now) in
    let other = escaped (more_json p h c.args.runs.now) in
    let x0 = c.args.out.now.items in
    let x1 = c.front.new.out.items in
    let x2 = c.answer_part.new.out.items in
    let x3 = c.say_text.new.out.items in
    let x4 = c.more_part.new.out.items in
    let x5 = c.back.new.out.items in
    let two = onto x0 x1 x2 front_text json c.in_ok-front.ensures c.in_ok-answer_part.ensures in
    let three = onto x0 x2 x3 (front_text ++ json) MIDDLE.now two c.in_ok-say_text.ensures in
    let four = onto x0 x3 x4 (front_text ++ json ++ MIDDLE.now) other three c.in_ok-more_part.ensures in
    onto_last c.back.result x0 x4 x5 (front_text ++ json ++ MIDDLE.now ++ other) back_text four c.back.ensures
