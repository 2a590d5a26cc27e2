use Rattle.run_page.proofs.Prelude.{ℕ, List, ◌++◌, false, report_json, escaped, back_text, front_text, ExplainedTurn, IsToldOfRun, more_json, MIDDLE}
use Rattle.run_page.proofs.Joined.{between, onto}
use Rattle.run_page.proofs.page.parts.Goals as goal

pub returns : goal.returns
returns c =
    let r = c.args.report.now in
    let json = escaped (report_json c.args.script.now r false) in
    let x0 = c.args.out.now.items in
    let x2 = c.report_part.new.out.items in
    let x3 = c.say_text.new.out.items in
    let first = onto x0 c.front.new.out.items x2 front_text json c.in_ok-front.ensures c.in_ok-report_part.ensures in
    let before = onto x0 x2 x3 (front_text ++ json) MIDDLE.now first c.in_ok-say_text.ensures in
    let text : List ExplainedTurn → List ℕ = λ told. escaped (more_json c.args.script.now r c.args.heading told) in
    between c.back.result (IsToldOfRun c.args.script.now r) text x0 x3 c.more_part.new.out.items c.back.new.out.items (front_text ++ json ++ MIDDLE.now) back_text before c.in_ok-more_part.ensures c.back.ensures
