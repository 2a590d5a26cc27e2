use Rattle.explorer_json.proofs.Prelude.{ℕ, List, ◌++◌, ap, ◌∙◌, codes, seven_joined, expectations_json, outcomes_json, start_json, swift_head_json}
use Rattle.explorer_answers.specs.SwiftAnswers.{swift_answer_of}
use Rattle.explorer_json.proofs.swift.put_answer.Goals as goal

pub returns : goal.returns
returns c =
    let p = c.args.script.now in
    let asked = c.args.asked.now in
    let f = c.args.found.now in
    let x0 = c.args.out.now.items in
    let x3 = c.say.new.out.items in
    let x5 = c.say-2.new.out.items in
    let text = c.args.text.now in
    seven_joined c.say-3.result x0 c.put_start.new.out.items c.put_head.new.out.items x3 c.put_expectations.new.out.items x5 c.put_outcomes.new.out.items c.say-3.new.out.items
    (start_json text (swift_answer_of p asked f)) (swift_head_json f) (codes "],\n\"expectations\":[") (expectations_json p f.outcomes.items 0 asked) (codes "],\n\"outcomes\":[") (outcomes_json p 0 f.outcomes.items) (codes "]}\n")
    (c.in_ok-put_start.ensures ∙ ap (λ a. x0 ++ start_json text a) c.in_ok-answer.ensures)
    c.in_ok-put_head.ensures c.in_ok-say.ensures
    (c.in_ok-put_expectations.ensures ∙ ap (λ (os : List _). x3 ++ expectations_json p os 0 asked) c.deref.ensures.value)
    c.in_ok-say-2.ensures
    (c.in_ok-put_outcomes.ensures ∙ ap (λ (os : List _). x5 ++ outcomes_json p 0 os) c.deref-2.ensures.value)
    c.say-3.ensures
