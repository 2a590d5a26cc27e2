use Rattle.swift_report.proofs.Prelude.{◌≡◌, ℕ, ◌+◌, ◌++◌, length, ap, sym, refl, ◌∙◌, append_assoc, codes, decimal, heading_json, turns_json}
use Rattle.swift_report.proofs.Pieces.{six_joined}
use Rattle.swift_report.proofs.json.turns.executor.Goals as goal

pub returns : goal.returns
returns c =
    let p = c.args.script.now in
    let j = c.args.journal.now in
    let all : c.args.folded + c.len.result ≡ c.args.folded + length j = ap (λ n. c.args.folded + n) c.len.ensures.len in
    let x1 = c.heading.new.out.items in
    six_joined c.say-2.result
    c.args.out.now.items x1 (x1 ++ codes ",\"folded\":") c.labelled.new.out.items c.say.new.out.items c.turns.new.out.items c.say-2.new.out.items
    (heading_json p c.args.place (c.args.folded + length j)) (codes ",\"folded\":") (decimal c.args.folded) (codes ",\"records\":[") (turns_json p c.args.folded c.args.folded j) (codes "]}")
    (c.in_ok-heading.ensures ∙ ap (λ (n : ℕ). c.args.out.now.items ++ heading_json p c.args.place n) all)
    refl
    (c.in_ok-labelled.ensures ∙ sym (append_assoc x1 (codes ",\"folded\":") (decimal c.args.folded)))
    c.in_ok-say.ensures c.in_ok-turns.ensures c.say-2.ensures
