use Rattle.swift_report.proofs.Prelude.{ℕ, ◌++◌, ap, ◌∙◌, codes, decimal, flag_json}
use Rattle.swift_types.specs.Priority.{rank}
use Rattle.swift_report.proofs.Pieces.{labelled_after, said}
use Rattle.swift_report.proofs.json.turns.env.Goals as goal

pub returns : goal.returns
returns c =
    let x0 = c.args.out.now.items in
    let x1 = c.labelled.new.out.items in
    let flag = flag_json c.args.env.now.cancelled in
    labelled_after c.say.result x0 x1 c.say.new.out.items (codes ",\"priority\":" ++ decimal (rank c.args.env.now.priority)) (codes ",\"cancelled\":") flag
    (c.in_ok-labelled.ensures ∙ ap (λ (n : ℕ). x0 ++ (codes ",\"priority\":" ++ decimal n)) c.number.ensures)
    (said c.say.result x1 c.say.new.out.items c.cancelled.result.now (codes ",\"cancelled\":" ++ flag) c.cancelled.ensures c.say.ensures)
