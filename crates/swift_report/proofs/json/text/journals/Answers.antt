use Rattle.swift_report.proofs.Prelude.{◌≡◌, Bool, false, List, ◌++◌, sym, ap, ◌∙◌, rules, codes, RecordView, executors_json, journals_json}
use Rattle.swift_journal.specs.Checkpoints.{CheckpointRoomView}
use Rattle.swift_report.proofs.Pieces.{said, three_joined}
use Rattle.swift_report.proofs.json.text.journals.Goals as goal

pub returns : goal.returns
returns c =
    let p = c.args.script.now in
    let cs = c.args.report.now.checkpoints.items in
    let js = c.args.report.now.journals.items in
    let r = c.say-2.result in
    let x1 = c.say.new.out.items in
    let told : c.args.quiet ≡ false = search rules in
    said r c.args.out.now.items c.say-2.new.out.items
    ((codes "\"journals\":[" ++ executors_json p cs 0 js) ++ codes "],\n") (journals_json p c.args.quiet cs js) (ap (λ (quiet : Bool). journals_json p quiet cs js) (sym told))
    (three_joined r c.args.out.now.items x1 c.executors.new.out.items c.say-2.new.out.items
    (codes "\"journals\":[") (executors_json p cs 0 js) (codes "],\n")
    c.in_ok-say.ensures
    (c.in_ok-executors.ensures
    ∙ ap (λ (found : List CheckpointRoomView). x1 ++ executors_json p found 0 c.deref-2.result.now) c.deref.ensures.value
    ∙ ap (λ (found : List (List RecordView)). x1 ++ executors_json p cs 0 found) c.deref-2.ensures.value)
    c.say-2.ensures)
