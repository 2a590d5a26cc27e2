use Rattle.swift_explorer.proofs.Prelude.{rules, ◌∙◌, ended_text}
use Rattle.swift_explorer.proofs.Texts.{ended_same, last_piece}
use Rattle.swift_explorer.proofs.text.put_ended.Goals as goal

pub returns : goal.returns
returns c =
    let report = c.in_ok-report.report in
    let o = c.args.outcome.now in
    let said = c.in_ok-text.ensures ∙ ended_same c.args.script.now report.endings.items o.endings.items report.fields.items o.fields.items c.in_ok-report.ensures.endings c.in_ok-report.ensures.fields in
    last_piece c.extend_from_slice.result c.extend_from_slice.new.self.items c.args.out.now.items c.in_ok-text.text.items (ended_text c.args.script.now o) said (search rules)
