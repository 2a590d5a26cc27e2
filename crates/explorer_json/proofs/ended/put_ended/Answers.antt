use Rattle.explorer_json.proofs.Prelude.{◌∙◌, said, ended_json}
use Rattle.explorer_json.proofs.Texts.{ended_same}
use Rattle.explorer_json.proofs.ended.put_ended.Goals as goal

pub returns : goal.returns
returns c =
    let report = c.in_ok-report.report in
    let o = c.args.outcome.now in
    let same = c.in_ok-text.ensures ∙ ended_same c.args.script.now report.endings.items o.endings.items report.fields.items o.fields.items c.in_ok-report.ensures.endings c.in_ok-report.ensures.fields in
    said c.say.result c.args.out.now.items c.say.new.out.items c.deref.result.now (ended_json c.args.script.now o) (c.deref.ensures.value ∙ same) c.say.ensures
