use Rattle.run_page.proofs.Prelude.{codes, IsToldOfRun, all_explained_json, heading_json, run_json}
use Rattle.run_page.proofs.Joined.{between, onto}
use Rattle.run_page.proofs.more.more.Goals as goal

pub returns : goal.returns
returns c =
    let before = onto _ _ _ (heading_json c.args.head) (run_json c.args.script.now c.args.report.now) c.in_ok-put_heading.ensures c.in_ok-run.ensures in
    between c.say.result (IsToldOfRun c.args.script.now c.args.report.now) all_explained_json _ _ _ _ _ (codes "]}\n") before c.in_ok-explanations.ensures c.say.ensures
