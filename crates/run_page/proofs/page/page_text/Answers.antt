use Rattle.run_page.proofs.Prelude.{ℕ, List, ◌++◌, ap, ◌∙◌, false, report_json, page_bytes, more_json}
use Rattle.run_page.proofs.Plain.{plain}
use Rattle.run_page.proofs.page.page_text.Goals as goal

pub returns : goal.returns
returns c =
    let p = c.args.script.now in
    let r = c.args.report.now in
    let h = c.args.heading in
    let said = c.in_ok-parts.ensures in
    record {
      told = said.0;
      explained = said.1;
      is = said.2 ∙ ap (λ (xs : List ℕ). xs ++ page_bytes p r h said.0) c.new-out.ensures.items;
      plain_report = plain (report_json p r false);
      plain_more = plain (more_json p r h said.0);
    }
