use Rattle.std.proofs.Common.{ℕ, List, ◌++◌, ap, subst, take, ◌∙◌}
use Rattle.std.specs.Arc.{arc_value}
use Rattle.swift_report.specs.declared.report.Report.{Report}
use Rattle.swift_script.specs.Scripts.{ScriptView}
use Rattle.swift_explorer.specs.declared.outcome.RunOutcome.{RunOutcome}
use Rattle.explorer_page.specs.Pages.{more_json, page_bytes, said_json}
use Rattle.explorer_page.specs.Runs.{AreRuns}
use Rattle.explorer_page.specs.declared.runs.TheConstants.{SHOWN}
use Rattle.run_page.proofs.Plain.{plain}
use Rattle.explorer_page.proofs.page.page_text.Goals as goal

pub returns : goal.returns
returns c =
    let h = c.args.heading in
    let of = c.args.of in
    let p = arc_value c.args.script.now in
    let asked = c.args.asked.now in
    let f = c.args.found.now in
    let runs = c.in_ok-runs.runs.items in
    record {
      runs = runs;
      are = subst (λ (os : List RunOutcome). AreRuns p os runs) (c.shown.ensures ∙ ap (take SHOWN) c.deref.ensures.value) c.in_ok-runs.ensures;
      is =
          c.in_ok-parts.ensures
          ∙ ap (λ (xs : List ℕ). xs ++ page_bytes h of c.deref-2.result.now asked f c.deref-3.result.now) c.new-out.ensures.items
          ∙ ap (λ (q : ScriptView). page_bytes h of q asked f c.deref-3.result.now) c.deref-2.ensures
          ∙ ap (λ (rs : List Report). page_bytes h of p asked f rs) c.deref-3.ensures.value;
      plain_answer = plain (said_json of h.text.now p asked f);
      plain_more = plain (more_json p h runs);
    }
