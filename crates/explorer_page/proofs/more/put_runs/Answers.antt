use Rattle.std.proofs.Common.{ℕ, ◌+◌, ◌++◌, List, drop, sym, ap, ◌∙◌, append_assoc}
use Rattle.std.proofs.lemmas.List.{at_drop_more}
use Rattle.explorer_page.specs.Pages.{run_json, runs_json}
use Rattle.explorer_page.proofs.more.put_runs.Goals as goal

pub loop-place-preserved : goal.loop-place-preserved
loop-place-preserved c =
    let p = c.args.script.now in
    let runs = c.args.runs.now in
    let k = c.loop-place.place in
    let old = c.loop-place.out.items in
    let r = c.index-runs-place.result in
    let rest = runs_json p (k + 1) (drop (k + 1) runs) in
    ap (λ (xs : List ℕ). xs ++ rest) c.in_ok-put_run.ensures
    ∙ append_assoc old (run_json p k r) rest
    ∙ ap (λ other. old ++ (run_json p k other ++ rest)) c.index-runs-place.is
    ∙ sym (at_drop_more (λ rs. old ++ runs_json p k rs) runs k r c.loop-place-test.true)
    ∙ c.loop-place.invariant
