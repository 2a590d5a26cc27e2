use Rattle.explorer_laws.proofs.Prelude.{◌≡◌, ℤ, true, List, IsTrue, map, sym, subst, is_some, list_all, rows_of, Origin, Ending, ScriptView, HasEachOutcome, NeverBreaks, report_view, Answer, is_so, status_of, verdict_of, IsAsked, all_mapped, answer_holds, answer_of, verdicts_at, verdicts_in}
use Rattle.explorer_laws.proofs.Meeting.{all_meet}
use Rattle.explorer_laws.proofs.OfRuns.{is_none, listed, one_script, unbroken}
use Rattle.explorer_laws.proofs.laws.each_run_meets.Goals as goal

pub returns : goal.returns
returns c = λ bytes text quiet well run limit words without_fault answer is zero.
    let p = run.script in
    let report = report_view run.report in
    let found = is.found in
    let asked = is.asked in
    let outcomes = found.outcomes.items in
    let same = one_script bytes is.script p is.of.accepted run.accepted in
    let held = answer_holds found.is_complete (is_some found.broken) (verdicts_in p asked outcomes)
    (subst (λ (s : ScriptView). status_of (answer_of s asked found) ≡ 0) same (subst (λ (a : Answer). status_of a ≡ 0) is.answered zero)) in
    let complete : IsTrue found.is_complete = held.complete in
    let there = listed bytes text quiet well run outcomes (subst (λ (s : ScriptView). HasEachOutcome s outcomes) same (is.of.is.all complete)) in
    let o = there.0 in
    let fields = map (λ rows. rows_of rows.items) o.fields.items in
    let so = all_mapped (verdicts_at p asked) (list_all is_so) outcomes o held.so there.1 in
    let at_end = subst (λ (fs : List (List (List ℤ))). list_all is_so (map (verdict_of p report.endings fs) asked) ≡ true) (sym there.2.1)
    (subst (λ (es : List (Origin × Ending)). list_all is_so (map (verdict_of p es fields) asked) ≡ true) (sym there.2.0) so) in (
      all_meet p bytes words without_fault asked report (subst (λ (s : ScriptView). IsAsked s bytes words without_fault asked) same is.is_asked) at_end,
      unbroken bytes text quiet well run (subst NeverBreaks same (is.of.is.unbroken complete (is_none found.broken held.unbroken))),
    )
