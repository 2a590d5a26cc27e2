use Rattle.explorer_laws.proofs.Prelude.{◌≡◌, ℤ, true, false, List, [], IsTrue, map, sym, ap, subst, ◌∙◌, is_some, list_all, rows_of, Origin, Ending, ScriptView, HasEachOutcome, NeverBreaks, report_view, Answer, Verdict, is_so, status_of, verdict_of, IsAsked, all_mapped, answer_holds, verdicts_at, at_limit, ends_process, is_outcome}
use Rattle.explorer_answers.specs.SwiftAnswers.{goes_on, swift_answer_of, swift_verdicts_at, swift_verdicts_in}
use Rattle.explorer_laws.proofs.Meeting.{all_meet}
use Rattle.explorer_laws.proofs.OfRuns.{is_none, listed, one_script, unbroken}
use Rattle.explorer_laws.proofs.SwiftEnds.{all_at, neither, no_end, outcome_is, taken}
use Rattle.explorer_laws.proofs.laws.each_swift_run_meets.Goals as goal

pub returns : goal.returns
returns c = λ bytes text quiet well run limit words without_fault answer is zero.
    let p = run.script in
    let report = report_view run.report in
    let found = is.found in
    let asked = is.asked in
    let outcomes = found.outcomes.items in
    let same = one_script bytes is.script p is.of.accepted run.accepted in
    let held = answer_holds found.is_complete _ (swift_verdicts_in p asked outcomes)
    (subst (λ (s : ScriptView). status_of (swift_answer_of s asked found) ≡ 0) same (subst (λ (a : Answer). status_of a ≡ 0) is.answered zero)) in
    let complete : IsTrue found.is_complete = held.complete in
    let none = neither (is_some found.broken) (list_all goes_on outcomes) held.unbroken in
    let there = listed bytes text quiet well run outcomes (subst (λ (s : ScriptView). HasEachOutcome s outcomes) same (is.of.is.all complete)) in
    let o = there.0 in
    let ended = o.endings.items in
    let fields = map (λ rows. rows_of rows.items) o.fields.items in
    let ends = no_end (ends_process ended) (at_limit ended) (all_at goes_on outcomes o none.1 there.1) in
    let so = all_mapped (swift_verdicts_at p asked) (list_all is_so) outcomes o held.so there.1 in (
      ap ends_process there.2.0 ∙ ends,
      unbroken bytes text quiet well run (subst NeverBreaks same (is.of.is.unbroken complete (is_none found.broken none.0))),
      λ limits.
          let is_one = outcome_is (ends_process ended) (at_limit ended) ends (ap at_limit (sym there.2.0) ∙ limits) in
          let row = subst (λ (vs : List Verdict). list_all is_so vs ≡ true) (taken (is_outcome o) (verdicts_at p asked o) [] is_one) so in
          let at_end = subst (λ (fs : List (List (List ℤ))). list_all is_so (map (verdict_of p report.endings fs) asked) ≡ true) (sym there.2.1)
          (subst (λ (es : List (Origin × Ending)). list_all is_so (map (verdict_of p es fields) asked) ≡ true) (sym there.2.0) row) in
          all_meet p bytes words without_fault asked report (subst (λ (s : ScriptView). IsAsked s bytes words without_fault asked) same is.is_asked) at_end,
    )
