use Rattle.swift_certificate.proofs.Prelude.{rules, ◌≡◌, ◌<◌, ℕ, ℤ, List, Vec, length, map, refl, subst, arc_value, Global, rows_of, ScriptView, root_count, rows_at, ExecutorProgress, report_view, AreEndedAt}
use Rattle.swift_certificate.proofs.Ended.{legal_is}
use Rattle.swift_certificate.proofs.Steps.{map_ok}
use Rattle.swift_certificate.proofs.replay.Replay.agrees.Goals as goal

pub returns : goal.returns
returns c =
    let x = c.args.self.now in
    let report = report_view c.args.report.now in
    let roots : x.history.roots ≡ root_count (arc_value x.history.script) = search rules in
    let script = c.deref-2.ensures in
    let many : length (report_view c.args.report.now).endings ≡ c.len.result = search rules in
    map_ok c.are_ended.result _ _ (λ yes ended is. legal_is (report_view c.args.report.now) x c.requires (search rules) roots (search rules) (search rules) (λ t g lt below. c.if-not-have_closed.ensures refl t g (subst (λ (n : ℕ). t < n) many lt) below)
    (subst (λ (p : ScriptView). AreEndedAt p x.rows.items (rows_at x.history) report) script
    (subst (λ (rows : List ExecutorProgress). AreEndedAt c.deref-2.result.now rows (rows_at x.history) report) c.deref-3.ensures.value
    (subst (λ (fs : List (Vec (Vec ℤ Global) Global)). AreEndedAt c.deref-2.result.now c.deref-3.result.now (map (λ (rows : Vec (Vec ℤ Global) Global). rows_of rows.items) fs) report) c.deref-4.ensures.value
    (ended is))))) c.are_ended.ensures
