use Rattle.swift_explorer.proofs.Prelude.{rules, refl, ◌≡◌, ◌∙◌, List, length, sym, subst, ap, arc_value, ScriptView, root_count, tasks_of, Move, AreSteps, SomeGoesOn, HaveClosed, rows_at}
use Rattle.swift_explorer.proofs.Ended.{folds_none, legal_is, report_of}
use Rattle.swift_explorer.proofs.KnownEnds.{none_of, not_yet, reached}
use Rattle.swift_explorer.proofs.history.SearchedHistory.outcome.Goals as goal

pub returns-clause-reached : goal.returns-clause-reached
returns-clause-reached c =
    let x = c.args.self.now in
    let script = arc_value x.steps.script in
    let p = c.requires in
    let bs = p.blocks in
    let h = p.is in
    let es = c.in-Some.endings.items in
    let all : x.steps.roots ≡ root_count script = search rules in
    let ended : length es ≡ c.in-Ok.tasks = search rules in
    let counted : c.in-Ok.tasks ≡ tasks_of (root_count x.steps.book.script) x.steps.book.log = search rules in
    let many : length es ≡ tasks_of (root_count script) x.steps.book.log = ended ∙ counted ∙ ap (λ (s : ScriptView). tasks_of (root_count s) x.steps.book.log) h.followed.book_is in
    let shut : HaveClosed x.steps.book.log c.in-Ok.tasks = c.if-not-has_closed_all.ensures refl in
    let is = legal_is script bs x es c.args.schedule.now h p.steps all many (search rules) (subst (HaveClosed x.steps.book.log) (sym ended) shut) in
    record {
      report = report_of script bs x.steps.book.log es (rows_at x);
      legal = is.0;
      folds = folds_none script;
      steps = subst (λ (ms : List Move). AreSteps 0 ms is.0.legal.blocks) (search rules) is.1;
      endings = search rules;
      fields = search rules;
    }

pub returns-clause-known : goal.returns-clause-known
returns-clause-known c = λ blocks h report of.
    (let x = c.args.self.now in
    let script = arc_value x.steps.script in
    let es = c.in-Some.endings.items in
    let ended : length es ≡ c.in-Ok.tasks = search rules in
    let counted : c.in-Ok.tasks ≡ tasks_of (root_count x.steps.book.script) x.steps.book.log = search rules in
    let many : length es ≡ tasks_of (root_count script) x.steps.book.log = ended ∙ counted ∙ ap (λ (s : ScriptView). tasks_of (root_count s) x.steps.book.log) h.followed.book_is in
    let is = reached script blocks x.steps.book.log h.followed.led.log_is report of x es h many (search rules) in
    (is.0 ∙ search rules, is.1 ∙ search rules))

pub returns-in_default-2-clause-known : goal.returns-in_default-2-clause-known
returns-in_default-2-clause-known c = λ blocks h report of.
    (let x = c.args.self.now in
    let script = arc_value x.steps.script in
    let counted : c.in-Ok.tasks ≡ tasks_of (root_count x.steps.book.script) x.steps.book.log = search rules in
    let same = counted ∙ ap (λ (s : ScriptView). tasks_of (root_count s) x.steps.book.log) h.followed.book_is in
    let goes : SomeGoesOn x.steps.book.log c.in-Ok.tasks = c.in_ok-endings.ensures.none (none_of c.in_ok-endings.field-0 c.in_default-2.not-Some) in
    not_yet script blocks x.steps.book.log h.followed.led.log_is report of (subst (SomeGoesOn x.steps.book.log) same goes))
