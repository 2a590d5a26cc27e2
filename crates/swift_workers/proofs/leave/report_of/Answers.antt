use Rattle.swift_workers.proofs.Prelude.{◌≡◌, ℕ, List, Some, length, sym, subst, ap, ◌∙◌, OnOk, Result, Ending, ScriptView, executor_count, root_count, Event, Origin, Maker, Halt, AreEndings, AreParts}
use Rattle.swift_shared_book.specs.Calls.{facts_of}
use Rattle.swift_workers.proofs.Reported.{has_whole, is_orderly}
use Rattle.swift_workers.proofs.leave.report_of.Goals as goal

pub returns-clause-orderly : goal.returns-clause-orderly
returns-clause-orderly g c =
    let p = c.args.script.now in
    let v = c.parts_of.new.seat.knows in
    let r = c.into_report.result in
    let parts = c.in_ok-parts.parts in
    let facts = facts_of c.in-Some.book in
    let roots = root_count p in
    let all : Maker = record { executors = executor_count p; roots = roots } in
    let said : c.args.seat.knows.maker ≡ Some all = subst (λ (o : Result (Unit {0}) Halt). OnOk o (c.args.seat.knows.maker ≡ Some all)) c.in_ok-played.was c.requires.maker in
    let of_script = subst (λ (x : ScriptView). AreParts x v (length c.args.execs.items) parts) c.requires.script c.in_ok-parts.ensures.parts in
    let are = subst (λ (n : ℕ). AreParts p v n parts) c.requires.many of_script in
    let log : r.log.events ≡ facts.log = ap (λ l. l.events) c.into_report.ensures.ends.0 ∙ c.in_ok-log.ensures.log in
    let of_log = subst (λ (l : List Event). AreEndings roots l c.in_ok-log.endings.items) (sym log) c.in_ok-log.ensures.endings in
    let ends = subst (λ (es : List (Origin × Ending)). AreEndings roots r.log.events es) (sym (ap (λ e. e.items) c.into_report.ensures.ends.1)) of_log in
    is_orderly facts p v r parts c.in-Some.ensures.knows (c.in-Some.ensures.script ∙ c.requires.script) (c.in_ok-parts.ensures.maker ∙ said) c.runs_are_orderly.ensures are c.into_report.ensures.parts.0 c.into_report.ensures.parts.1
    c.into_report.ensures.parts.2 log ends

pub returns-clause-whole : goal.returns-clause-whole
returns-clause-whole g c =
    let p = c.args.script.now in
    let v = c.parts_of.new.seat.knows in
    let r = c.into_report.result in
    let parts = c.in_ok-parts.parts in
    let facts = facts_of c.in-Some.book in
    let roots = root_count p in
    let all : Maker = record { executors = executor_count p; roots = roots } in
    let said : c.args.seat.knows.maker ≡ Some all = subst (λ (o : Result (Unit {0}) Halt). OnOk o (c.args.seat.knows.maker ≡ Some all)) c.in_ok-played.was c.requires.maker in
    let of_script = subst (λ (x : ScriptView). AreParts x v (length c.args.execs.items) parts) c.requires.script c.in_ok-parts.ensures.parts in
    let are = subst (λ (n : ℕ). AreParts p v n parts) c.requires.many of_script in
    let log : r.log.events ≡ facts.log = ap (λ l. l.events) c.into_report.ensures.ends.0 ∙ c.in_ok-log.ensures.log in
    let of_log = subst (λ (l : List Event). AreEndings roots l c.in_ok-log.endings.items) (sym log) c.in_ok-log.ensures.endings in
    let ends = subst (λ (es : List (Origin × Ending)). AreEndings roots r.log.events es) (sym (ap (λ e. e.items) c.into_report.ensures.ends.1)) of_log in
    has_whole facts p v r parts c.in-Some.ensures.knows (c.in-Some.ensures.script ∙ c.requires.script) (c.in_ok-parts.ensures.maker ∙ said) c.runs_are_whole.ensures are c.into_report.ensures.parts.0 c.into_report.ensures.parts.1
    c.into_report.ensures.parts.2 log ends
