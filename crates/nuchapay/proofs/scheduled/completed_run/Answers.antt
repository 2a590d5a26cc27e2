use Rattle.nuchapay.proofs.Prelude.{rules, refl, subst, arc_value}
use Rattle.swift_explorer.specs.declared.completion.Completion.{Completion}
use Rattle.swift_explorer.specs.Completions.{IsCompletion, IsWhole}
use Rattle.nuchapay.proofs.Chosen.{first_of}
use Rattle.nuchapay.proofs.scheduled.completed_run.Goals as goal

pub returns-in_ok-report-in-Whole : goal.returns-in_ok-report-in-Whole
returns-in_ok-report-in-Whole c =
    let script = arc_value c.args.script in
    let whole : IsWhole script c.args.schedule.now c.in-Whole.whole.items = subst (λ (r : Completion). IsCompletion script c.args.schedule.now r) c.in-Whole.is c.in_ok-whole.ensures in
    record {
      same = refl;
      is = search rules;
      first = first_of c.args.schedule.now _ whole.rest _ (search rules) whole.begins;
    }
