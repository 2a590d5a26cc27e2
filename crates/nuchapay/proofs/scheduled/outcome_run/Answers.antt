use Rattle.nuchapay.proofs.Prelude.{rules, ◌<◌, ◌∙◌, List, length, refl, subst, take_all, arith, slice_get_read, arc_value, Move, IsScheduledReport}
use Rattle.nuchapay.proofs.scheduled.outcome_run.Goals as goal

pub returns-in_default : goal.returns-in_default
returns-in_default c = record { found = c.in_ok-found.found; is = c.in_ok-found.ensures; counted = search rules; other = search rules }

pub returns : goal.returns
returns c =
    let script = arc_value c.args.script in
    let found = c.in_ok-found.found in
    let steps = c.in_ok-schedule.schedule.items in
    let lt : c.in-Some.place < length found.outcomes.items = search rules in
    record {
      same = refl;
      is = subst (λ (s : List Move). IsScheduledReport script s c.in_ok-report.report) c.deref-2.ensures.value c.in_ok-report.ensures;
      chosen = record {
        found = found;
        is = c.in_ok-found.ensures;
        place = c.in-Some.place;
        numbered = search rules;
        outcome = c.index.result.now;
        there = slice_get_read found.outcomes.items _ c.in-Some.place c.index.result.now refl lt c.index.ensures;
        same = take_all c.len-given.result steps (omega arith) ∙ c.in_ok-schedule.ensures.items ∙ c.deref.ensures.value;
      };
    }
