use Rattle.nuchapay.proofs.Prelude.{List, rules, sym, subst, arc_value, IsAccepted, Move, IsAsMeant, IsCompleted}
use Rattle.explorer_files.specs.declared.saved.SavedSchedule.{SavedSchedule}
use Rattle.explorer_files.specs.Saved.{IsSavedAs}
use Rattle.nuchapay.proofs.scheduled.saved_run.Goals as goal

pub returns-in_ok-meant-in-Steps : goal.returns-in_ok-meant-in-Steps
returns-in_ok-meant-in-Steps c =
    let script = arc_value c.in_ok-script.script in
    let meant = c.in_ok-meant-in-Steps.meant in
    let run : IsCompleted script c.deref-in-Steps.result.now c.in_ok-run-in-Steps.run' = search rules in
    let told = subst (λ (s : List Move). IsCompleted script s meant × IsAsMeant c.args.choice script s meant) c.deref-in-Steps.ensures.value (c.in_ok-meant-in-Steps.ensures script run) in
    record {
      script = script;
      accepted = subst (IsAccepted c.args.text.now) (sym c.in_ok-script.ensures.ok) c.in_ok-read.ensures.found;
      is = record {
        steps = c.in-Steps.schedule;
        saved = subst (λ (s : SavedSchedule). IsSavedAs c.args.file.now c.args.text.now c.args.choice s) c.in-Steps.is c.in_ok-found.ensures;
        run = told.0;
        meant = told.1;
      };
    }
