use Rattle.nuchapay_runs.proofs.Prelude.{List, [], ap, ◌∙◌, rows_of, left_text}
use Rattle.script_code.specs.declared.formula.FieldPlace.{FieldPlace}
use Rattle.nuchapay_runs.proofs.Joined.{both, same}
use Rattle.nuchapay_runs.proofs.invariants.write_false.Goals as goal

pub returns-in-Ok : goal.returns-in-Ok
returns-in-Ok c =
    let read = c.deref.ensures.value ∙ c.in-Ok.ensures in
    both
    (both (both (both (both c.say.ensures c.write_invariant.ensures) c.say-2.ensures) (same c.actor_name.ensures c.say-3.ensures)) c.say-4.ensures)
    (same (ap (λ (places : List FieldPlace). left_text c.args.script.now c.args.executor.0 c.args.changes.now (rows_of c.args.before.now) [] places) read) c.write_left.ensures)
