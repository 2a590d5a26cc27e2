use Rattle.nuchapay_runs.proofs.Prelude.{sym, subst, names_view, Says, cancel_text}
use Rattle.script_code.specs.declared.instruction.Cancelled.{Cancelled}
use Rattle.nuchapay_runs.proofs.Joined.{both, same}
use Rattle.nuchapay_runs.proofs.statement.write_cancel.Goals as goal

pub returns-in-Root : goal.returns-in-Root
returns-in-Root c =
    subst (λ (x : Cancelled). Says c.args.out.now c.say-in-Root.new.self (cancel_text (names_view c.args.names.now) x)) (sym c.in-Root.is) (both c.say.ensures (same c.root_name.ensures c.say-in-Root.ensures))

pub returns-in-Task : goal.returns-in-Task
returns-in-Task c =
    subst (λ (x : Cancelled). Says c.args.out.now c.say-in-Task.new.self (cancel_text (names_view c.args.names.now) x)) (sym c.in-Task.is) c.say-in-Task.ensures

pub returns-in-Group : goal.returns-in-Group
returns-in-Group c =
    subst (λ (x : Cancelled). Says c.args.out.now c.say-in-Group.new.self (cancel_text (names_view c.args.names.now) x)) (sym c.in-Group.is) c.say-in-Group.ensures
