use Rattle.script_compiler.proofs.Prelude.{◌∙◌, refl, sym, ap}
use Rattle.script_compiler.proofs.Steps.{member_here, member_not}
use Rattle.script_compiler.proofs.executors.members.Goals as goal
use Rattle.script_compiler.proofs.executors.members.Goals.{then-executor+in_ok-push, else-executor}

pub loop-actor-preserved : goal.loop-actor-preserved
loop-actor-preserved c =
    elim c.if-executor.branch [
      | then-executor+in_ok-push w ↦ member_here c.args.plan.now c.args.executor c.loop-actor.actor c.args.actors c.loop-actor.members.items c.if-executor.members.items (record { 0 = c.loop-actor.actor }) _
          c.loop-actor-test.true (sym c.executor.ensures ∙ w.if-executor.true) refl (ap (λ v. v.items) w.members-is ∙ w.in_ok-push.ensures.items) c.loop-actor.invariant
      | else-executor w ↦ member_not c.args.plan.now c.args.executor c.loop-actor.actor c.args.actors c.loop-actor.members.items c.if-executor.members.items _
          c.loop-actor-test.true (λ e. w.if-executor.false (c.executor.ensures ∙ e)) (ap (λ v. v.items) w.members-is) c.loop-actor.invariant
    ]
