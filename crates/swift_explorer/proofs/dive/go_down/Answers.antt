use Rattle.swift_explorer.proofs.Prelude.{◌∙◌, sym, subst, ap, arc_value, ScriptView, IsPath, IsBrokenAfter}
use Rattle.swift_explorer.proofs.Paths.{was_done}
use Rattle.swift_explorer.proofs.dive.go_down.Goals as goal

pub push_step-requires : goal.push_step-requires
push_step-requires c =
    subst (λ (s : ScriptView). IsPath s c.loop.path.items c.loop.history) (sym (ap arc_value c.loop.invariant.script)) c.loop.invariant.path

pub loop-preserved : goal.loop-preserved
loop-preserved c =
    let old = c.loop.invariant in
    let own = ap arc_value old.script in
    let made = c.in_ok-done.ensures in
    let path = c.push_step.new.path.items in
    record {
      script = c.push_step.ensures.script ∙ old.script;
      path = subst (λ (s : ScriptView). IsPath s path c.push_step.new.history) own (made.path (was_done c.in_ok-done.done c.in_default-done.not-No));
      broken = c.in_ok-keep_broken.ensures (arc_value c.args.history.now.steps.script)
          (λ is. subst (IsBrokenAfter (arc_value c.args.history.now.steps.script)) (sym c.deref-in-loop.ensures.value) (subst (λ (s : ScriptView). IsBrokenAfter s path) own (made.broken is))) old.broken;
    }
