use Rattle.swift_explorer.proofs.Prelude.{◌∙◌, List, [], ◌∷◌, ◌++◌, append_assoc, sym, subst, ap, arc_value, ScriptView, Move, IsPath}
use Rattle.swift_explorer.proofs.Paths.{was_done}
use Rattle.swift_explorer.proofs.completion.go_to_the_end.Goals as goal

pub push_step-requires : goal.push_step-requires
push_step-requires c =
    subst (λ (s : ScriptView). IsPath s c.loop.path.items c.loop.history) (sym (ap arc_value c.loop.invariant.script)) c.loop.invariant.path

pub loop-preserved : goal.loop-preserved
loop-preserved c =
    let old = c.loop.invariant in
    let more = c.in-Some-next_in_turn.step ∷ [] in
    let done = was_done c.in_ok-push_step.field-0 c.in_default-2.not-No in
    let made = c.in_ok-push_step.ensures in
    record {
      script = c.push_step.ensures.script ∙ old.script;
      path = subst (λ (s : ScriptView). IsPath s c.push_step.new.path.items c.push_step.new.history) (ap arc_value old.script) (made.path done);
      after = (old.after.0 ++ more, made.one done ∙ ap (λ (ms : List Move). ms ++ more) old.after.1 ∙ append_assoc c.args.path.now.items old.after.0 more);
    }
