use Rattle.swift_explorer.proofs.Prelude.{rules, List, sym, subst, ap, arc_value, ScriptView, Move, IsPath, IfReached, IsOutcomeOf}
use Rattle.swift_explorer.proofs.dive.see_end.Goals as goal

pub outcome-requires : goal.outcome-requires
outcome-requires c =
    let y = c.go_down.new.history in
    let path = c.go_down.new.path.items in
    let led : IsPath (arc_value c.args.history.now.steps.script) path y = search rules in
    subst (λ (ms : List Move). IsPath (arc_value y.steps.script) ms y) (sym c.deref.ensures.value) (subst (λ (s : ScriptView). IsPath s path y) (sym (ap arc_value c.go_down.ensures.script)) led)

pub returns : goal.returns
returns c = record {
  outcome = subst (λ (s : ScriptView). IfReached (IsOutcomeOf s) c.in_ok-end.end) (ap arc_value c.go_down.ensures.script) c.in_ok-end.ensures.reached;
  broken = c.in_ok-go_down.ensures.broken;
}
