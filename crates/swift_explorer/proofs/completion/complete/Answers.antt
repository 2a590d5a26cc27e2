use Rattle.swift_explorer.proofs.Prelude.{rules, ◌∙◌, List, ◌++◌, sym, subst, ap, arc_value, ScriptView, Move, IsPath}
use Rattle.swift_explorer.proofs.Completing.{whole_of}
use Rattle.swift_explorer.proofs.completion.complete.Goals as goal

pub go_to_the_end-requires : goal.go_to_the_end-requires
go_to_the_end-requires c =
    let x = c.follow_or_stop.new.history in
    subst (λ (ms : List Move). IsPath (arc_value x.steps.script) ms x) (sym c.in_ok-path.ensures.items)
    (subst (λ (s : ScriptView). IsPath s c.args.schedule.now x) (sym (ap arc_value c.follow_or_stop.ensures.script)) (search rules))

pub returns-then-branch : goal.returns-then-branch
returns-then-branch c =
    let path = c.go_to_the_end.new.path.items in
    let end = c.go_to_the_end.new.history in
    let done = c.in_ok-go_to_the_end.ensures in
    let more = done.after c.if-branch.true in
    whole_of (arc_value c.args.history.now.steps.script) c.args.schedule.now path more.0 end
    (more.1 ∙ ap (λ (ms : List Move). ms ++ more.0) c.in_ok-path.ensures.items)
    (subst (λ (s : ScriptView). IsPath s path end) (ap arc_value c.follow_or_stop.ensures.script) (done.path c.if-branch.true))
