use Rattle.swift_explorer.proofs.Prelude.{rules, ◌≡◌, ◌<◌, ◌^◌, ◌∙◌, ℕ, Vec, true, length, sym, subst, ap, is_some, Global, arc_value, root_count, Move, AreThere, HasEach, HasEachMove, IsUnderWay, MayBegin}
use Rattle.swift_explorer.specs.declared.moves.Move.TheVariants as step
use Rattle.swift_explorer.proofs.EachMove.{each_with_add, each_with_begins}
use Rattle.swift_explorer.proofs.history.SearchedHistory.next.Goals.{then-is_some+in_ok-push, else-is_some+in_ok-push_begins}
use Rattle.swift_explorer.proofs.history.SearchedHistory.next.Goals as goal

pub returns : goal.returns
returns c =
    let x = c.args.self.now in
    let runs = c.push_runs.new.moves.items in
    let many : c.in-Ok.tasks ≡ length x.steps.tasks.items = search rules in
    let few : length x.steps.tasks.items < 2 ^ 32 = search rules in
    let each = subst (λ (n : ℕ). HasEach step.Run IsUnderWay x n runs) many c.in_ok-push_runs.ensures in
    elim c.if-is_some.branch [
      | then-is_some+in_ok-push w ↦
          (let some : is_some c.missing_root.result ≡ true = search rules in
          each_with_add x runs c.if-is_some.moves.items c.missing_root.result some c.missing_root.ensures.some each (ap (λ (v : Vec Move Global). v.items) w.moves-is ∙ w.in_ok-push.ensures.items))
      | else-is_some+in_ok-push_begins w ↦
          (let there : AreThere (root_count (arc_value x.steps.script)) x.steps.book.log = search rules in
          subst (λ (v : Vec Move Global). HasEachMove x v.items) (sym w.moves-is)
          (each_with_begins x runs w.push_begins.new.moves.items there each w.in_ok-push_begins.ensures.kept (subst (λ (n : ℕ). HasEach step.Begin MayBegin x n w.push_begins.new.moves.items) many (w.in_ok-push_begins.ensures.all few))))
    ]
