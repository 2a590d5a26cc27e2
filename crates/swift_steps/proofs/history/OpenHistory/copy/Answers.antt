use Rattle.swift_steps.proofs.Prelude.{◌≡◌, ◌∙◌, ℤ, List, Vec, map, rules, refl, subst, ap, Option, Global, arc_value, AllZip, rows_of, NextTurn, IsSameIf}
use Rattle.swift_steps.proofs.Copies.{is_copy}
use Rattle.swift_steps.proofs.history.OpenHistory.copy.Goals as goal

pub returns : goal.returns
returns c =
    let own : arc_value c.in_ok-script.script ≡ arc_value c.args.self.now.script = search rules in
    let tasks = c.in_ok-tasks.tasks.items in
    let same = subst (λ (ts : List (Option NextTurn)). AllZip IsSameIf ts tasks) c.deref.ensures.value c.in_ok-tasks.ensures in
    is_copy c.args.self.now _ own c.in_ok-book.ensures same
    (c.in_ok-fields.ensures ∙ ap (map (λ (rows : Vec (Vec ℤ Global) Global). rows_of rows.items)) c.deref-2.ensures.value) refl c.new.ensures.items
