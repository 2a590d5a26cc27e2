use Rattle.swift_steps.proofs.Prelude.{◌≡◌, ◌∙◌, ◌<◌, Option, None, length, set, ap, arith, get_or_read_under, NextTurn, given_at}
use Rattle.swift_steps.proofs.Given.{given_set}
use Rattle.swift_steps.proofs.next_turn.take.Goals as goal

pub returns-clause-rest : goal.returns-clause-rest
returns-clause-rest c = λ u.
    (let tasks = c.args.tasks.now.items in
    let lt : c.args.task.0 < length tasks = omega (arith, c.if-place-len.false, c.len.ensures) in
    ap (λ (g : Option NextTurn). given_at (set tasks c.args.task.0 g) u) c.replace.ensures.after ∙ given_set tasks c.args.task.0 None u lt)

pub returns-clause-found : goal.returns-clause-found
returns-clause-found c =
    let tasks = c.args.tasks.now.items in
    let long : c.len.result ≡ length tasks = omega (arith, c.len.ensures) in
    c.replace.ensures.value ∙ get_or_read_under tasks c.args.task.0 c.len.result c.index_mut.result.now None c.index_mut.ensures.value c.if-place-len.false long
