use Rattle.std.proofs.Common.{◌≡◌, ◌<◌, length, sym, ◌∙◌, rules}
use Rattle.std.proofs.lemmas.Bool.{eqb-true}
use Rattle.explorer_progress.proofs.Places.{there_at}
use Rattle.explorer_progress.proofs.turns.is_there.Goals as goal

pub returns : goal.returns
returns c = λ yes.
    let journal = c.args.journal.now in
    let within : c.args.place < length journal = search rules in
    let task : c.task.result.0 ≡ c.args.task.0 = search rules in
    let number = eqb-true c.number.result c.args.number yes in
    there_at journal c.args.place c.args.task.0 c.args.number within (λ d. sym task ∙ c.task.ensures d) (λ d. sym number ∙ c.number.ensures d)
