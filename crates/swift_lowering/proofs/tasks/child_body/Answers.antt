use Rattle.std.proofs.Common.{◌≡◌, refl, rules}
use Rattle.swift_syntax.specs.Expressions.{after}
use Rattle.swift_lowering.proofs.tasks.child_body.Goals as goal

pub returns : goal.returns
returns c =
    let next : c.saturating_add.result ≡ after c.args.stmt.token = search rules in
    record { value = refl; from = next; to = refl; is_implicit = refl }
