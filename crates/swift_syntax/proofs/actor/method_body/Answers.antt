use Rattle.swift_syntax.proofs.Methods.{body_returned}
use Rattle.swift_syntax.proofs.actor.method_body.Goals as goal

pub returns-clause-spelled : goal.returns-clause-spelled
returns-clause-spelled c = λ n b.
    let read = c.body-place.ensures.spelled (c.return_lone.ensures.extends.refused n) b in
    body_returned c.args.reader.now c.body-place.new.reader c.return_lone.new.reader read c.return_lone.ensures.at c.return_lone.ensures.stmts c.return_lone.ensures.extends
