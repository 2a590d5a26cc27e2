use Rattle.swift_syntax.proofs.Grown.{grows_same}
use Rattle.swift_syntax.proofs.reader.Reader.refuse.Goals.{then-is_none, else-is_none}
use Rattle.swift_syntax.proofs.reader.Reader.refuse.Goals as goal

pub returns-clause-grows : goal.returns-clause-grows
returns-clause-grows c =
    let g = grows_same c.args.self.now in
    elim c.if-is_none.branch [
      | then-is_none w ↦ rw w.self-is (record { refused = λ n. w.if-is_none.ensures; text = g.text; tokens = g.tokens; declared = g.declared; stmts = g.stmts; more = g.more; exprs = g.exprs; more_arguments = g.more_arguments; arguments = g.arguments })
      | else-is_none w ↦ rw w.self-is (record { refused = λ n. n; text = g.text; tokens = g.tokens; declared = g.declared; stmts = g.stmts; more = g.more; exprs = g.exprs; more_arguments = g.more_arguments; arguments = g.arguments })
    ]
