use Rattle.script_code.proofs.Prelude.{List, ap, ◌∙◌, Statement, While, code_of, Code, followed}
use Rattle.script_code.proofs.Written.{code_push, said-While}
use Rattle.script_code.proofs.statement.push_loop.Goals as goal

pub returns : goal.returns
returns c =
    ap (λ (xs : List Statement). code_of xs) c.in_ok-push.ensures.items
    ∙ code_push c.args.statements.now.items (While c.args.test c.args.body)
    ∙ ap (λ (x : Code). followed (code_of c.args.statements.now.items) x) (said-While c.args.test c.args.body)
