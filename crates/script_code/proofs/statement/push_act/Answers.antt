use Rattle.script_code.proofs.Prelude.{List, ap, ◌∙◌, Statement, Do, code_of, Code, followed}
use Rattle.script_code.proofs.Written.{code_push, said-Do}
use Rattle.script_code.proofs.statement.push_act.Goals as goal

pub returns : goal.returns
returns c =
    ap (λ (xs : List Statement). code_of xs) c.in_ok-push.ensures.items
    ∙ code_push c.args.statements.now.items (Do c.args.act)
    ∙ ap (λ (x : Code). followed (code_of c.args.statements.now.items) x) (said-Do c.args.act)
