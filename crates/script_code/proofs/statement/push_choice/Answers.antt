use Rattle.script_code.proofs.Prelude.{List, ap, ◌∙◌, Statement, IfElse, code_of, Code, followed}
use Rattle.script_code.proofs.Written.{code_push, said-IfElse}
use Rattle.script_code.proofs.statement.push_choice.Goals as goal

pub returns : goal.returns
returns c =
    ap (λ (xs : List Statement). code_of xs) c.in_ok-push.ensures.items
    ∙ code_push c.args.statements.now.items (IfElse c.args.test c.args.held c.args.failed)
    ∙ ap (λ (x : Code). followed (code_of c.args.statements.now.items) x) (said-IfElse c.args.test c.args.held c.args.failed)
