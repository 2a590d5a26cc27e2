use Rattle.swift_report.proofs.Prelude.{ℕ, ◌++◌, List, ap, ◌∙◌, codes, decimal, executor_kind, executor_name, kind_json}
use Rattle.swift_types.specs.declared.executor_kind.ExecutorKind.{ExecutorKind}
use Rattle.swift_report.proofs.Pieces.{labelled_after, onto}
use Rattle.swift_report.proofs.json.turns.heading.Goals as goal

pub returns : goal.returns
returns c =
    let p = c.args.script.now in
    let x0 = c.args.out.now.items in
    let x1 = c.say_three.new.out.items in
    let x2 = c.kind.new.out.items in
    let name = codes "\n{\"executor\":\"" ++ executor_name p c.args.executor ++ codes "\"," in
    let kind = kind_json (executor_kind p c.args.executor) in
    labelled_after c.labelled.result x0 x2 c.labelled.new.out.items (name ++ kind) (codes ",\"turns\":") (decimal c.args.turns)
    (onto x0 x1 x2 name kind
    (c.in_ok-say_three.ensures ∙ ap (λ (said : List ℕ). x0 ++ (codes "\n{\"executor\":\"" ++ said ++ codes "\",")) c.executor_name.ensures)
    (c.in_ok-kind.ensures ∙ ap (λ (k : ExecutorKind). x1 ++ kind_json k) c.executor_kind.ensures))
    c.labelled.ensures
