use Rattle.script_compiler.proofs.Prelude.{ap, ◌∙◌, DirectoryView, method_place}
use Rattle.script_compiler.proofs.lowering.declaration.root.Goals as goal

pub returns-clause-root : goal.returns-clause-root
returns-clause-root c =
    let r = c.args.root.now in
    let name = c.in_ok-name.ensures.items ∙ c.deref-2.ensures.value in
    let place = c.in_ok-method.ensures.method ∙ ap (λ (d : DirectoryView). method_place d r.actor.text.items r.method.text.items) c.declared-declared.ensures.directory in
    let args = c.in_ok-args.ensures.items ∙ c.deref-3.ensures.value in
    λ i. record { name = name i; method = place i; args = args i; priority = r.priority }
