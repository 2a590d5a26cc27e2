use Rattle.script_compiler.proofs.Prelude.{◌≡◌, ℕ, List, IfSome, Option, ap, subst, ◌∙◌, method_place}
use Rattle.script_compiler.proofs.lowering.call.target.Goals as goal

pub returns-clause-method : goal.returns-clause-method
returns-clause-method c =
    let d = c.args.declared.now in
    let place = subst (λ (o : Option ℕ). IfSome o (λ n. n ≡ method_place d c.deref-2.result.now c.deref-3.result.now)) c.in-Some.is c.in_ok-number.ensures.place in
    place ∙ ap (λ (n : List ℕ). method_place d n c.deref-3.result.now) c.deref-2.ensures.value ∙ ap (method_place d c.args.actor.now.text.items) c.deref-3.ensures.value
