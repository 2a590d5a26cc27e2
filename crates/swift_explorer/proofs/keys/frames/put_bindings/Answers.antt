use Rattle.swift_explorer.proofs.Prelude.{◌≡◌, ℕ, ℤ, ◌<◌, ◌∷◌, ◌++◌, length, reverse, get_or, ap, ◌∙◌, arith, rules, w64, to_z, of_z, pos, length-reverse, binding_numbers}
use Rattle.swift_explorer.proofs.Steps.{some_step, some_all}
use Rattle.swift_explorer.proofs.keys.frames.put_bindings.Goals as goal

pub loop-place-preserved : goal.loop-place-preserved
loop-place-preserved c =
    let v = c.entry-value.result.1 in
    let p : ℕ × ℤ = (c.entry-value.result.0.0, v) in
    let ps = reverse c.args.bindings.now in
    let value : to_z w64 (of_z w64 v) ≡ v = search rules in
    let len = length-reverse c.args.bindings.now in
    let h : c.loop-place.place < length ps = omega arith in
    let at : get_or ps c.loop-place.place p ≡ p = c.entry-value.ensures p in
    some_step binding_numbers ps c.loop-place.place p p _ _ _ h at c.loop-place.invariant (c.in_ok-put_binding.ensures ∙ ap (λ (z : ℤ). c.loop-place.key.items ++ (pos 1 ∷ binding_numbers (p.0, z))) value)

pub returns : goal.returns
returns c =
    let ps = reverse c.args.bindings.now in
    let len = length-reverse c.args.bindings.now in
    some_all binding_numbers ps c.loop-place.place _ _ _ (omega arith) c.loop-place.invariant c.in_ok-push.ensures.items
