use Rattle.swift_explorer.proofs.Prelude.{◌≡◌, ℤ, [], ◌∷◌, ◌++◌, get_or, refl, ap, ◌∙◌, arith, rules, w64, to_z, of_z, pos, value_numbers}
use Rattle.swift_explorer.proofs.Steps.{some_step, some_all, two_writes}
use Rattle.swift_explorer.proofs.keys.frames.put_values.Goals as goal

pub loop-value-preserved : goal.loop-value-preserved
loop-value-preserved c =
    let v : ℤ = get_or c.args.values.now c.loop-value.value-index (pos 0) in
    let fits : to_z w64 (of_z w64 v) ≡ v = search rules in
    some_step value_numbers c.args.values.now c.loop-value.value-index (pos 0) v _ _ _ (omega arith) refl c.loop-value.invariant
    (two_writes c.loop-value.key.items c.push.new.self.items c.push-in-loop-value.new.self.items (pos 1 ∷ []) (v ∷ []) c.in_ok-push.ensures.items
    (c.in_ok-push-2.ensures.items ∙ ap (λ (z : ℤ). c.push.new.self.items ++ z ∷ []) fits))

pub returns : goal.returns
returns c = some_all value_numbers c.args.values.now c.loop-value.value-index _ _ _ (omega (arith, c.loop-value-test.false)) c.loop-value.invariant c.in_ok-push-3.ensures.items
