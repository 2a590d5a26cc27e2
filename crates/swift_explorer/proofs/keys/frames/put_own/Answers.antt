use Rattle.swift_explorer.proofs.Prelude.{◌≡◌, ℤ, ◌<◌, ◌∷◌, ◌++◌, length, map, get_or, ap, ◌∙◌, arith, rules, w64, to_z, of_z, pos, length-map, get_or-map, pair_of, binding_numbers}
use Rattle.swift_explorer.proofs.Steps.{some_step, some_all, reverse_pairs}
use Rattle.swift_explorer.proofs.keys.frames.put_own.Goals as goal

pub loop-binding-preserved : goal.loop-binding-preserved
loop-binding-preserved c =
    let own = c.args.own.now in
    let k = c.loop-binding.binding-index in
    let b = get_or own k (record { local = record { 0 = 0 }; value = pos 0 }) in
    let p = pair_of b in
    let ps = map pair_of own in
    let value : to_z w64 (of_z w64 b.value) ≡ b.value = search rules in
    let len = length-map own pair_of in
    let h : k < length ps = omega arith in
    let at : get_or ps k p ≡ p = get_or-map pair_of own k _ p (omega arith) in
    some_step binding_numbers ps k p p _ _ _ h at c.loop-binding.invariant (c.in_ok-put_binding.ensures ∙ ap (λ (z : ℤ). c.loop-binding.key.items ++ (pos 1 ∷ binding_numbers (p.0, z))) value)

pub returns : goal.returns
returns c =
    let ps = map pair_of c.args.own.now in
    let len = length-map c.args.own.now pair_of in
    rw (reverse_pairs c.args.own.now) (some_all binding_numbers ps c.loop-binding.binding-index _ _ _ (omega (arith, len, c.loop-binding-test.false)) c.loop-binding.invariant c.in_ok-push.ensures.items)
