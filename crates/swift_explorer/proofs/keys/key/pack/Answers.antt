use Rattle.swift_explorer.proofs.Prelude.{◌≡◌, ℤ, ◌++◌, get_or, refl, ap, ◌∙◌, arith, rules, w64, to_z, of_z, pos, all_packed, packed}
use Rattle.std.proofs.lemmas.List.{take_all}
use Rattle.swift_explorer.proofs.Bytes.{packed_step}
use Rattle.swift_explorer.proofs.keys.key.pack.Goals as goal

pub loop-number-preserved : goal.loop-number-preserved
loop-number-preserved c =
    let v : ℤ = get_or c.args.numbers.now c.loop-number.number-index (pos 0) in
    let fits : to_z w64 (of_z w64 v) ≡ v = search rules in
    packed_step c.args.numbers.now c.loop-number.number-index (pos 0) v _ _ (omega arith) refl c.loop-number.invariant (c.in_ok-put.ensures ∙ ap (λ (z : ℤ). c.loop-number.bytes.items ++ packed z) fits)

pub returns : goal.returns
returns c = c.loop-number.invariant ∙ ap all_packed (take_all c.loop-number.number-index c.args.numbers.now (omega (arith, c.loop-number-test.false)))
