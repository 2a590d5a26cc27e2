use Rattle.nuchapay_runs.proofs.Prelude.{◌≡◌, ℤ, ◌<◌, ◌≤◌, length, reverse, ap, arith, rules, w64, to_z, of_z, at_drop_all, length-reverse, binding_text, bindings_text}
use Rattle.nuchapay_runs.proofs.Bound.{bound_more}
use Rattle.nuchapay_runs.proofs.Joined.{ended, same}
use Rattle.nuchapay_runs.proofs.why.write_outer.Goals as goal

pub loop-place-preserved : goal.loop-place-preserved
loop-place-preserved c =
    let i = c.loop-place.place in
    let bs = reverse c.args.found.now.outer in
    let local = c.entry-value.result.0.0 in
    let v = c.entry-value.result.1 in
    let fits : to_z w64 (of_z w64 v) ≡ v = search rules in
    let says = same (ap (λ (z : ℤ). binding_text c.args.script.now (local, z)) fits) c.write_binding.ensures in
    let lt : i < length bs = omega (arith, c.loop-place-test.true, c.loop-place.invariant.end, length-reverse c.args.found.now.outer) in
    record {
      text = bound_more c.args.script.now bs i (local, v) c.args.out.now c.loop-place.out c.write_binding.new.out _ lt c.entry-value.ensures says c.loop-place.invariant.text;
      end = c.loop-place.invariant.end;
    }

pub returns : goal.returns
returns c =
    let i = c.loop-place.place in
    let bs = reverse c.args.found.now.outer in
    let past : length bs ≤ i = omega (arith, c.loop-place-test.false, c.loop-place.invariant.end, length-reverse c.args.found.now.outer) in
    ended (at_drop_all (bindings_text c.args.script.now) bs i past) c.loop-place.invariant.text
