use Rattle.nuchapay_runs.proofs.Prelude.{◌≡◌, drop, length, reverse, bindings_text}
use Rattle.nuchapay_runs.proofs.Joined.{UpTo}
use Rattle.nuchapay_runs.proofs.why.write_outer.Given as goal

abbrev pub invariant-loop-place : goal.invariant-loop-place
invariant-loop-place l = record {
  text : UpTo l.initial.out l.out (bindings_text l.script (drop l.place (reverse l.found.outer))) (bindings_text l.script (reverse l.found.outer));
  end : l.place-end ≡ length l.found.outer;
}
