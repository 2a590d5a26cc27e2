use Rattle.script_code.proofs.Prelude.{◌≡◌, ◌≤◌, length, take, value_of, pairs_of}
use Rattle.script_code.proofs.evaluation.read_own.Given as goal

abbrev pub invariant-loop-left : goal.invariant-loop-left
invariant-loop-left l = record {
  within : l.left ≤ length l.own;
  rest : value_of (pairs_of (take l.left l.own)) l.local.0 ≡ value_of (pairs_of l.own) l.local.0;
}

abbrev pub decreases-loop-left : goal.decreases-loop-left
decreases-loop-left l = l.left
