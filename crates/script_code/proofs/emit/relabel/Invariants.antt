use Rattle.script_code.proofs.Prelude.{◌≡◌, relabelled}
use Rattle.script_code.proofs.Mapped.{mapped}
use Rattle.script_code.proofs.emit.relabel.Given as goal

abbrev pub invariant-loop-line : goal.invariant-loop-line
invariant-loop-line l = l.line-items ≡ mapped (relabelled l.first) l.line-index l.initial.line-items
