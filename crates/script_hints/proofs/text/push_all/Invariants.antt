use Rattle.std.proofs.Common.{◌≡◌, ◌++◌, drop, map}
use Rattle.std.specs.List.{concat}
use Rattle.script_hints.proofs.text.push_all.Given as goal

abbrev pub invariant-loop-part : goal.invariant-loop-part
invariant-loop-part l = l.text.items ++ concat (map (λ part. part.now) (drop l.part-index l.parts)) ≡ l.initial.text.items ++ concat (map (λ part. part.now) l.parts)
