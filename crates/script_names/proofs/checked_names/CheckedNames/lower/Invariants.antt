use Rattle.script_names.proofs.Prelude.{◌≡◌, ◌++◌, map, min, take, drop}
use Rattle.script_names.proofs.checked_names.CheckedNames.lower.Given as goal

abbrev pub invariant-loop-count : goal.invariant-loop-count
invariant-loop-count l = l.count-items ≡ map (min l.names) (take l.count-index l.fn.self) ++ drop l.count-index l.fn.self
