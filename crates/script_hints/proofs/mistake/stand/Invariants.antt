use Rattle.std.proofs.Common.{ℕ, ◌<◌, [], map, get_or}
use Rattle.script_hints.specs.Mistakes.{Meets}
use Rattle.script_hints.proofs.mistake.stand.Given as goal

abbrev pub invariant-loop-number : goal.invariant-loop-number
invariant-loop-number l = (n : ℕ) → n < l.number → Meets l.blamed n (get_or (map (λ x. x.now) l.words) n [])
