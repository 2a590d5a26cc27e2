use Rattle.std.proofs.Common.{◌≡◌, ◌++◌, drop, false}
use Rattle.script_hints.specs.Spelled.{filled}
use Rattle.script_hints.proofs.mistake.fill.Given as goal

abbrev pub invariant-loop-byte : goal.invariant-loop-byte
invariant-loop-byte l = l.text.items ++ filled (drop l.byte-index l.words) l.is_name l.blamed l.actor ≡ l.initial.text.items ++ filled l.words false l.blamed l.actor
