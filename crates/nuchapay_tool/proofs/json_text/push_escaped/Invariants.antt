use Rattle.std.proofs.Common.{◌≡◌, ◌++◌, drop}
use Rattle.nuchapay_tool.specs.ChecksJson.{escaped}
use Rattle.nuchapay_tool.proofs.json_text.push_escaped.Given as goal

abbrev pub invariant-loop-byte : goal.invariant-loop-byte
invariant-loop-byte l = l.said.items ++ escaped (drop l.byte-index l.text) ≡ l.initial.said.items ++ escaped l.text
