use Rattle.explorer_json.proofs.Prelude.{◌≡◌, ◌++◌, drop, bytes_json}
use Rattle.explorer_json.proofs.string.put_bytes.Given as goal

abbrev pub invariant-loop-place : goal.invariant-loop-place
invariant-loop-place l = l.out.items ++ bytes_json (drop l.place l.text) ≡ l.initial.out.items ++ bytes_json l.text
