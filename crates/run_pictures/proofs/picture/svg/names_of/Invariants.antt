use Rattle.std.proofs.Common.{◌≡◌, ℕ, Some, length, slice_get}
use Rattle.std.specs.Global.{Vec}
use Rattle.task_names.specs.Names.{task_name}
use Rattle.run_pictures.proofs.picture.svg.names_of.Given as goal

abbrev pub invariant-loop-place : goal.invariant-loop-place
invariant-loop-place l = record {
  many : length l.names.items ≡ l.place;
  each : (t : ℕ) (name : Vec ℕ) → slice_get l.names.items t ≡ Some name → name.items ≡ task_name l.script l.endings t;
}
