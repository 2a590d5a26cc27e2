-- How much a script declares: no more than its text has bytes.
use Rattle.std.specs.Prelude.{ℕ, ◌≤◌, length}
use Rattle.swift_types.specs.declared.limits.TheConstants.{BYTES}
use Rattle.script_names.specs.Directory.{DirectoryView, fields_at}

-- No more executors, task locals, roots, actors and methods are declared than a script may have bytes, and no actor has more fields.
pub record HasFewNames (d : DirectoryView) : Type 0 where
  pub executors : length d.executors ≤ BYTES
  pub locals : length d.locals ≤ BYTES
  pub roots : length d.roots ≤ BYTES
  pub actors : length d.actors ≤ BYTES
  pub methods : length d.methods ≤ BYTES
  pub fields : (actor : ℕ) → length (fields_at d actor) ≤ BYTES
