-- What is kept of executors on the way to a report. No public clause names it.
use Rattle.std.specs.Prelude.{◌≡◌, ℕ, ◌+◌, ℤ, List, [], ◌∷◌, length}
use Rattle.std.specs.declared.vec.Vec.{Vec}
use Rattle.std.specs.declared.alloc.Global.{Global}
use Rattle.script_code.specs.Seen.{rows_of}
use Rattle.swift_script.specs.Scripts.{ScriptView}
use Rattle.swift_journal.specs.Checkpoints.{CheckpointRoomView}
use Rattle.swift_journal.specs.Records.{RecordView}
use Rattle.swift_course.specs.Views.{BookKnown}
use Rattle.swift_course.specs.Reports.{AreAtRest, IsAccountedFor}
use Rattle.swift_workers.specs.declared.leave.Parts.{Parts}
use Rattle.swift_workers.specs.Leaves.{AreReplayed, KeepInvariants}

-- What is left of each executor from a number on is what an account of the seat says.
abbrev pub AreAccountedFor : ScriptView → BookKnown → ℕ → List CheckpointRoomView → List (List RecordView) → List (Vec (Vec ℤ Global) Global) → Type 0
AreAccountedFor p v e [] [] [] = Unit {0}
AreAccountedFor p v e (c ∷ checkpoints) (journal ∷ journals) (fields ∷ others) =
    IsAccountedFor p v e journal c.view (rows_of fields.items) × AreAccountedFor p v (e + 1) checkpoints journals others
AreAccountedFor p v e _ _ _ = ⊥

-- the journals, checkpoints and fields of the first `many` executors, whose seats were gathered in one that knows `v`
pub record AreParts (p : ScriptView) (v : BookKnown) (many : ℕ) (parts : Parts) : Type 0 where
  pub lawful : AreReplayed p 0 parts.checkpoints.items parts.journals.items parts.fields.items
  pub accounts : AreAccountedFor p v 0 parts.checkpoints.items parts.journals.items parts.fields.items
  pub invariants : KeepInvariants p 0 parts.fields.items
  pub journals : length parts.journals.items ≡ many
  pub checkpoints : length parts.checkpoints.items ≡ many
  pub fields : length parts.fields.items ≡ many
  pub rest : AreAtRest many v
