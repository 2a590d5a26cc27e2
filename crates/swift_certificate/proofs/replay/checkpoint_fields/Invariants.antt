use Rattle.swift_certificate.proofs.Prelude.{◌≡◌, map, take, rows_of}
use Rattle.swift_certificate.proofs.replay.checkpoint_fields.Given as goal

abbrev pub invariant-loop-checkpoint : goal.invariant-loop-checkpoint
invariant-loop-checkpoint l = map (λ rows. rows_of rows.items) l.fields.items ≡ map (λ c. c.view.fields) (take l.checkpoint-index l.checkpoints)
