use Rattle.swift_certificate.proofs.Prelude.{◌≡◌, ◌<◌, ℕ, ℤ, List, Some, map, slice_get, rows_of, RecordView, CheckpointView, ExecutorProgress, report_view, EndsAt}
use Rattle.swift_certificate.proofs.ends.are_ended.Given as goal

abbrev pub invariant-loop-place : goal.invariant-loop-place
invariant-loop-place l = (e : ℕ) (row : ExecutorProgress) (own : List (List ℤ)) (journal : List RecordView) (checkpoint : CheckpointView) (fields : List (List ℤ)) → e < l.place
    → slice_get l.rows e ≡ Some row → slice_get (map (λ x. rows_of x.items) l.own) e ≡ Some own → slice_get (report_view l.report).journals e ≡ Some journal → slice_get (report_view l.report).checkpoints e ≡ Some checkpoint → slice_get (report_view l.report).fields e ≡ Some fields
    → EndsAt l.script e row own journal checkpoint fields
