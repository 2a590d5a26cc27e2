use Rattle.nuchapay_runs.proofs.Prelude.{◌≡◌, ◌+◌, drop, length, rows_of, noted_turns}
use Rattle.nuchapay_runs.proofs.Joined.{UpTo}
use Rattle.nuchapay_runs.proofs.report.write_noted_turns.Given as goal

abbrev pub invariant-loop-place : goal.invariant-loop-place
invariant-loop-place l = record {
  text : UpTo l.initial.out l.out (noted_turns l.script l.endings l.executor.0 (l.start.folded + l.place) (rows_of l.player.fields.items) (drop l.place l.journal)) (noted_turns l.script l.endings l.executor.0 l.start.folded (rows_of l.start.fields.now) l.journal);
  same : rows_of l.player.turn.fields.items ≡ rows_of l.player.fields.items;
  end : l.place-end ≡ length l.journal;
}
