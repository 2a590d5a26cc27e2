use Rattle.nuchapay_runs.proofs.Prelude.{ℕ, ◌+◌, ap, heading_text, on_ok}
use Rattle.nuchapay_runs.proofs.Joined.{both, same}
use Rattle.nuchapay_runs.proofs.report.write_noted_executor.Goals as goal

pub returns : goal.returns
returns c =
    let turns = ap (λ (n : ℕ). heading_text c.args.script.now c.args.executor.0 (c.args.start.folded + n)) c.len.ensures.len in
    on_ok c.write_noted_turns.result (λ said. both (both (same turns c.write_heading.ensures) c.write_folded.ensures) said) c.write_noted_turns.ensures
