use Rattle.nuchapay_runs.proofs.Prelude.{ℤ, List, ap, ap₂, ◌∙◌, rows_of, RecordView, owned_view, turn_text, line_in, first_lines, notes_text, note_lines, ValuesView, turn_values, values_view}
use Rattle.std.specs.Global.{Vec}
use Rattle.run_pictures.specs.declared.picture.boxes.TurnBox.{TurnBox}
use Rattle.nuchapay_runs.proofs.Joined.{both, same}
use Rattle.nuchapay_runs.proofs.Noting.{notes_after}
use Rattle.nuchapay_runs.proofs.report.write_noted_turn.Goals as goal

pub returns-clause-noted : goal.returns-clause-noted
returns-clause-noted c = λ d.
    let p = c.args.script.now in
    let e = c.args.executor.0 in
    let before = rows_of c.args.player.now.fields.items in
    let found = owned_view c.in_ok-found.found in
    let v = values_view c.in_ok-values.values in
    let line = ap (λ (b : TurnBox). turn_text p c.args.line (line_in b)) (c.box_at-turn.ensures d) in
    let first = ap (λ (b : TurnBox). note_lines (first_lines p c.args.endings.now b.task.0 b.number)) (c.box_at-turn.ensures d) in
    let notes =
    ap (λ (rows : List (Vec ℤ)). notes_text p e (rows_of rows) v) c.deref.ensures.value
    ∙ ap₂ (λ (f : List (List ℤ)) (w : ValuesView). notes_text p e f w) c.in_ok-values.ensures.fields c.in_ok-values.ensures.values
    ∙ notes_after p e before found
    ∙ ap (λ (x : RecordView). notes_text p e before (turn_values p before x)) (c.in_ok-found.ensures d) in
    both (both (same line c.write_turn.ensures) (same first c.write_first.ensures)) (same notes c.write_notes.ensures)
