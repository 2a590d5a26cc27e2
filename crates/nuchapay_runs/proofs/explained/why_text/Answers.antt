use Rattle.nuchapay_runs.proofs.Prelude.{◌<◌, length, refl, sym, ap, ◌∙◌, arith, rules, rows_of, owned_view, line_of, values_view, values_views, line_in, names_view, KnownTurn}
use Rattle.nuchapay_runs.proofs.Explaining.{is_last, is_why}
use Rattle.nuchapay_runs.proofs.Playing.{as_many, own_values}
use Rattle.nuchapay_runs.proofs.explained.why_text.Goals as goal

pub offset_bounds-values-place : goal.offset_bounds-values-place
offset_bounds-values-place c =
    let many = as_many c.args.names.script.now c.args.start.now.view.fields c.args.journal.now c.args.values.now c.requires.values in
    let lt : c.args.place < length c.args.values.now = omega (arith, c.requires.place, many) in
    search rules

pub bounds-values-place : goal.bounds-values-place
bounds-values-place c = omega (arith, c.requires.place, as_many c.args.names.script.now c.args.start.now.view.fields c.args.journal.now c.args.values.now c.requires.values)

pub write_why-requires-clause-values : goal.write_why-requires-clause-values
write_why-requires-clause-values c = omega (arith, c.requires.place, as_many c.args.names.script.now c.args.start.now.view.fields c.args.journal.now c.args.values.now c.requires.values)

pub write_why-requires-clause-line : goal.write_why-requires-clause-line
write_why-requires-clause-line c =
    let r = owned_view c.args.found.now in
    ap line_in (c.box_at.ensures r) ∙ ap line_of (sym (c.requires.found r))

pub returns : goal.returns
returns c =
    let p = c.args.names.script.now in
    let start = c.args.start.now in
    let journal = c.args.journal.now in
    let place = c.args.place in
    let r = owned_view c.args.found.now in
    let before = rows_of c.args.before.now in
    let values = c.args.values.now in
    let own = c.index-values-place.result in
    let k : KnownTurn = record { names = names_view c.args.names; endings = c.args.endings.now; method = c.args.method.now; instructions = c.args.instructions.now; position = c.args.position; journal = journal; place = place; turn = r; before = before; own = values_view own; values = values_views values; last = c.last_turn.result } in
    is_why p c.args.endings.now c.args.names.executor.0 start journal place k c.new-out.result c.write_why.new.out c.into_bytes.result
    (record {
      script = refl;
      endings = refl;
      executor = refl;
      actor = c.requires.actor;
      instructions = c.requires.instructions;
      position = c.requires.position;
      journal_is = refl;
      place_is = refl;
      turn = c.requires.found;
      before = c.requires.before;
      own = own_values p start.view.fields before journal values place r own c.requires.place c.requires.values c.index-values-place.is c.requires.before (c.requires.found r);
      values = c.requires.values;
      last = is_last journal place c.last_turn.result c.last_turn.ensures.last c.last_turn.ensures.none;
    })
    c.write_why.ensures
    c.new-out.ensures
    c.into_bytes.ensures.whole
    c.into_bytes.ensures.bytes
