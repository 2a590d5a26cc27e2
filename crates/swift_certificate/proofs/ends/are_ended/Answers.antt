use Rattle.swift_certificate.proofs.Prelude.{◌<◌, get_or, length, map, rules, length-map, slice_get-get_or, rows_of, report_view, at_the_start}
use Rattle.swift_certificate.proofs.Ended.{all_ended, at_place, ended_next, seen_at}
use Rattle.swift_certificate.proofs.ends.are_ended.Goals as goal

pub loop-place-preserved : goal.loop-place-preserved
loop-place-preserved c =
    let r = c.args.report.now in
    let k = c.loop-place.place in
    let row = get_or c.args.rows.now k at_the_start in
    let below : k < length c.args.rows.now = search rules in
    let at = slice_get-get_or c.args.rows.now k at_the_start below in
    let journal = at_place r.journals.items k c.index.result.now (search rules) c.index.ensures in
    let checkpoint = seen_at (λ x. x.view) r.checkpoints.items k c.index-in-loop-place.result.now (search rules) c.index-in-loop-place.ensures in
    let fields = seen_at (λ x. rows_of x.items) r.fields.items k c.index-in-loop-place-2.result.now (search rules) c.index-in-loop-place-2.ensures in
    let own = seen_at (λ x. rows_of x.items) c.args.own.now k c.index-own-place.result (search rules) c.index-own-place.is in
    ended_next c.args.script.now c.args.rows.now (map (λ x. rows_of x.items) c.args.own.now) (report_view r) k row (rows_of c.index-own-place.result.items) c.index.result.now c.index-in-loop-place.result.now.view (rows_of c.index-in-loop-place-2.result.now.items) c.loop-place.invariant at own journal checkpoint fields (search rules)

pub returns : goal.returns
returns c = λ yes.
    (let r = c.args.report.now in
    all_ended c.args.script.now c.args.rows.now (map (λ x. rows_of x.items) c.args.own.now) (report_view r) c.loop-place.place (search rules) c.loop-place.invariant (search rules) (search (rules, length-map)) (search rules) (search (rules, length-map)) (search (rules, length-map)))
