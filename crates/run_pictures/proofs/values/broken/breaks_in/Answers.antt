use Rattle.run_pictures.proofs.Prelude.{◌≡◌, ◌<◌, ◌≤◌, ◌+◌, true, false, length, drop, get_or, min, arith, rules, sym, ◌∙◌, cond-true, cond-false, breaks_in, is_broke, values_views}
use Rattle.run_pictures.proofs.Breaks.{turn_more, turns_end}
use Rattle.run_pictures.proofs.Ranges.{first_of}
use Rattle.run_pictures.proofs.values.broken.breaks_in.Goals as goal

pub returns-then-is_turn : goal.returns-then-is_turn
returns-then-is_turn c =
    let t = c.args.task.0 in
    let n = c.args.number in
    let rs = c.args.journal.now in
    let vs = c.args.values.now in
    let i = c.loop-place.place in
    let v = c.index-values-place.result in
    let within : i < length rs = omega (arith, c.loop-place-test.true, c.min-place-end.ensures, c.len.ensures.len) in
    let below : i < length vs = omega (arith, c.loop-place-test.true, c.min-place-end.ensures) in
    let rest = breaks_in t n (drop (i + 1) rs) (values_views (drop (i + 1) vs)) in
    let here : c.is_turn.result ≡ true = search rules in
    c.is_broke.ensures
    ∙ sym (turn_more t n i rs vs (first_of rs i within) v c.is_turn.result within below c.is_turn.ensures ∙ cond-true c.is_turn.result (is_broke (get_or vs i v).outcome) rest here)
    ∙ c.loop-place.invariant

pub loop-place-preserved : goal.loop-place-preserved
loop-place-preserved c =
    let t = c.args.task.0 in
    let n = c.args.number in
    let rs = c.args.journal.now in
    let vs = c.args.values.now in
    let i = c.loop-place.place in
    let within : i < length rs = omega (arith, c.loop-place-test.true, c.min-place-end.ensures, c.len.ensures.len) in
    let below : i < length vs = omega (arith, c.loop-place-test.true, c.min-place-end.ensures) in
    let v = first_of vs i below in
    let rest = breaks_in t n (drop (i + 1) rs) (values_views (drop (i + 1) vs)) in
    let other : c.is_turn.result ≡ false = search rules in
    sym (turn_more t n i rs vs (first_of rs i within) v c.is_turn.result within below c.is_turn.ensures ∙ cond-false c.is_turn.result (is_broke (get_or vs i v).outcome) rest other)
    ∙ c.loop-place.invariant

pub returns : goal.returns
returns c =
    let rs = c.args.journal.now in
    let vs = c.args.values.now in
    let i = c.loop-place.place in
    let past : min (length rs) (length vs) ≤ i = omega (arith, c.loop-place-test.false, c.min-place-end.ensures, c.len.ensures.len) in
    sym (turns_end c.args.task.0 c.args.number i rs vs past) ∙ c.loop-place.invariant
