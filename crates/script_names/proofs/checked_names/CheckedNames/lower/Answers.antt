use Rattle.script_names.proofs.Prelude.{◌≡◌, ◌∙◌, ap, min, get_or, length, arith, get_or_default}
use Rattle.std.proofs.lemmas.List.Edits.{map_over_more}
use Rattle.script_names.proofs.checked_names.CheckedNames.lower.Goals as goal

pub loop-count-preserved : goal.loop-count-preserved
loop-count-preserved c =
    let whole : length c.deref_mut-count-items.result.now ≡ length c.args.self.now = ap length c.deref_mut-count-items.ensures.value ∙ ap length c.self.view_is in
    let old = get_or c.loop-count.count-items c.loop-count.count-index 0 in
    rw (c.min.ensures) (map_over_more (min c.args.names) c.args.self.now c.loop-count.count-items c.loop-count.count-index old (omega (arith, whole)) c.loop-count.invariant (get_or_default c.loop-count.count-items c.loop-count.count-index 0 old (omega arith)))
