use Rattle.explorer_json.proofs.Prelude.{ℕ, ◌+◌, ◌++◌, List, drop, sym, ap, ◌∙◌, append_assoc, at_drop_more, bytes_json}
use Rattle.explorer_json.proofs.string.put_bytes.Goals as goal

pub loop-place-preserved : goal.loop-place-preserved
loop-place-preserved c =
    let text = c.args.text.now in
    let k = c.loop-place.place in
    let old = c.loop-place.out.items in
    let rest = bytes_json (drop (k + 1) text) in
    ap (λ (xs : List ℕ). xs ++ rest) c.in_ok-put_byte.ensures
    ∙ append_assoc old _ rest
    ∙ sym (at_drop_more (λ bs. old ++ bytes_json bs) text k 0 c.loop-place-test.true)
    ∙ c.loop-place.invariant
