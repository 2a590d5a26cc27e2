use Rattle.swift_explorer.proofs.Prelude.{◌≡◌, ℕ, ◌+◌, ◌-◌, ◌∙◌, ◌∷◌, ◌++◌, [], ap, arith, get_or, map, pos, reverse, sym, take, length-map, get_or-map, frame_numbers, frame_view, some_numbers, with_counts}
use Rattle.swift_explorer.proofs.Steps.{two_writes}
use Rattle.swift_explorer.proofs.Written.{caller_step}
use Rattle.swift_explorer.proofs.frames.put_callers.Goals as goal

pub callers-preserved : goal.callers-preserved
callers-preserved c =
    let old = c.callers.invariant in
    let top = frame_view c.args.top.now in
    let frame = c.index-callers-left.result in
    let i = c.callers.left - 1 in
    let inside = old.inside in
    let some = c.callers-test.true in
    let many = length-map c.args.callers.now frame_view in
    let on : i + 1 ≡ c.callers.left = omega (arith, some) in
    let at : get_or (map frame_view c.args.callers.now) i (frame_view frame) ≡ frame_view frame =
    get_or-map frame_view c.args.callers.now i frame (frame_view frame) (omega (arith, inside, some)) ∙ ap frame_view (sym c.index-callers-left.is) in
    record {
      inside = omega (arith, inside);
      written = caller_step (with_counts top) (map frame_view c.args.callers.now) i (frame_view frame) (frame_view frame) c.callers.key.items c.put_frame_as.new.key.items (omega (arith, inside, some, many)) at
          (two_writes _ _ _ (pos 1 ∷ []) _ c.in_ok-push.ensures.items c.in_ok-put_frame_as.ensures)
          ∙ ap (λ (n : ℕ). c.callers.key.items ++ some_numbers frame_numbers (map (with_counts top) (reverse (take n (map frame_view c.args.callers.now))))) on
          ∙ old.written;
    }
