-- How many of a turn's effects are of a kind, one more at a time.
use Rattle.swift_certificate.proofs.Prelude.{◌≡◌, ℕ, ◌+◌, ◌<◌, Bool, true, false, List, length, get_or, take, sym, ap, ◌∙◌, arith, count_by, take-map, get_or-map, length-map, effect_view, effect_views, EffectView, Effect}
use Rattle.std.proofs.lemmas.List.Sums.{count_by_more_no, count_by_more_yes}

-- of the effect at this place, and so of those up to it
pub counted_more : (p : EffectView → Bool) (es : List Effect) (k : ℕ) (e : Effect) → k < length es → e ≡ get_or es k e →
    (p (effect_view e) ≡ true → count_by p (effect_views (take (k + 1) es)) ≡ count_by p (effect_views (take k es)) + 1)
    × (p (effect_view e) ≡ false → count_by p (effect_views (take (k + 1) es)) ≡ count_by p (effect_views (take k es)))
counted_more p es k e lt is =
    let vs = effect_views es in
    let v = effect_view e in
    let there : k < length vs = omega (arith, lt, length-map es effect_view) in
    let at = ap p (get_or-map effect_view es k e v lt ∙ ap effect_view (sym is)) in
    let one = ap (count_by p) (take-map effect_view (k + 1) es) in
    let before = ap (count_by p) (take-map effect_view k es) in (
      (λ yes. sym one ∙ count_by_more_yes p vs k v there (at ∙ yes) ∙ ap (λ n. n + 1) before),
      (λ no. sym one ∙ count_by_more_no p vs k v there (at ∙ no) ∙ before),
    )
