use Rattle.swift_interpreter.proofs.Prelude.{◌≡◌, ℤ, Option, Some, List, [], ◌∷◌, ◌++◌, ◌+◌, drop, append-nil, sym, ap, ◌∙◌, arith, rules, w64, to_z, of_z, at_drop_all, scene_of, terms_of, evs, in_front, Formula}
use Rattle.swift_interpreter.proofs.Arguments.{after, after_none, after_one, evs_from}
use Rattle.swift_interpreter.proofs.values.values.Goals as goal

pub loop-e-init : goal.loop-e-init
loop-e-init c =
    let all = evs (terms_of c.args.formulas.now) (scene_of c.args.sight) in
    ap (λ (vs : List ℤ). after vs all) c.new-vs.ensures.items ∙ after_none all

pub loop-e-preserved : goal.loop-e-preserved
loop-e-preserved c =
    let s = scene_of c.args.sight in
    let fs = c.args.formulas.now in
    let i = c.loop-e.e-index in
    let old = c.loop-e.vs.items in
    let v = c.in-Some.v in
    let rest = evs (terms_of (drop (i + 1) fs)) s in
    let value : to_z w64 (of_z w64 v) ≡ v = search rules in
    let here = evs_from fs i c.e-item.result s c.loop-e-test.true c.e-item.is ∙ ap (λ (x : Option ℤ). in_front x rest) (sym c.value.ensures ∙ c.in-Some.is) in
    ap (λ (vs : List ℤ). after vs rest) (c.in_ok-push.ensures.items ∙ ap (λ (z : ℤ). old ++ z ∷ []) value)
    ∙ (sym (after_one old v rest) ∙ (ap (after old) (sym here) ∙ c.loop-e.invariant))

pub returns : goal.returns
returns c =
    let s = scene_of c.args.sight in
    let vs = c.loop-e.vs.items in
    ap (λ (ws : List ℤ). Some ws) (sym (append-nil vs))
    ∙ (sym (at_drop_all (λ (es : List Formula). after vs (evs (terms_of es) s)) c.args.formulas.now c.loop-e.e-index c.loop-e-test.false) ∙ c.loop-e.invariant)
