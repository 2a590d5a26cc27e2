use Rattle.nuchapay_runs.proofs.Prelude.{◌≡◌, ◌∙◌, ℕ, List, [], ◌∷◌, ◌++◌, Vec, map, take, take_all, sym, ap, arith, Global, map_more, map_push, TurnValues, broken_text, broken_texts}
use Rattle.nuchapay_runs.proofs.broken.broken_invariants.Goals as goal

pub loop-turn-preserved : goal.loop-turn-preserved
loop-turn-preserved c =
    let p = c.args.script.now in
    let e = c.args.executor.0 in
    let turns = c.args.turns.now in
    let k = c.loop-turn.turn-index in
    let text = c.in_ok-broken.field-0 in
    let items = λ (v : Vec ℕ Global). v.items in
    let said = λ (v : TurnValues). broken_text p e v.outcome in
    let same = c.in_ok-broken.ensures ∙ ap said c.turn-item.is in
    ap (λ (all : List (Vec ℕ Global)). map items all) c.in_ok-push.ensures.items
    ∙ map_push items c.loop-turn.texts.items text
    ∙ ap (λ (before : List (List ℕ)). before ++ text.items ∷ []) c.loop-turn.invariant
    ∙ ap (λ (last : List ℕ). broken_texts p e (take k turns) ++ last ∷ []) same
    ∙ sym (map_more said turns k c.turn-item.result c.loop-turn-test.true)

pub returns : goal.returns
returns c =
    let p = c.args.script.now in
    c.loop-turn.invariant ∙ ap (λ (all : List TurnValues). broken_texts p c.args.executor.0 all) (take_all c.loop-turn.turn-index c.args.turns.now (omega (arith, c.loop-turn-test.false)))
