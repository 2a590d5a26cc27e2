use Rattle.swift_certificate.proofs.Prelude.{◌∙◌, ℤ, List, [], ◌∷◌, ◌++◌, Vec, map, take, take_all, sym, ap, arith, Global, map_more, map_push, rows_of, CheckpointRoomView}
use Rattle.swift_certificate.proofs.replay.checkpoint_fields.Goals as goal

pub loop-checkpoint-preserved : goal.loop-checkpoint-preserved
loop-checkpoint-preserved c =
    let all = c.args.checkpoints.now in
    let k = c.loop-checkpoint.checkpoint-index in
    let copied = c.in_ok-copy_fields.field-0 in
    let f = λ (rows : Vec (Vec ℤ Global) Global). rows_of rows.items in
    let own = λ (d : CheckpointRoomView). d.view.fields in
    let same = c.in_ok-copy_fields.ensures ∙ c.fields.ensures ∙ ap own c.checkpoint-item.is in
    ap (map f) c.in_ok-push.ensures.items
    ∙ map_push f c.loop-checkpoint.fields.items copied
    ∙ ap (λ (front : List (List (List ℤ))). front ++ rows_of copied.items ∷ []) c.loop-checkpoint.invariant
    ∙ ap (λ (r : List (List ℤ)). map own (take k all) ++ r ∷ []) same
    ∙ sym (map_more own all k c.checkpoint-item.result c.loop-checkpoint-test.true)

pub returns : goal.returns
returns c = c.loop-checkpoint.invariant ∙ ap (map (λ (d : CheckpointRoomView). d.view.fields)) (take_all c.loop-checkpoint.checkpoint-index c.args.checkpoints.now (omega (arith, c.loop-checkpoint-test.false)))
