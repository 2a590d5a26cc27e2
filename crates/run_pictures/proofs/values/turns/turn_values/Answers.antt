use Rattle.run_pictures.proofs.Prelude.{◌<◌, ◌+◌, ◌++◌, ℤ, List, [], ◌∷◌, drop, length, append_assoc, sym, ap, ap₂, ◌∙◌, arith, at_drop_more, map_push, rows_of, RecordView, owned_view, TurnValues, ValuesView, values_from, values_view, values_views}
use Rattle.run_pictures.proofs.values.turns.turn_values.Goals as goal

pub loop-place-preserved : goal.loop-place-preserved
loop-place-preserved c =
    let script = c.args.script.now in
    let journal = c.args.journal.now in
    let i = c.loop-place.place in
    let fields = rows_of c.loop-place.player.fields.items in
    let next = rows_of c.play.new.self.fields.items in
    let r = owned_view c.in_ok-found.found in
    let turns = c.loop-place.turns.items in
    let v = c.in_ok-play.field-0 in
    let rest = drop (i + 1) journal in
    let within : i < length journal = omega (arith, c.loop-place-test.true, c.len-place-end.ensures) in
    record {
      values =
          ap (λ (ts : List TurnValues). values_views ts ++ values_from script next rest) c.in_ok-push.ensures.items
          ∙ ap (λ (vs : List ValuesView). vs ++ values_from script next rest) (map_push values_view turns v)
          ∙ append_assoc (values_views turns) (values_view v ∷ []) (values_from script next rest)
          ∙ ap₂ (λ (w : ValuesView) (f : List (List ℤ)). values_views turns ++ (w ∷ values_from script f rest)) c.in_ok-play.ensures.values c.in_ok-play.ensures.fields
          ∙ ap (λ (x : RecordView). values_views turns ++ values_from script fields (x ∷ rest)) (c.in_ok-found.ensures r)
          ∙ sym (at_drop_more (λ (l : List RecordView). values_views turns ++ values_from script fields l) journal i r within)
          ∙ c.loop-place.invariant.values;
      same = c.in_ok-play.ensures.same;
    }
