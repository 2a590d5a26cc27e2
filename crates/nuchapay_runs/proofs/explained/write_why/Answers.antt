use Rattle.nuchapay_runs.proofs.Prelude.{◌≡◌, ℕ, List, ap, ◌∙◌, rows_of, values_view, names_view, fields_text, own_place, place_among}
use Rattle.nuchapay_runs.proofs.Joined.{both, same}
use Rattle.nuchapay_runs.proofs.explained.write_why.Goals as goal

pub returns : goal.returns
returns c =
    let t = c.args.turn.now in
    let place : c.place_among-actor.result ≡ own_place (names_view t.names) = c.place_among-actor.ensures ∙ ap (λ (l : List ℕ). place_among l t.names.actor.0) c.executor_actors.ensures in
    let fields = ap (λ (k : ℕ). fields_text t.names.script.now t.names.executor.0 k (rows_of t.before.now) (values_view t.own.now)) place in
    both (both (both c.write_head.ensures c.write_found.ensures) (same fields c.write_fields.ensures)) c.write_since.ensures
