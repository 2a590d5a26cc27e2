use Rattle.nuchapay_runs.proofs.Prelude.{◌≡◌, ℕ, sym, ap, subst, ◌∙◌, method_actor, method_code, RecordView, owned_view}
use Rattle.script_code.specs.Instructions.{FollowsCode}
use Rattle.script_code.specs.Layout.{code_at}
use Rattle.nuchapay_runs.proofs.explained.turn_text.Goals as goal

pub why_text-requires-clause-actor : goal.why_text-requires-clause-actor
why_text-requires-clause-actor c =
    let r = owned_view c.in_ok-found.found in
    let same : c.args.method.0 ≡ r.frame.method = c.requires.of_method r ∙ sym (ap (λ (x : RecordView). x.frame.method) (c.in_ok-found.ensures r)) in
    c.method_actor-actor.ensures ∙ ap (λ (m : ℕ). method_actor c.args.script.now m) same

pub why_text-requires-clause-instructions : goal.why_text-requires-clause-instructions
why_text-requires-clause-instructions c =
    let p = c.args.script.now in
    let r = owned_view c.in_ok-found.found in
    let same : c.args.method.0 ≡ r.frame.method = c.requires.of_method r ∙ sym (ap (λ (x : RecordView). x.frame.method) (c.in_ok-found.ensures r)) in
    subst (λ (m : ℕ). FollowsCode c.instructions-instructions.result.now (method_code p m) (code_at (method_code p m))) same c.instructions-instructions.ensures
