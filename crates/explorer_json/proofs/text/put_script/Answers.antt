use Rattle.explorer_json.proofs.Prelude.{◌≡◌, ◌∙◌, ℕ, List, ◌++◌, subst, OnOk, sum_json}
use Rattle.explorer_json.proofs.text.put_script.Goals as goal

pub returns : goal.returns
returns c =
    subst (λ (sum : List ℕ). OnOk c.put_sum.result (c.put_sum.new.out.items ≡ c.args.out.now.items ++ sum_json sum))
    (c.as_bytes.ensures.value ∙ c.in_ok-sum.ensures) c.put_sum.ensures
