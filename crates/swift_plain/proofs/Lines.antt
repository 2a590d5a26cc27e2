-- Bytes behind others.
use Rattle.std.proofs.Common.{◌∙◌, ap, ℕ, List, ◌++◌, append_assoc}
use Rattle.plain_parts.specs.declared.page.Page.{Page}
use Rattle.plain_parts.specs.Pages.{GoesOn}

pub then_goes : (p q r : Page) (v w : List ℕ) → GoesOn p q v → GoesOn q r w → GoesOn p r (v ++ w)
then_goes p q r v w before now = λ whole.
    let second = now whole in
    let first = before second.0 in
    (first.0, second.1 ∙ ap (λ bytes. bytes ++ w) first.1 ∙ append_assoc p.text.items v w)
