use Rattle.swift_shared_book.proofs.Prelude.{rules, sym, ap, ◌∙◌, Some, ◌∷◌, rest}
use Rattle.swift_shared_book.proofs.lock.Lock.empty.Goals as goal

pub exchange-requires : goal.exchange-requires
exchange-requires g c =
    let full = c.requires.full in
    (search rules, (Some full.0, full.1 ∙ sym (ap (λ m. (0, Some full.0) ∷ rest m) full.1)))
