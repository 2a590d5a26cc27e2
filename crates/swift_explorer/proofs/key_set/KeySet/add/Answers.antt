use Rattle.swift_explorer.proofs.Prelude.{◌≡◌, ◌⊎◌, ◌↔◌, ℕ, List, Contains, subst}
use Rattle.swift_explorer.proofs.KeySets.{bytes_of, put_keys}
use Rattle.swift_explorer.proofs.key_set.KeySet.add.Goals as goal

pub returns-clause-ok : goal.returns-clause-ok
returns-clause-ok c = λ k.
    subst (λ (keys : List (List ℕ)). Contains (bytes_of c.insert.new.self.keys) k ↔ (Contains keys k ⊎ (c.args.key.bytes.items ≡ k))) c.self.view_is
    (put_keys c.self.inside.set c.insert.new.self c.args.key c.in_ok-insert.field-0 c.in_ok-insert.ensures.keys c.in_ok-insert.ensures.added k)
