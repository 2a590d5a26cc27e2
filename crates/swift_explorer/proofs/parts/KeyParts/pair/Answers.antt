use Rattle.swift_explorer.proofs.Prelude.{ℕ, List, subst, AreParts}
use Rattle.swift_explorer.proofs.PartsKnown.{group_grown, parts_grown, parts_split}
use Rattle.swift_explorer.proofs.parts.KeyParts.pair.Goals as goal

pub returns-clause-pair : goal.returns-clause-pair
returns-clause-pair c = λ key are.
    (let x = c.args.self.now in
    let y = c.group.new.self in
    let z = c.group-2.new.self in
    let second = c.split_at.result.1.now in
    let s = parts_split x c.split_at.result.0.now second key (subst (λ (ns : List ℕ). AreParts x ns key) c.split_at.ensures.by_index.0 are) in
    let left = c.in_ok-left.ensures in
    let right = c.in_ok-right.ensures in
    (s.0, s.1, group_grown y z c.in_ok-left.left s.0 right.grown (left.group s.0 s.2), right.group s.1 (parts_grown x y second s.1 left.grown s.3), s.4))
