use Rattle.swift_explorer.proofs.Prelude.{ℕ, List, subst, AreParts}
use Rattle.swift_explorer.proofs.PartsKnown.{pair_grown, parts_grown, parts_split}
use Rattle.swift_explorer.proofs.parts.KeyParts.half.Goals as goal

pub returns-clause-half : goal.returns-clause-half
returns-clause-half c = λ key are.
    (let x = c.args.self.now in
    let y = c.pair.new.self in
    let z = c.pair-2.new.self in
    let second = c.split_at.result.1.now in
    let s = parts_split x c.split_at.result.0.now second key (subst (λ (ns : List ℕ). AreParts x ns key) c.split_at.ensures.by_index.0 are) in
    let left = c.in_ok-left.ensures in
    let right = c.in_ok-right.ensures in
    (s.0, s.1, pair_grown y z c.in_ok-left.left s.0 right.grown (left.pair s.0 s.2), right.pair s.1 (parts_grown x y second s.1 left.grown s.3), s.4))
