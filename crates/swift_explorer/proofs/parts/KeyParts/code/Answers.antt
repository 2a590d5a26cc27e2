use Rattle.swift_explorer.proofs.Prelude.{ℕ, List, sym, subst, ◌∙◌, AreParts}
use Rattle.swift_explorer.proofs.PartsKnown.{half_grown, parts_grown, parts_split}
use Rattle.swift_explorer.proofs.parts.KeyParts.code.Goals as goal

pub returns-clause-code : goal.returns-clause-code
returns-clause-code c =
    let key = c.args.key.now in
    let x = c.parts.new.self in
    let y = c.half.new.self in
    let z = c.half-2.new.self in
    let second = c.split_at.result.1.now in
    let s = parts_split x c.split_at.result.0.now second key (subst (λ (ns : List ℕ). AreParts x ns key) (sym c.deref.ensures.value ∙ c.split_at.ensures.by_index.0) c.in_ok-parts.ensures.parts) in
    let left = c.in_ok-left.ensures in
    let right = c.in_ok-right.ensures in
    (s.0, s.1, half_grown y z c.in_ok-left.left s.0 right.grown (left.half s.0 s.2), right.half s.1 (parts_grown x y second s.1 left.grown s.3), s.4)
