use Rattle.swift_explorer.proofs.Prelude.{◌≡◌, ◌++◌, ◌∷◌, [], ℕ, List, length, ap, ◌∙◌, arith, NodeView}
use Rattle.swift_explorer.specs.declared.kept.Node.{Node}
use Rattle.swift_explorer.proofs.KeptNodes.{views_push}
use Rattle.swift_explorer.proofs.kept.Nodes.push.Goals as goal

pub returns : goal.returns
returns c =
    let steps = c.self.inside.steps.items in
    let all = c.extend_from_slice.new.self.items in
    let moves = c.args.moves.now in
    let n : Node = record { before = c.in_ok-short.field-0; begins = c.in_ok-begins.begins; ends = c.in_ok-short-2.field-0 } in
    let begins : n.begins ≡ length steps = omega (arith, c.in_ok-begins.ensures, c.len.ensures) in
    let ends : n.ends ≡ length all = omega (arith, c.in_ok-short-2.ensures, c.len-2.ensures) in
    views_push steps moves all c.self.inside.nodes.items c.push.new.self.items n c.self.invariant c.in_ok-extend_from_slice.ensures.items c.in_ok-push.ensures.items begins ends
    ∙ ap (λ (vs : List NodeView). vs ++ record { before = n.before; moves = moves } ∷ []) c.self.view_is
    ∙ ap (λ (b : ℕ). c.args.self.now ++ record { before = b; moves = moves } ∷ []) c.in_ok-short.ensures
