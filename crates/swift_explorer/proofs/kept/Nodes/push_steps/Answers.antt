use Rattle.swift_explorer.proofs.Prelude.{◌≡◌, ◌<◌, ◌++◌, ◌-◌, List, drop, length, reverse, take, refl, sym, subst, ap, ◌∙◌, arith, length-map, option_map, Some, slice_get, slice_get-get_or, slice_get-map, Move, NodeView, node_view}
use Rattle.swift_explorer.specs.declared.kept.Node.{Node}
use Rattle.swift_explorer.proofs.kept.Nodes.push_steps.Goals as goal

pub returns : goal.returns
returns c =
    let steps = c.self.inside.steps.items in
    let ns = c.self.inside.nodes.items in
    let n : Node = c.index-node.result.now in
    let low : c.args.place < length c.args.self.now = c.requires in
    let many = length-map ns (node_view steps) in
    let same = ap length c.self.view_is in
    let there : slice_get ns c.args.place ≡ Some n = slice_get-get_or ns c.args.place n (omega (arith, low, many, same)) ∙ ap Some (sym c.index-node.ensures) in (
      node_view steps n,
      subst (λ (vs : List NodeView). slice_get vs c.args.place ≡ Some (node_view steps n)) c.self.view_is (slice_get-map (node_view steps) ns c.args.place ∙ ap (option_map (node_view steps)) there),
      refl,
      c.in_ok-push_back.ensures ∙ ap (λ (l : List Move). c.args.path.now.items ++ reverse (take (n.ends - n.begins) (drop n.begins l))) c.deref.ensures.value,
    )
