-- The steps of nodes that were kept stay.
use Rattle.swift_explorer.proofs.Prelude.{◌≡◌, ◌≤◌, ◌-◌, ℕ, suc, List, [], ◌∷◌, ◌++◌, drop, length, map, take, refl, ap, ◌∙◌, arith, map-append, take_all, Move, AreWithin, NodeView, node_view}
use Rattle.std.proofs.Math.Seq.{drop-append_seam}
use Rattle.std.proofs.lemmas.List.{drop-append-le, length-append, length-drop, take-append-le}
use Rattle.swift_explorer.specs.declared.kept.Node.{Node}

view_more : (steps more : List Move) (n : Node) → n.begins ≤ n.ends → n.ends ≤ length steps → node_view (steps ++ more) n ≡ node_view steps n
view_more steps more n low within =
    let many = length-drop n.begins steps in
    let same : take (n.ends - n.begins) (drop n.begins (steps ++ more)) ≡ take (n.ends - n.begins) (drop n.begins steps) =
    ap (take (n.ends - n.begins)) (drop-append-le n.begins steps more (omega (arith, low, within))) ∙ take-append-le (n.ends - n.begins) (drop n.begins steps) more (omega (arith, many, low, within)) in
    λ i. record { before = n.before; moves = same i }

views_more : (steps more : List Move) (ns : List Node) → AreWithin steps ns → map (node_view (steps ++ more)) ns ≡ map (node_view steps) ns
views_more steps more [] all = refl
views_more steps more (n ∷ ns) all =
    let one = all 0 n (omega arith) in
    let first = view_more steps more n one.0 one.1 in
    let rest = views_more steps more ns (λ k d lt. all (suc k) d (omega (arith, lt))) in
    λ i. first i ∷ rest i

view_new : (steps moves all : List Move) (n : Node) → all ≡ steps ++ moves → n.begins ≡ length steps → n.ends ≡ length all → node_view all n ≡ record { before = n.before; moves = moves }
view_new steps moves all n is begins ends =
    let both = ap length is ∙ length-append steps moves in
    let same : take (n.ends - n.begins) (drop n.begins all) ≡ moves =
    ap (λ (k : ℕ). take (n.ends - n.begins) (drop k all)) begins ∙ ap (λ (ms : List Move). take (n.ends - n.begins) (drop (length steps) ms)) is
    ∙ ap (take (n.ends - n.begins)) (drop-append_seam steps moves) ∙ take_all (n.ends - n.begins) moves (omega (arith, both, begins, ends)) in
    λ i. record { before = n.before; moves = same i }

-- one more node, whose steps come after the others
pub views_push : (steps moves all : List Move) (ns ms : List Node) (n : Node) → AreWithin steps ns → all ≡ steps ++ moves → ms ≡ ns ++ n ∷ [] → n.begins ≡ length steps → n.ends ≡ length all
    → map (node_view all) ms ≡ map (node_view steps) ns ++ record { before = n.before; moves = moves } ∷ []
views_push steps moves all ns ms n within is more begins ends =
    ap (map (node_view all)) more ∙ map-append (node_view all) ns (n ∷ [])
    ∙ ap (λ (vs : List NodeView). vs ++ node_view all n ∷ []) (ap (λ (l : List Move). map (node_view l) ns) is ∙ views_more steps moves ns within)
    ∙ ap (λ (v : NodeView). map (node_view steps) ns ++ v ∷ []) (view_new steps moves all n is begins ends)
