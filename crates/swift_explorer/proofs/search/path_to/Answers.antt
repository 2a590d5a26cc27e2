use Rattle.swift_explorer.proofs.Prelude.{◌≡◌, ◌∙◌, ℕ, List, ◌++◌, append-nil, reverse, sym, subst, ap, arith, Some, slice_get, Move, paths_of}
use Rattle.swift_explorer.proofs.Nodes.{first_none, one_back, path_there}
use Rattle.swift_explorer.proofs.search.path_to.Goals as goal

pub back-init : goal.back-init
back-init c =
    let q = path_there c.args.nodes.now c.args.place c.requires.there in
    record { inside = c.requires.there; path = (q.0, q.1, q.1 ∙ ap Some (sym (append-nil q.0)) ∙ ap (λ (ms : List Move). Some (q.0 ++ reverse ms)) (sym c.new-path.ensures.items)) }

pub push_steps-requires : goal.push_steps-requires
push_steps-requires c = c.back.invariant.inside

pub back-preserved : goal.back-preserved
back-preserved c =
    let ns = c.args.nodes.now in
    let old = c.back.invariant in
    let made = c.in_ok-at.ensures in
    let back = one_back ns c.back.at c.args.place made.0 old.path.0 c.back.path.items c.requires.on c.back-test.true made.1 old.path.1 old.path.2 in
    let inside = old.inside in
    let less = back.0 in
    let before = made.2 in
    record {
      inside = omega (arith, inside, less, before);
      path = (
        back.1.0,
        subst (λ (k : ℕ). slice_get (paths_of ns) k ≡ Some back.1.0) (sym before) back.1.1,
        back.1.2 ∙ ap (λ (ms : List Move). Some (back.1.0 ++ reverse ms)) (sym made.3),
      );
    }

pub back-smaller : goal.back-smaller
back-smaller c =
    let old = c.back.invariant in
    let made = c.in_ok-at.ensures in
    let less = (one_back c.args.nodes.now c.back.at c.args.place made.0 old.path.0 c.back.path.items c.requires.on c.back-test.true made.1 old.path.1 old.path.2).0 in
    let before = made.2 in
    omega (arith, less, before)

pub returns : goal.returns
returns c =
    let old = c.back.invariant in
    let zero : c.back.at ≡ 0 = omega (arith, c.back-test.false) in
    let none = first_none c.args.nodes.now old.path.0 (subst (λ (k : ℕ). slice_get (paths_of c.args.nodes.now) k ≡ Some old.path.0) zero old.path.1) in
    old.path.2 ∙ ap (λ (q : List Move). Some (q ++ reverse c.back.path.items)) none ∙ ap Some (sym c.reverse.ensures.items)
