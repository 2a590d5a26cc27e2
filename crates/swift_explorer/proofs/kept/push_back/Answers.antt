use Rattle.swift_explorer.proofs.Prelude.{◌≡◌, ◌∙◌, List, ◌++◌, append-nil, drop, length, reverse, sym, ap, arith, drop_all, Move, Add}
use Rattle.swift_explorer.proofs.Nodes.{back_more}
use Rattle.swift_explorer.proofs.kept.push_back.Goals as goal

pub left-init : goal.left-init
left-init c =
    let moves = c.args.moves.now in
    let path = c.args.path.now.items in
    record { low = omega arith; path = sym (append-nil path) ∙ ap (λ (ms : List Move). path ++ reverse ms) (sym (drop_all (length moves) moves (omega arith))) }

pub left-preserved : goal.left-preserved
left-preserved c =
    let old = c.left.invariant in
    let few = old.low in
    record { low = omega (arith, few); path = back_more c.args.path.now.items c.left.path.items c.push.new.self.items c.args.moves.now c.left.left Add c.left-test.true few old.path c.in_ok-push.ensures.items }

pub returns : goal.returns
returns c =
    let old = c.left.invariant in
    let none : c.left.left ≡ 0 = omega (arith, c.left-test.false) in
    old.path ∙ ap (λ n. c.args.path.now.items ++ reverse (drop n c.args.moves.now)) none
