use Rattle.swift_explorer.proofs.Prelude.{◌≤◌, length, subst, ExplorationView}
use Rattle.swift_explorer.proofs.Growing.{nodes_grown}
use Rattle.swift_explorer.proofs.exploration.Exploration.advance.Goals as goal

pub returns-clause-kept : goal.returns-clause-kept
returns-clause-kept c =
    let old = c.self.inside.search in
    let new = c.go_through.new.self in
    subst (λ (v : ExplorationView). v.kept ≤ length new.nodes) c.self.view_is (nodes_grown old new c.in_ok-next.ensures.grown)
