use Rattle.swift_explorer.proofs.Prelude.{◌≡◌, ◌<◌, List, ◌++◌, length, reverse, Some, slice_get, Move, paths_of}
use Rattle.swift_explorer.proofs.search.path_to.Given as goal

-- the steps so far, last first, come after those to the node that is at
abbrev pub invariant-back : goal.invariant-back
invariant-back l = record {
  inside : l.at < length l.nodes;
  path : (q : List Move) × (slice_get (paths_of l.nodes) l.at ≡ Some q) × (slice_get (paths_of l.nodes) l.place ≡ Some (q ++ reverse l.path.items));
}

abbrev pub decreases-back : goal.decreases-back
decreases-back l = l.at
