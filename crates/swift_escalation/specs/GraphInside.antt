-- What a graph's fields keep.
use Rattle.std.specs.Prelude.{◌≡◌, ◌+◌, ◌≤◌, length, vec_len, vec_capacity}
use Rattle.swift_escalation.specs.LevelsInside.{AreChained, IsSettled}
use Rattle.swift_escalation.specs.declared.graph.Graph.TheInside.{Inside}

pub record IsGraph (g : Inside) : Type 0 where
  pub chained : AreChained g.edges.items g.before.items g.newest.items
  pub same : length g.newest.items ≡ length g.levels.items
  pub settled : IsSettled g.edges.items g.levels.items
  pub empty : vec_len g.raised ≡ 0
  pub levels_room : vec_len g.levels + g.room ≤ vec_capacity g.levels
  pub newest_room : vec_len g.newest + g.room ≤ vec_capacity g.newest
  pub edges_room : vec_len g.edges + g.room ≤ vec_capacity g.edges
  pub before_room : vec_len g.before + g.room ≤ vec_capacity g.before
  pub raised_room : vec_len g.levels + g.room ≤ vec_capacity g.raised
