-- What stands again after a block, and what is kept beside the names that stand.
use Rattle.std.specs.Prelude.{List, take, length}
use Rattle.script_names.specs.Scope.{ScopeView}
use Rattle.script_names.specs.declared.scope.Outside.{Outside}
use Rattle.script_compiler.specs.declared.lowering.counts.PlaceCounts.{PlaceCounts}
use Rattle.script_compiler.specs.Counts.{AreCounts}
use Rattle.script_compiler.specs.Few.{HasFewNames}

-- what stands outside a block in which this stands
abbrev pub outside_of : ScopeView → Outside
outside_of s = record { actor = s.actor; names = length s.names; bound = s.bound }

-- what stands after a block at whose end this stands
abbrev pub left : Outside → ScopeView → ScopeView
left o s = record s { actor = o.actor; names = take o.names s.names; kinds = take o.names s.kinds; bound = o.bound }

-- The counts are kept before each name that stands and after the last, and the script declares few names.
pub record IsCounted (s : ScopeView) (counts : List PlaceCounts) (here : PlaceCounts) : Type 0 where
  pub are : AreCounts s.kinds counts here
  pub few : HasFewNames s.directory
