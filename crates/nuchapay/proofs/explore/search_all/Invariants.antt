use Rattle.nuchapay.proofs.Prelude.{◌≡◌, ◌-◌, arc_value}
use Rattle.nuchapay.proofs.explore.search_all.Given as goal

abbrev pub invariant-parts : goal.invariant-parts
invariant-parts l = record {
  script : l.search.script ≡ arc_value l.script;
  limit : l.search.limit ≡ l.limit;
}

abbrev pub decreases-parts : goal.decreases-parts
decreases-parts l = l.limit - l.search.gone_on
