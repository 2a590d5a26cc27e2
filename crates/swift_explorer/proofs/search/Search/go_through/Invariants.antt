use Rattle.swift_explorer.proofs.Prelude.{◌≡◌, ◌+◌, IsTrue, arc_value, HasGoneOn, HasGrown}
use Rattle.swift_explorer.proofs.search.Search.go_through.Given as goal

abbrev pub invariant-loop : goal.invariant-loop
invariant-loop l = record {
  grown : HasGrown l.fn.self l.self;
  gone_on : HasGoneOn (arc_value l.fn.self.script) l.self l.next;
  far : l.next ≡ l.from + l.counter;
  met : IsTrue l.self.met_limit → IsTrue l.fn.self.met_limit;
}
