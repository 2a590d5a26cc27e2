use Rattle.std.proofs.Common.{◌≡◌, ℕ, List, ◌∷◌, drop, arith, sym, ap, ◌∙◌, ℤ}
use Rattle.swift_locals.specs.BindingsInside.{pair_of, pairs_of}
use Rattle.swift_locals.proofs.Chain.{chained_pop, table_shown, table_within, table_pop, pairs_push}
use Rattle.swift_locals.proofs.bindings.Bindings.unbind.Goals as goal

pub index_mut-requires : goal.index_mut-requires
index_mut-requires c =
    let within = table_within _ _ _ (table_shown _ _ _ _ c.in-Some.ensures.items c.self.invariant.newest) in
    omega (arith, within)

pub invariant_of-self : goal.invariant_of-self
invariant_of-self c =
    let items = c.in-Some.ensures.items in
    let chained = chained_pop _ _ _ items c.self.invariant.chained in
    record {
      chained = chained.1;
      newest = table_pop _ _ _ (table_shown _ _ _ _ items c.self.invariant.newest) chained.0;
    }

pub returns-in-Some : goal.returns-in-Some
returns-in-Some c =
    let shown : pairs_of c.self.inside.entries.items ≡ pair_of c.in-Some.last ∷ pairs_of c.pop.new.self.items = pairs_push _ _ _ c.in-Some.ensures.items in
    ap (λ (s : List (ℕ × ℤ)). drop 1 s) (sym shown ∙ c.self.view_is)
