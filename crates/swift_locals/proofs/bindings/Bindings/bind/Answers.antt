use Rattle.std.proofs.Common.{◌≡◌, ℕ, List, None, ◌∷◌, reverse, get_or, arith, subst, sym, ap, ◌∙◌, rules, ℤ, w64, to_z, of_z}
use Rattle.std.proofs.lemmas.List.{get_or_read}
use Rattle.swift_locals.specs.BindingsInside.{pairs_of, AreChained, IsTable}
use Rattle.swift_locals.specs.declared.bindings.BindingEntry.{BindingEntry}
use Rattle.swift_locals.proofs.Chain.{chained_push, pairs_push, table_pushed, table_same}
use Rattle.swift_locals.proofs.bindings.Bindings.bind.Goals as goal

pub invariant_of-self-in_err-push : goal.invariant_of-self-in_err-push
invariant_of-self-in_err-push c =
    let items = c.in_err-push.ensures.items in
    let table = table_same _ _ c.reach.new.table.items c.self.invariant.newest c.reach.ensures.same in
    record {
      chained = subst (λ (s : List BindingEntry). AreChained (reverse s)) (sym items) c.self.invariant.chained;
      newest = subst (λ (s : List BindingEntry). IsTable (reverse s) c.reach.new.table.items) (sym items) table;
    }

pub invariant_of-self-2 : goal.invariant_of-self-2
invariant_of-self-2 c =
    let items = c.in_ok-push.ensures.items in
    let reached = c.in_ok-reach.ensures.reached in
    let table = table_same _ _ c.reach.new.table.items c.self.invariant.newest c.reach.ensures.same in
    let read : c.index-below.result.now ≡ get_or c.reach.new.table.items c.args.local.0 None = get_or_read c.reach.new.table.items c.args.local.0 c.index-below.result.now (omega (arith, reached)) c.index-below.ensures None in
    record {
      chained = chained_push _ _ _ items c.self.invariant.chained (read ∙ table.at c.args.local.0);
      newest = table_pushed _ _ _ c.reach.new.table.items c.len-place.result items (search rules) table (omega (arith, reached));
    }

pub returns-clause-ok : goal.returns-clause-ok
returns-clause-ok c =
    let value : to_z w64 (of_z w64 c.args.value) ≡ c.args.value = search rules in
    pairs_push _ _ _ c.in_ok-push.ensures.items
    ∙ ap (λ (v : ℤ). (c.args.local.0, v) ∷ pairs_of c.self.inside.entries.items) value
    ∙ ap (λ (s : List (ℕ × ℤ)). (c.args.local.0, c.args.value) ∷ s) c.self.view_is
