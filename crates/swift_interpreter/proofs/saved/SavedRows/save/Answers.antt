use Rattle.swift_interpreter.proofs.Prelude.{◌≡◌, ℕ, ℤ, ◌+◌, List, ◌∷◌, length, take, ap, ◌∙◌, arith, with_items_is, err_from_is_err_and, newest_first, SavedRow}
use Rattle.std.specs.Vec.{with_items}
use Rattle.swift_interpreter.proofs.saved.SavedRows.save.Goals as goal

pub returns-clause-ok : goal.returns-clause-ok
returns-clause-ok c =
    let used = c.self.inside.used in
    let rows : (with_items c.reach.new.rows c.set_row.new.rows).items ≡ c.set_row.new.rows =
    with_items_is c.reach.new.rows c.set_row.new.rows (omega arith) in
    let before = ap (λ (xs : List SavedRow). newest_first (take used xs)) c.deref_mut.ensures.value
    ∙ ap newest_first c.reach.ensures.older ∙ c.self.view_is in
    ap (λ (xs : List SavedRow). newest_first (take (used + 1) xs)) rows
    ∙ (c.in_ok-set_row.ensures.ok ∙ ap (λ (v : List (ℕ × List ℤ)). (c.args.actor, c.args.row.now) ∷ v) before)

pub returns-in_err-set_row-clause-err : goal.returns-in_err-set_row-clause-err
returns-in_err-set_row-clause-err c =
    let p = err_from_is_err_and c.from_residual-in_err-set_row.result c.from_residual-in_err-set_row.ensures.1 in
    let used = c.self.inside.used in
    let rows : (with_items c.reach.new.rows c.set_row.new.rows).items ≡ c.set_row.new.rows =
    with_items_is c.reach.new.rows c.set_row.new.rows (omega arith) in
    let before = ap (λ (xs : List SavedRow). newest_first (take used xs)) c.deref_mut.ensures.value
    ∙ ap newest_first c.reach.ensures.older ∙ c.self.view_is in
    rw p.1 (ap (λ (xs : List SavedRow). newest_first (take used xs)) rows ∙ (ap newest_first c.in_err-set_row.ensures.older ∙ before))

pub invariant_of-self : goal.invariant_of-self
invariant_of-self c = c.reach.ensures.within

pub returns-in_err-reach-clause-err : goal.returns-in_err-reach-clause-err
returns-in_err-reach-clause-err c =
    let p = err_from_is_err_and c.from_residual.result c.from_residual.ensures.1 in
    rw p.1 (ap newest_first c.reach.ensures.older ∙ c.self.view_is)

pub set_row-requires : goal.set_row-requires
set_row-requires c = omega (arith, c.in_ok-reach.ensures.ok, ap length c.deref_mut.ensures.value)

pub invariant_of-self-in_err-set_row : goal.invariant_of-self-in_err-set_row
invariant_of-self-in_err-set_row c =
    let rows : (with_items c.reach.new.rows c.set_row.new.rows).items ≡ c.set_row.new.rows =
    with_items_is c.reach.new.rows c.set_row.new.rows (omega arith) in
    omega (arith, c.in_ok-reach.ensures.ok, ap length rows, ap length c.deref_mut.ensures.value)

pub invariant_of-self-2 : goal.invariant_of-self-2
invariant_of-self-2 c =
    let rows : (with_items c.reach.new.rows c.set_row.new.rows).items ≡ c.set_row.new.rows =
    with_items_is c.reach.new.rows c.set_row.new.rows (omega arith) in
    omega (arith, c.in_ok-reach.ensures.ok, ap length rows, ap length c.deref_mut.ensures.value)
