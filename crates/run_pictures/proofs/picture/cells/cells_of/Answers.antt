use Rattle.run_pictures.proofs.Prelude.{◌≡◌, ℕ, ◌-◌, ◌≤◌, ◌++◌, Bool, List, length, arith, sym, ap, ◌∙◌, subst, All, at_drop_all, Cell, AreOf, IsQuiet, cells_from, run_cells}
use Rattle.run_pictures.proofs.Celled.{all_are, all_quiet}
use Rattle.run_pictures.proofs.picture.cells.cells_of.Goals as goal

pub returns-clause-cells : goal.returns-clause-cells
returns-clause-cells c =
    let quiet = c.args.quiet.now in
    let k = c.loop-column.column in
    let run = c.loop-column.run in
    let old = c.loop-column.cells.items in
    let end : k ≡ length quiet = omega (arith, c.loop-column-test.false, c.loop-column.invariant.end, c.loop-column.auto.column-end) in
    let past : length quiet ≤ k = omega (arith, end) in
    c.in_ok-add_run.ensures
    ∙ ap (λ (n : ℕ). old ++ run_cells (n - run) run) (sym end)
    ∙ sym (ap (λ (cs : List Cell). old ++ cs) (at_drop_all (λ (qs : List Bool). cells_from (k - run) run qs) quiet k past))
    ∙ c.loop-column.invariant.cells

pub returns-clause-all : goal.returns-clause-all
returns-clause-all c = subst (λ (cs : List Cell). AreOf 0 cs (length c.args.quiet.now)) (sym (returns-clause-cells c)) (all_are c.args.quiet.now)

pub returns-clause-quiet : goal.returns-clause-quiet
returns-clause-quiet c = subst (All (IsQuiet c.args.quiet.now)) (sym (returns-clause-cells c)) (all_quiet c.args.quiet.now)
