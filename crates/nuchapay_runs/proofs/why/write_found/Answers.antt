use Rattle.nuchapay_runs.proofs.Prelude.{ℤ, List, map, ap, ◌∙◌, pair_of, Binding, names_view, bindings_text, variables_text}
use Rattle.nuchapay_runs.proofs.Bound.{own_turned}
use Rattle.nuchapay_runs.proofs.Joined.{both, same}
use Rattle.nuchapay_runs.proofs.why.write_found.Goals as goal

pub returns : goal.returns
returns c =
    let p = c.args.names.now.script.now in
    let variables = ap (λ (vs : List ℤ). variables_text (names_view c.args.names.now) 0 vs) c.deref.ensures.value in
    let own = ap (λ (bs : List Binding). bindings_text p (map pair_of bs)) c.deref-2.ensures.value ∙ own_turned p c.args.found.now.frame.own.items in
    both (both (both c.write_given.ensures (same variables c.write_variables.ensures)) c.write_outer.ensures) (same own c.write_own.ensures)
