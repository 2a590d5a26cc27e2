use Rattle.swift_executor.proofs.Prelude.{rules, ◌≡◌, ◌*◌, ◌∷◌, ap, sym, ◌∙◌, DeskView, has_found, image_of, TakenView, taken_of}
use Rattle.swift_executor.proofs.exec.Exec.close.Goals as goal

pub returns-in-Run-clause-moved : goal.returns-in-Run-clause-moved
returns-in-Run-clause-moved g c =
    let r = c.in-Run.resting in
    let p = c.into_parts-state.result in
    let same = c.into_parts-state.ensures.same in
    let found : c.begin_last-desk.result.0 ≡ has_found (2 * c.in-Run.pending ∷ c.args.desk.found) (image_of r ∷ c.args.desk.moved) c.args.desk = search rules in
    let is : r ≡ taken_of p.0 r.taker p.2 p.3 = ap (λ (x : TakenView). taken_of x.state r.taker x.seat x.is_orderly) (sym same) in
    (r.taker, ap (λ (d : DeskView). d.moved) found ∙ ap (λ (x : TakenView). image_of x ∷ c.args.desk.moved) is)
