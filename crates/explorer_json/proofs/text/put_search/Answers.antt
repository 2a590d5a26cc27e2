use Rattle.explorer_json.proofs.Prelude.{ℕ, List, ◌++◌, ap, sym, refl, ◌∙◌, append_assoc, codes, decimal, six_joined, end_json, to_go_json, broken_json}
use Rattle.explorer_json.proofs.text.put_search.Goals as goal

pub returns : goal.returns
returns c =
    let f = c.args.found.now in
    let x0 = c.args.out.now.items in
    let x1 = c.say.new.out.items in
    six_joined c.put_broken.result x0 x1 (x1 ++ codes ",\"states\":") c.labelled.new.out.items c.put_to_go.new.out.items c.say-2.new.out.items c.put_broken.new.out.items
    (end_json f) (codes ",\"states\":") (decimal f.states) (to_go_json f) (codes ",\n\"undone\":") (broken_json f.broken)
    (c.in_ok-say.ensures ∙ ap (λ (t : List ℕ). x0 ++ t) c.end_of.ensures)
    refl
    (c.in_ok-labelled.ensures ∙ sym (append_assoc x1 (codes ",\"states\":") (decimal f.states)))
    c.in_ok-put_to_go.ensures c.in_ok-say-2.ensures c.put_broken.ensures
