use Rattle.explorer_json.proofs.Prelude.{◌≡◌, List, ◌++◌, subst, OnOk, codes, three_joined, search_json, meanings_json}
use Rattle.explorer_json.proofs.swift.put_head.Goals as goal

pub returns : goal.returns
returns c =
    let f = c.args.found.now in
    let x2 = c.say.new.out.items in
    let x3 = c.put_meanings.new.out.items in
    three_joined c.put_meanings.result c.args.out.now.items c.put_search.new.out.items x2 x3
    (search_json f) (codes ",\n\"swift\":[") (meanings_json 0 f.outcomes.items)
    c.in_ok-put_search.ensures c.in_ok-say.ensures
    (subst (λ (os : List _). OnOk c.put_meanings.result (x3 ≡ x2 ++ meanings_json 0 os)) c.deref.ensures.value c.put_meanings.ensures)
