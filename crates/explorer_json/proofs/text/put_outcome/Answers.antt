use Rattle.explorer_json.proofs.Prelude.{◌≡◌, ◌+◌, List, ◌++◌, ap, sym, refl, ◌∙◌, append_assoc, codes, decimal, onto, six_joined, comma, ended_json, schedule_json}
use Rattle.explorer_json.proofs.text.put_outcome.Goals as goal

pub returns : goal.returns
returns c =
    let p = c.args.script.now in
    let o = c.args.outcome.now in
    let x0 = c.args.out.now.items in
    let x1 = c.comma.new.out.items in
    let x2 = c.labelled.new.out.items in
    let x3 = c.say.new.out.items in
    let first = comma 0 c.args.place in
    let label = codes "\n{\"outcome\":" in
    let number = decimal (c.args.place + 1) in
    let numbered : x2 ≡ x0 ++ ((first ++ label) ++ number) =
    onto x0 (x1 ++ label) x2 (first ++ label) number (onto x0 x1 (x1 ++ label) first label c.in_ok-comma.ensures refl) (c.in_ok-labelled.ensures ∙ sym (append_assoc x1 label number)) in
    six_joined c.say-3.result x0 x2 x3 c.put_schedule.new.out.items c.say-2.new.out.items c.put_ended.new.out.items c.say-3.new.out.items
    ((first ++ label) ++ number) (codes ",\"schedule\":") (schedule_json o.schedule.items) (codes ",\n\"end\":") (ended_json p o) (codes "}")
    numbered c.in_ok-say.ensures
    (c.in_ok-put_schedule.ensures ∙ ap (λ (ms : List _). x3 ++ schedule_json ms) c.deref.ensures.value)
    c.in_ok-say-2.ensures c.in_ok-put_ended.ensures c.say-3.ensures
