use Rattle.swift_explorer.proofs.Prelude.{rules, ◌≡◌, ◌∙◌, ℤ, [], Vec, arith, length, map, refl, sym, subst, ap, length-map, Global, arc_value, rows_of, ScriptView, starts, IsFollowed, AreFirst}
use Rattle.swift_explorer.proofs.First.{few_used, first_fields, first_many, none_used}
use Rattle.swift_explorer.proofs.history.SearchedHistory.new.Goals as goal

pub returns-clause-first : goal.returns-clause-first
returns-clause-first c =
    let script = arc_value c.args.script.now in
    let seen = λ (rows : Vec (Vec ℤ Global) Global). rows_of rows.items in
    let steps = c.in_ok-steps.steps in
    let fields = c.in_ok-fields.fields.items in
    let made = c.in_ok-steps.ensures in
    let first : AreFirst script (map seen fields) = search rules in
    let here : AreFirst script (map seen steps.fields.items) = ap (λ (fs : Vec (Vec (Vec ℤ Global) Global) Global). map seen fs.items) made.fields ∙ first in
    let many : c.len.result ≡ length fields = omega (arith, c.len.ensures) in
    let followed : IsFollowed script (starts script) [] steps = subst (λ (s : ScriptView). IsFollowed s (starts script) [] steps) made.script (made.first.starts (starts script) (first_fields script (map seen steps.fields.items) here)) in
    record {
      blocks = [];
      steps = tt;
      roots = made.first.roots_are;
      is = record {
        orderly = tt;
        none_folded = λ e. refl;
        many = first_many script (map seen steps.fields.items) here;
        used = none_used c.in_ok-used.used.items _ c.in_ok-used.ensures;
        short = few_used script c.in_ok-used.used.items (map seen fields) _ c.in_ok-used.ensures (many ∙ sym (length-map fields seen)) first;
        followed = followed;
        read = ([], [], followed.led.log_is, c.new-digest.ensures);
      };
    }
