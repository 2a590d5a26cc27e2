use Rattle.nuchapay.proofs.Prelude.{rules, ◌<◌, ◌∙◌, ap, inl, inr, length, refl, sym, subst, slice_get_read, arc_value, IsAccepted, ScriptView}
use Rattle.explorer_differences.specs.Difference.{difference_text}
use Rattle.nuchapay.proofs.differences.pair_compared.Goals as goal

pub returns-in_default : goal.returns-in_default
returns-in_default c = record {
  script = arc_value c.in_ok-script.script;
  accepted = subst (IsAccepted c.args.text.now) (sym c.in_ok-script.ensures.ok) c.in_ok-read.ensures.found;
  none = record { found = c.in_ok-found.found; is = c.in_ok-found.ensures; counted = search rules; other = search rules };
  asked = inl refl;
}

pub returns-in_default-place_of : goal.returns-in_default-place_of
returns-in_default-place_of c = record {
  script = arc_value c.in_ok-script.script;
  accepted = subst (IsAccepted c.args.text.now) (sym c.in_ok-script.ensures.ok) c.in_ok-read.ensures.found;
  none = record { found = c.in_ok-found.found; is = c.in_ok-found.ensures; counted = search rules; other = search rules };
  asked = inr refl;
}

pub returns : goal.returns
returns c =
    let found = c.in_ok-found.found in
    let a = c.in-Some.first in
    let b = c.in-Some-place_of.second in
    let first_in : a < length found.outcomes.items = search rules in
    let second_in : b < length found.outcomes.items = search rules in
    record {
      script = arc_value c.in_ok-script.script;
      found = found;
      of = record { accepted = subst (IsAccepted c.args.text.now) (sym c.in_ok-script.ensures.ok) c.in_ok-read.ensures.found; is = c.in_ok-found.ensures };
      first = c.index.result.now;
      first_there = record { place = a; numbered = search rules; there = slice_get_read found.outcomes.items _ a c.index.result.now refl first_in c.index.ensures };
      second = c.index-2.result.now;
      second_there = record { place = b; numbered = search rules; there = slice_get_read found.outcomes.items _ b c.index-2.result.now refl second_in c.index-2.ensures };
      printed = c.in_ok-said.ensures ∙ ap (λ (p : ScriptView). difference_text p c.args.pair.first c.args.pair.second c.index.result.now c.index-2.result.now) c.deref.ensures;
    }
