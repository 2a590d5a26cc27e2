use Rattle.std.proofs.Common.{◌∙◌, refl}
use Rattle.std.specs.Prelude.{Result, Ok, Err, IfOk}
use Rattle.std.specs.String.{string_bytes}
use Rattle.nuchapay_tool.proofs.checks_json.refused_json.Goals as goal

map_ok : {A E : Type 0} (r : Result A E) (P Q : A → Type 0) → ((x : A) → P x → Q x) → IfOk r P → IfOk r Q
map_ok (Ok x) P Q f is = f x is
map_ok (Err e) P Q f is = tt

pub returns : goal.returns
returns c = map_ok c.concat.result _ _ (λ said is. record {
  fault = c.args.fault;
  page = c.page_of-page.result.now;
  cause = c.requires.cause;
  at = c.requires.place;
  named = c.page_of-page.ensures;
  file = string_bytes c.in_ok-name.name;
  expected = string_bytes c.in_ok-advice.advice.expected;
  help = string_bytes c.in_ok-advice.advice.help;
  helps = c.in_ok-advice.ensures.help;
  second = c.in_ok-advice.advice.second;
  on_token = c.in_ok-advice.ensures.second;
  fix = string_bytes c.in_ok-fix.fix;
  is = is ∙ (rw (c.as_slice.ensures, c.as_str.ensures.value, c.as_str-2.ensures.value, c.as_str-3.ensures.value, c.as_str-4.ensures.value, c.as_str-5.ensures.value, c.as_str-6.ensures.value, c.in_ok-code.ensures, c.in_ok-place.ensures, c.in_ok-said.ensures, c.in_ok-second.ensures, c.mark_of-mark.ensures) refl);
}) c.concat.ensures.ok
