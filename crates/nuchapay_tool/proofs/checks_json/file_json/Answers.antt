use Rattle.std.proofs.Common.{◌∙◌, refl}
use Rattle.std.specs.Prelude.{Result, Ok, Err, IfOk}
use Rattle.nuchapay_tool.proofs.checks_json.file_json.Goals as goal

map_ok : {A E : Type 0} (r : Result A E) (P Q : A → Type 0) → ((x : A) → P x → Q x) → IfOk r P → IfOk r Q
map_ok (Ok x) P Q f is = f x is
map_ok (Err e) P Q f is = tt

pub returns : goal.returns
returns c = map_ok c.concat.result _ _ (λ said is.
    is ∙ (rw (c.as_slice.ensures, c.as_str.ensures.value, c.as_str-2.ensures.value, c.as_str-3.ensures.value, c.as_str-4.ensures.value, c.in_ok-code.ensures, c.in_ok-place.ensures, c.in_ok-said.ensures) refl)) c.concat.ensures.ok
