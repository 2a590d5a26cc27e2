-- The first form of two parts.
use Rattle.std.proofs.Common.{◌≡◌, refl, Option, Some, None}
use Rattle.plain_forms.specs.declared.form.Form.{Form}
use Rattle.plain_forms.specs.Forms.{earlier}

-- of three parts, it makes no difference which two are taken first
pub then_found : (a b c : Option Form) → earlier (earlier a b) c ≡ earlier a (earlier b c)
then_found None b c = refl
then_found (Some f) b c = refl

-- nothing is found in nothing
pub none_found : (a : Option Form) → earlier a None ≡ a
none_found None = refl
none_found (Some f) = refl
