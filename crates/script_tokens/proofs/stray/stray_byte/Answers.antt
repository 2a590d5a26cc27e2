use Rattle.std.proofs.Common.{◌≡◌, true, false, arith, refl}
use Rattle.std.proofs.lemmas.Grind.{common_steps}
use Rattle.script_tokens.specs.Bytes.{is_text, is_text_byte}
use Rattle.script_tokens.proofs.Texts.{all_pass, one_fails}
use Rattle.script_tokens.proofs.stray.stray_byte.Goals as goal

pub returns-else-place-text-clause-found : goal.returns-else-place-text-clause-found
returns-else-place-text-clause-found c =
    let passes : is_text c.args.text.now ≡ true = all_pass is_text_byte c.args.text.now (grind (arith, common_steps)) in
    (λ e. cc, λ e. cc)

pub returns-then-place-text-clause-found : goal.returns-then-place-text-clause-found
returns-then-place-text-clause-found c =
    let fails : is_text c.args.text.now ≡ false = one_fails is_text_byte c.args.text.now (grind (arith, common_steps)) in
    (λ e. fails, λ e. refl)
