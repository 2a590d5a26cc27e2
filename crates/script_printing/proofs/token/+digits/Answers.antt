use Rattle.script_printing.proofs.Prelude.{◌++◌, ap, sym, ◌∙◌, arith, decimal_step}
use mathlib.Core.List.{append_assoc}
use Rattle.script_printing.proofs.token.+digits.Goals as goal

pub returns : goal.returns
returns t c =
    rw (c.in_ok-push-2.ensures.items, c.in_ok-digits.ensures) (append_assoc c.args.out.now.items _ _ ∙ ap (λ ds. c.args.out.now.items ++ ds) (sym (decimal_step c.args.number (omega arith) (omega arith))))
