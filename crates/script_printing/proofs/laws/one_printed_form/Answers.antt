use Rattle.script_printing.proofs.Prelude.{◌≡◌, sym, ap, subst, ◌∙◌, Lexes, IsScript, pieces_of_script, printed, declarations_of, script_in}
use Rattle.script_printing.proofs.ByKind.{script_again}
use Rattle.script_printing.proofs.Lexed.{script_lexes}
use Rattle.script_printing.proofs.SpelledWhole.{script}
use Rattle.script_printing.proofs.laws.one_printed_form.Goals as goal

pub returns : goal.returns
returns c = λ limit one_script a b a_fits b_fits a_readable b_readable e.
    let b_lexed : Lexes (printed a) (pieces_of_script b) = subst (λ text. Lexes text (pieces_of_script b)) (sym e) (script_lexes b b_readable) in
    let tokens : pieces_of_script a ≡ pieces_of_script b = c.one_reading.ensures (printed a) (pieces_of_script a) (pieces_of_script b) (script_lexes a a_readable) b_lexed in
    let a_spelled : IsScript limit (pieces_of_script b) (declarations_of a) = subst (λ ts. IsScript limit ts (declarations_of a)) tokens (script limit a a_fits) in
    let decls : declarations_of a ≡ declarations_of b = one_script (pieces_of_script b) (declarations_of a) (declarations_of b) a_spelled (script limit b b_fits) in
    sym (script_again a) ∙ ap script_in decls ∙ script_again b
