-- A text has one list of pieces, and one list of their bytes.
use Rattle.std.proofs.Common.{◌≡◌, ℕ, List, ◌∷◌, Option, Some, None, refl, sym, ap, subst, ◌∙◌}
use Rattle.script_tokens.specs.Pieces.{TokenView}
use Rattle.script_tokens.specs.Lexes.{Lexes, at_end, separated, next_is}
use Rattle.script_tokens.specs.Spans.{between, StandAt, none_left, none_here, one_here}
use Rattle.script_tokens.specs.declared.span.Span.{Span}

-- what a text whose front is known reads as
same_rest : (x y : Option TokenView × List ℕ) → x ≡ y → x.1 ≡ y.1
same_rest x y e = ap (λ (p : Option TokenView × List ℕ). p.1) e

same_first : (x y : Option TokenView × List ℕ) → x ≡ y → x.0 ≡ y.0
same_first x y e = ap (λ (p : Option TokenView × List ℕ). p.0) e

pub unique : {bs : List ℕ} {a : List TokenView} (b : List TokenView) → Lexes bs a → Lexes bs b → a ≡ b
unique b at_end at_end = refl
unique b (separated {b = c} {bs = bs} {rest = rest} {ps = ls} e d) (separated {b = c'} {bs = bs'} {rest = rest'} {ps = ls'} e' d') =
    let same : rest' ≡ rest = same_rest (None, rest') (None, rest) (sym e' ∙ e) in
    unique ls' d (subst (λ (r : List ℕ). Lexes r ls') same d')
unique b (next_is {b = c} {bs = bs} {rest = rest} {p = l} {ps = ls} e d) (next_is {b = c'} {bs = bs'} {rest = rest'} {p = l'} {ps = ls'} e' d') =
    let same : rest' ≡ rest = same_rest (Some l', rest') (Some l, rest) (sym e' ∙ e) in
    let first : Some l ≡ Some l' = same_first (Some l, rest) (Some l', rest') (sym e ∙ e') in
    let others : ls ≡ ls' = unique ls' d (subst (λ (r : List ℕ). Lexes r ls') same d') in
    cc
unique b (separated {b = c} {bs = bs} {rest = rest} e d) (next_is {b = c'} {bs = bs'} {rest = rest'} {p = l'} e' d') =
    let first : None ≡ Some l' = same_first (None, rest) (Some l', rest') (sym e ∙ e') in
    absurd cc
unique b (next_is {b = c} {bs = bs} {rest = rest} {p = l} e d) (separated {b = c'} {bs = bs'} {rest = rest'} e' d') =
    let first : Some l ≡ None = same_first (Some l, rest) (None, rest') (sym e ∙ e') in
    absurd cc

pub unique_spans : {text rest : List ℕ} {a : List Span} (b : List Span) → StandAt text rest a → StandAt text rest b → a ≡ b
unique_spans b none_left none_left = refl
unique_spans {text = text} b (none_here {b = c} {bs = bs} {rest = rest} {ss = ss} e d) (none_here {b = c'} {bs = bs'} {rest = rest'} {ss = ss'} e' d') =
    let same : rest' ≡ rest = same_rest (None, rest') (None, rest) (sym e' ∙ e) in
    unique_spans ss' d (subst (λ (r : List ℕ). StandAt text r ss') same d')
unique_spans {text = text} b (one_here {b = c} {bs = bs} {rest = rest} {ss = ss} {p = p} e d) (one_here {b = c'} {bs = bs'} {rest = rest'} {ss = ss'} {p = p'} e' d') =
    let same : rest' ≡ rest = same_rest (Some p', rest') (Some p, rest) (sym e' ∙ e) in
    let others : ss ≡ ss' = unique_spans ss' d (subst (λ (r : List ℕ). StandAt text r ss') same d') in
    ap (λ (t : List Span). between text (c ∷ bs) rest ∷ t) others ∙ ap (λ (r : List ℕ). between text (c ∷ bs) r ∷ ss') (sym same)
unique_spans {text = text} b (none_here {b = c} {bs = bs} {rest = rest} e d) (one_here {b = c'} {bs = bs'} {rest = rest'} {p = p'} e' d') =
    let first : None ≡ Some p' = same_first (None, rest) (Some p', rest') (sym e ∙ e') in
    absurd cc
unique_spans {text = text} b (one_here {b = c} {bs = bs} {rest = rest} {p = p} e d) (none_here {b = c'} {bs = bs'} {rest = rest'} e' d') =
    let first : Some p ≡ None = same_first (Some p, rest) (None, rest') (sym e ∙ e') in
    absurd cc
