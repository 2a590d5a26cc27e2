-- A text has one list of tokens.
use Rattle.std.proofs.Common.{◌≡◌, ℕ, Bool, true, false, List, ◌∷◌, refl, sym, ap, subst, ◌∙◌}
use Rattle.swift_syntax.specs.Lexes.{StandAt, none_left, space_here, line_here, one_here, token_between}
use Rattle.swift_syntax.specs.declared.front.Piece.{Piece}
use Rattle.swift_syntax.specs.declared.front.Piece.TheVariants as piece
use Rattle.swift_syntax.specs.declared.token.Token.{Token}
use Rattle.swift_syntax.specs.declared.token.TokenKind.{TokenKind}

same_rest : (x y : Piece × List ℕ) → x ≡ y → x.1 ≡ y.1
same_rest x y e = ap (λ (p : Piece × List ℕ). p.1) e

same_first : (x y : Piece × List ℕ) → x ≡ y → x.0 ≡ y.0
same_first x y e = ap (λ (p : Piece × List ℕ). p.0) e

pub unique : {text rest : List ℕ} {line space : Bool} {a : List Token} (b : List Token) → StandAt text rest line space a → StandAt text rest line space b → a ≡ b
unique b none_left none_left = refl
unique {text = text} b (space_here {b = c} {bs = bs} {rest = rest} {line = l} {space = s} {ts = ts} e d) (space_here {b = c'} {bs = bs'} {rest = rest'} {line = l'} {space = s'} {ts = ts'} e' d') =
    let same : rest' ≡ rest = same_rest (piece.Space, rest') (piece.Space, rest) (sym e' ∙ e) in
    unique ts' d (subst (λ (r : List ℕ). StandAt text r l true ts') same d')
unique {text = text} b (line_here {b = c} {bs = bs} {rest = rest} {line = l} {space = s} {ts = ts} e d) (line_here {b = c'} {bs = bs'} {rest = rest'} {line = l'} {space = s'} {ts = ts'} e' d') =
    let same : rest' ≡ rest = same_rest (piece.Line, rest') (piece.Line, rest) (sym e' ∙ e) in
    unique ts' d (subst (λ (r : List ℕ). StandAt text r true true ts') same d')
unique {text = text} b (one_here {b = c} {bs = bs} {rest = rest} {line = l} {space = s} {k = k} {ts = ts} e d) (one_here {b = c'} {bs = bs'} {rest = rest'} {line = l'} {space = s'} {k = k'} {ts = ts'} e' d') =
    let same : rest' ≡ rest = same_rest (piece.Token k', rest') (piece.Token k, rest) (sym e' ∙ e) in
    let first : piece.Token k ≡ piece.Token k' = same_first (piece.Token k, rest) (piece.Token k', rest') (sym e ∙ e') in
    let kinds : k ≡ k' = cc in
    let others : ts ≡ ts' = unique ts' d (subst (λ (r : List ℕ). StandAt text r false false ts') same d') in
    ap (λ (t : List Token). token_between text (c ∷ bs) rest k l s ∷ t) others
    ∙ ap (λ (r : List ℕ). token_between text (c ∷ bs) r k l s ∷ ts') (sym same)
    ∙ ap (λ (i : TokenKind). token_between text (c ∷ bs) rest' i l s ∷ ts') kinds
unique b (space_here {rest = rest} e d) (line_here {rest = rest'} e' d') =
    let first : piece.Space ≡ piece.Line = same_first (piece.Space, rest) (piece.Line, rest') (sym e ∙ e') in
    absurd cc
unique b (line_here {rest = rest} e d) (space_here {rest = rest'} e' d') =
    let first : piece.Line ≡ piece.Space = same_first (piece.Line, rest) (piece.Space, rest') (sym e ∙ e') in
    absurd cc
unique b (space_here {rest = rest} e d) (one_here {rest = rest'} {k = k'} e' d') =
    let first : piece.Space ≡ piece.Token k' = same_first (piece.Space, rest) (piece.Token k', rest') (sym e ∙ e') in
    absurd cc
unique b (one_here {rest = rest} {k = k} e d) (space_here {rest = rest'} e' d') =
    let first : piece.Token k ≡ piece.Space = same_first (piece.Token k, rest) (piece.Space, rest') (sym e ∙ e') in
    absurd cc
unique b (line_here {rest = rest} e d) (one_here {rest = rest'} {k = k'} e' d') =
    let first : piece.Line ≡ piece.Token k' = same_first (piece.Line, rest) (piece.Token k', rest') (sym e ∙ e') in
    absurd cc
unique b (one_here {rest = rest} {k = k} e d) (line_here {rest = rest'} e' d') =
    let first : piece.Token k ≡ piece.Line = same_first (piece.Token k, rest) (piece.Line, rest') (sym e ∙ e') in
    absurd cc
