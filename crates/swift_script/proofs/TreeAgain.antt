-- A printed form tells the tree that was printed.
use Rattle.swift_script.proofs.Prelude.{◌≡◌, ℕ, zero, suc, ◌≤◌, List, [], ◌∷◌, length, Option, Some, None, Result, ap, refl, ◌∙◌, arith, TokenView, front_leaves, DeclTree, NESTING, decls_at, printed, ScriptView, script_in, declarations_of, script_again, SpellsDecls, WasAccepted, with_piece, pieces_within, decls_or_none}
use Rattle.script_tokens.specs.Lexes.{front_at, Lexes, at_end, separated, next_is}
use Rattle.script_parser.specs.declared.fault.ParseFault.{ParseFault}
use Rattle.script_parser.proofs.DeclarationsComplete.{decls_again}
use Rattle.swift_script.specs.TreeInside.{tree_in}
use Rattle.swift_script.proofs.Printing.{decls_again as printed_again}

none_within : (n : ℕ) → pieces_within n [] ≡ []
none_within zero = refl
none_within (suc n) = refl

-- a front and what is after it, as pieces
abbrev from_front : ℕ → Option TokenView × List ℕ → List TokenView
from_front n f = with_piece f.0 (pieces_within n f.1)

shorter : (n b : ℕ) (bs rest : List ℕ) (p : Option TokenView) → length (b ∷ bs) ≤ suc n → front_at b bs ≡ (p, rest) → length rest ≤ n
shorter n b bs rest p within e = omega (arith, within, front_leaves b bs, ap (λ (f : Option TokenView × List ℕ). length f.1) e)

pieces_again : {text : List ℕ} {ps : List TokenView} (n : ℕ) → length text ≤ n → Lexes text ps → pieces_within n text ≡ ps
pieces_again n within at_end = none_within n
pieces_again zero within (separated {b = b} {bs = bs} {rest = rest} {ps = ps} e d) = absurd (omega (arith, within))
pieces_again zero within (next_is {b = b} {bs = bs} {rest = rest} {p = p} {ps = ps} e d) = absurd (omega (arith, within))
pieces_again (suc n) within (separated {b = b} {bs = bs} {rest = rest} {ps = ps} e d) = ap (from_front n) e ∙ pieces_again n (shorter n b bs rest None within e) d
pieces_again (suc n) within (next_is {b = b} {bs = bs} {rest = rest} {p = p} {ps = ps} e d) =
    ap (from_front n) e ∙ ap (λ (qs : List TokenView). p ∷ qs) (pieces_again n (shorter n b bs rest (Some p) within e) d)

-- what a text spells is what is read in it
tree_of_spelled : (text : List ℕ) (decls : List DeclTree) → SpellsDecls NESTING text decls → tree_in text ≡ script_in decls
unfolding tree_in
tree_of_spelled text decls s =
    ap (λ (ps : List TokenView). script_in (decls_or_none (decls_at NESTING ps))) (pieces_again (length text) (omega arith) s.lexed)
    ∙ ap (λ (r : Result (List DeclTree × List TokenView) ParseFault). script_in (decls_or_none r)) (decls_again NESTING s.pieces decls s.spelled)

pub tree_again : (t : ScriptView) (text : List ℕ) → WasAccepted t → text ≡ printed t → tree_in text ≡ t
tree_again t text was is =
    ap tree_in is ∙ tree_of_spelled (printed t) (declarations_of t) (printed_again was.0 t was.1) ∙ script_again t
