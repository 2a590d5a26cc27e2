-- What was read where one token was taken.
use Rattle.script_parser.proofs.Prelude.{◌≡◌, ℕ, zero, suc, Bool, true, false, cond, eqb, List, [], ◌∷◌, Some, Ok, Err, refl, sym, ap, ◌∙◌, eqb-true, ParseFault, Mark, TokenView, Name, Sign, code_of}
use Rattle.script_tokens.specs.declared.mark.Mark.TheVariants as mark
use Rattle.script_parser.specs.Model.Parts.{name_at, sign_at, brace_at, close_at}
use Rattle.script_parser.proofs.Steps.{ok_is, some_is}

-- the mark of a number
abbrev mark_at : ℕ → Mark
mark_at zero = mark.Open
mark_at (suc zero) = mark.Close
mark_at (suc (suc zero)) = mark.OpenBrace
mark_at (suc (suc (suc zero))) = mark.CloseBrace
mark_at (suc (suc (suc (suc zero)))) = mark.Semicolon
mark_at (suc (suc (suc (suc (suc zero))))) = mark.Comma
mark_at (suc (suc (suc (suc (suc (suc zero)))))) = mark.Dot
mark_at (suc (suc (suc (suc (suc (suc (suc zero))))))) = mark.Assign
mark_at (suc (suc (suc (suc (suc (suc (suc (suc zero)))))))) = mark.Bang
mark_at (suc (suc (suc (suc (suc (suc (suc (suc (suc zero))))))))) = mark.Plus
mark_at (suc (suc (suc (suc (suc (suc (suc (suc (suc (suc zero)))))))))) = mark.Minus
mark_at (suc (suc (suc (suc (suc (suc (suc (suc (suc (suc (suc zero))))))))))) = mark.Times
mark_at (suc (suc (suc (suc (suc (suc (suc (suc (suc (suc (suc (suc zero)))))))))))) = mark.Equal
mark_at (suc (suc (suc (suc (suc (suc (suc (suc (suc (suc (suc (suc (suc zero))))))))))))) = mark.Unequal
mark_at (suc (suc (suc (suc (suc (suc (suc (suc (suc (suc (suc (suc (suc (suc zero)))))))))))))) = mark.Less
mark_at (suc (suc (suc (suc (suc (suc (suc (suc (suc (suc (suc (suc (suc (suc (suc zero))))))))))))))) = mark.AtMost
mark_at (suc (suc (suc (suc (suc (suc (suc (suc (suc (suc (suc (suc (suc (suc (suc (suc zero)))))))))))))))) = mark.Greater
mark_at (suc (suc (suc (suc (suc (suc (suc (suc (suc (suc (suc (suc (suc (suc (suc (suc (suc zero))))))))))))))))) = mark.AtLeast
mark_at (suc (suc (suc (suc (suc (suc (suc (suc (suc (suc (suc (suc (suc (suc (suc (suc (suc (suc zero)))))))))))))))))) = mark.And
mark_at (suc (suc (suc (suc (suc (suc (suc (suc (suc (suc (suc (suc (suc (suc (suc (suc (suc (suc (suc zero))))))))))))))))))) = mark.Or
mark_at _ = mark.At

mark_at-code_of : (m : Mark) → mark_at (code_of m) ≡ m
mark_at-code_of mark.Open = refl
mark_at-code_of mark.Close = refl
mark_at-code_of mark.OpenBrace = refl
mark_at-code_of mark.CloseBrace = refl
mark_at-code_of mark.Semicolon = refl
mark_at-code_of mark.Comma = refl
mark_at-code_of mark.Dot = refl
mark_at-code_of mark.Assign = refl
mark_at-code_of mark.Bang = refl
mark_at-code_of mark.Plus = refl
mark_at-code_of mark.Minus = refl
mark_at-code_of mark.Times = refl
mark_at-code_of mark.Equal = refl
mark_at-code_of mark.Unequal = refl
mark_at-code_of mark.Less = refl
mark_at-code_of mark.AtMost = refl
mark_at-code_of mark.Greater = refl
mark_at-code_of mark.AtLeast = refl
mark_at-code_of mark.And = refl
mark_at-code_of mark.Or = refl
mark_at-code_of mark.At = refl

same_mark : (a b : Mark) → code_of a ≡ code_of b → a ≡ b
same_mark a b e = sym (mark_at-code_of a) ∙ ap mark_at e ∙ mark_at-code_of b

chosen_mark : (b : Bool) (f : ParseFault) (ts rest : List TokenView) → cond b (Ok ts) (Err f) ≡ Ok rest → (b ≡ true) × (ts ≡ rest)
chosen_mark true f ts rest e = (refl, ok_is ts rest e)
chosen_mark false f ts rest e = absurd cc

pub sign_is : (m : Mark) (ts rest : List TokenView) → sign_at m ts ≡ Ok rest → ts ≡ Sign m ∷ rest
unfolding sign_at
sign_is m [] rest e = absurd cc
sign_is m (Sign found ∷ ts) rest e =
    let c = chosen_mark (eqb (code_of found) (code_of m)) _ ts rest e in
    ap (λ (k : Mark). Sign k ∷ ts) (same_mark found m (eqb-true _ _ c.0)) ∙ ap (λ (w : List TokenView). Sign m ∷ w) c.1
sign_is m (_ ∷ ts) rest e = absurd cc

pub name_is : (ts : List TokenView) (x : List ℕ × List TokenView) → name_at ts ≡ Ok x → ts ≡ Name x.0 ∷ x.1
unfolding name_at
name_is [] x e = absurd cc
name_is (Name n ∷ ts) x e = ap (λ (y : List ℕ × List TokenView). Name y.0 ∷ y.1) (ok_is (n, ts) x e)
name_is (_ ∷ ts) x e = absurd cc

pub brace_is : (ts rest : List TokenView) → brace_at ts ≡ Some rest → ts ≡ Sign mark.CloseBrace ∷ rest
unfolding brace_at
brace_is [] rest e = absurd cc
brace_is (Sign mark.CloseBrace ∷ ts) rest e = ap (λ (w : List TokenView). Sign mark.CloseBrace ∷ w) (some_is ts rest e)
brace_is (_ ∷ ts) rest e = absurd cc

pub brace_now : (rest : List TokenView) → brace_at (Sign mark.CloseBrace ∷ rest) ≡ Some rest
unfolding brace_at
brace_now rest = refl

pub close_is : (ts rest : List TokenView) → close_at ts ≡ Some rest → ts ≡ Sign mark.Close ∷ rest
unfolding close_at
close_is [] rest e = absurd cc
close_is (Sign mark.Close ∷ ts) rest e = ap (λ (w : List TokenView). Sign mark.Close ∷ w) (some_is ts rest e)
close_is (_ ∷ ts) rest e = absurd cc

pub close_now : (rest : List TokenView) → close_at (Sign mark.Close ∷ rest) ≡ Some rest
unfolding close_at
close_now rest = refl
