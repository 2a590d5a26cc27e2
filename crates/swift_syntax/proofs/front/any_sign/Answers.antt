use Rattle.std.proofs.Common.{◌≡◌, ℕ, ◌-◌, ◌≤◌, List, [], ◌∷◌, length, get_or, take, drop, Some}
use Rattle.std.proofs.Common.{take_all, ap, sym, ◌∙◌, arith}
use Rattle.swift_syntax.specs.declared.front.Piece.{Piece}
use Rattle.swift_syntax.specs.declared.front.Piece.TheVariants.{Token}
use Rattle.swift_syntax.specs.declared.sign.Sign.{Sign}
use Rattle.swift_syntax.specs.declared.token.TokenKind.TheVariants as kind
use Rattle.swift_syntax.specs.Fronts.{sign_at, triple_of, tripled}
use Rattle.swift_syntax.proofs.front.any_sign.Goals as goal

-- a sign of three bytes, and what is behind them
before_triple : (a : ℕ) (s : Sign) (bs : List ℕ) → 2 ≤ length bs → triple_of a (get_or bs 0 0) (get_or bs 1 0) ≡ Some s
    → let f : Piece × List ℕ = (Token (kind.Sign s), take (length bs - 2) (drop 2 bs)) in f ≡ sign_at a bs
unfolding sign_at
before_triple a s [] l is = absurd (omega (arith, l))
before_triple a s (b ∷ []) l is = absurd (omega (arith, l))
before_triple a s (b ∷ c ∷ bs) l is =
    ap (λ (rest : List ℕ). let f : Piece × List ℕ = (Token (kind.Sign s), rest) in f)
    (take_all (length (b ∷ c ∷ bs) - 2) bs (omega arith))
    ∙ sym (ap (λ o. tripled o a b c bs) is)

pub returns-in-Some-clause-front : goal.returns-in-Some-clause-front
returns-in-Some-clause-front c =
    rw c.sign.ensures (before_triple c.args.first c.in-Some.found c.args.rest.now c.in-len2-up.len_at_least (sym c.triple.ensures ∙ c.in-Some.is))
