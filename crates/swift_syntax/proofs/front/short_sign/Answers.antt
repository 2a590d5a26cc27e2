use Rattle.std.proofs.Common.{◌≡◌, ℕ, ◌-◌, ◌≤◌, List, [], ◌∷◌, length, get_or, take, drop, Some}
use Rattle.std.proofs.Common.{take_all, ap, sym, ◌∙◌, arith}
use Rattle.swift_syntax.specs.declared.front.Piece.{Piece}
use Rattle.swift_syntax.specs.declared.front.Piece.TheVariants.{Token}
use Rattle.swift_syntax.specs.declared.sign.Sign.{Sign}
use Rattle.swift_syntax.specs.declared.token.TokenKind.TheVariants as kind
use Rattle.swift_syntax.specs.Fronts.{short_at, pair_of, paired}
use Rattle.swift_syntax.proofs.front.short_sign.Goals as goal

-- a sign of two bytes, and what is behind them
before_pair : (a : ℕ) (s : Sign) (bs : List ℕ) → 1 ≤ length bs → pair_of a (get_or bs 0 0) ≡ Some s
    → let f : Piece × List ℕ = (Token (kind.Sign s), take (length bs - 1) (drop 1 bs)) in f ≡ short_at a bs
before_pair a s [] l is = absurd (omega (arith, l))
before_pair a s (b ∷ bs) l is =
    ap (λ (rest : List ℕ). let f : Piece × List ℕ = (Token (kind.Sign s), rest) in f)
    (take_all (length (b ∷ bs) - 1) bs (omega arith))
    ∙ sym (ap (λ o. paired o a b bs) is)

pub returns-in-Some-clause-front : goal.returns-in-Some-clause-front
returns-in-Some-clause-front c =
    rw c.sign.ensures (before_pair c.args.first c.in-Some.found c.args.rest.now c.in-len1-up.len_at_least (sym c.pair.ensures ∙ c.in-Some.is))
