use Rattle.std.proofs.Common.{◌≡◌, ℕ, ◌-◌, ◌≤◌, List, [], ◌∷◌, length, get_or, take, drop, Option, Some}
use Rattle.std.proofs.Common.{take_all, ap, sym, ◌∙◌, arith}
use Rattle.script_tokens.specs.declared.mark.Mark.{Mark}
use Rattle.script_tokens.specs.Lexes.{mark_at, pair_of, paired}
use Rattle.script_tokens.specs.Pieces.{TokenView, Sign}
use Rattle.script_tokens.proofs.front.mark.Goals as goal

-- a mark of two bytes, and what is behind them
before_pair : (a : ℕ) (m : Mark) (bs : List ℕ) → 1 ≤ length bs → pair_of a (get_or bs 0 0) ≡ Some m
    → let f : Option TokenView × List ℕ = (Some (Sign m), take (length bs - 1) (drop 1 bs)) in f ≡ mark_at a bs
unfolding mark_at
before_pair a m [] l is = absurd (omega (arith, l))
before_pair a m (b ∷ bs) l is =
    ap (λ (rest : List ℕ). let f : Option TokenView × List ℕ = (Some (Sign m), rest) in f)
    (take_all (length (b ∷ bs) - 1) bs (omega arith))
    ∙ sym (ap (λ o. paired o a b bs) is)

pub returns-in-Some-pair-clause-front : goal.returns-in-Some-pair-clause-front
returns-in-Some-pair-clause-front c =
    before_pair c.args.first c.in-Some-pair.mark c.args.rest.now c.in-len1-up.len_at_least (sym c.pair.ensures ∙ c.in-Some-pair.is)
