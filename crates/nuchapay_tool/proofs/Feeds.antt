-- A line has no line feed.
use Rattle.std.proofs.Common.{◌≡◌, ◌<◌, ◌≤◌, ℕ, Bool, false, List, length, refl, sym, subst, ◌∙◌, ap, arith}
use Rattle.std.specs.Prelude.{◌==◌, Option, Some, None}
use Rattle.std.specs.List.{position_or_len}
use Rattle.std.specs.Str.{IsTrimAsciiEnd}
use Rattle.std.proofs.lemmas.Grind.{common_steps}
use Rattle.std.proofs.lemmas.List.{get_or-take, length-take-le}
use Rattle.std.proofs.lemmas.List.Elements.{All-take}
use Rattle.std.proofs.lemmas.List.Quantifiers.{position-Some}
use Rattle.std.proofs.lemmas.List.Sums.{fails_before_first}
use Rattle.nuchapay_tool.specs.LayoutsInside.{HasNoFeed}
use Rattle.nuchapay_tool.specs.Sources.{before_feed, feed_in}

abbrev is_feed : ℕ → Bool
is_feed b = b == 10

-- before the first one there is none
none_before : (text : List ℕ) (o : Option ℕ) → feed_in text ≡ o → HasNoFeed (before_feed o text)
none_before text None is k d lt =
    let past : length text ≤ position_or_len is_feed text = grind (arith, common_steps) in
    fails_before_first is_feed text k d (omega (arith, past, lt))
none_before text (Some i) is k d lt =
    let found = position-Some is_feed text i d is in
    let below : k < i = omega (arith, lt, found.0, length-take-le i text) in
    ap is_feed (get_or-take i text k d below) ∙ found.2 k below

-- the first line
pub line_has_none : (text line : List ℕ) → line ≡ before_feed (feed_in text) text → HasNoFeed line
line_has_none text line is = subst HasNoFeed (sym is) (none_before text (feed_in text) refl)

-- a line without white space at its end
pub trimmed_has_none : (line trimmed : List ℕ) → HasNoFeed line → IsTrimAsciiEnd line trimmed → HasNoFeed trimmed
trimmed_has_none line trimmed none is = subst HasNoFeed (sym is.1) (All-take (λ b. is_feed b ≡ false) is.0 line none)
