-- How many lines end in a part of a text.
use Rattle.std.proofs.Common.{◌≤◌, ℕ, List, take}
use Rattle.std.specs.Prelude.{cond}
use Rattle.std.proofs.lemmas.List.Sums.{sum_by-take-le}
use Rattle.swift_translation.specs.Lines.{feeds, is_feed}

pub feeds_before : (text : List ℕ) (place : ℕ) → feeds (take place text) ≤ feeds text
feeds_before text place = sum_by-take-le (λ b. cond (is_feed b) 1 0) text place
