-- Where tokens and refusals lie in a text (our own).
use Rattle.std.specs.Prelude.{ℕ, ◌≡◌, ◌<◌, ◌≤◌, List, length, Option, Some, None}
use Rattle.std.specs.List.{slice_get}
use Rattle.swift_syntax.specs.declared.rule.Breach.{Breach}
use Rattle.swift_syntax.specs.declared.rule.Refusal.{Refusal}
use Rattle.swift_syntax.specs.declared.rule.Rule.{Rule}
use Rattle.swift_syntax.specs.declared.rule.Rule.TheVariants as rule
use Rattle.swift_syntax.specs.declared.token.Token.{Token}

-- A token is some bytes of a text.
abbrev pub IsTokenOf : List ℕ → Token → Type 0
IsTokenOf text t = (t.from < t.to) × (t.to ≤ length text)

-- The bytes that a refusal blames lie in a text.
abbrev pub IsBlamedIn : List ℕ → Refusal → Type 0
IsBlamedIn text r = (r.from ≤ r.to) × (r.to ≤ length text)

-- the refusal that blames the bytes of a token; the end of a text where there is none
abbrev pub refusal_at : List ℕ → Rule → Option Token → Refusal
refusal_at text broken None = record { rule = broken; from = length text; to = length text }
refusal_at text broken (Some t) = record { rule = broken; from = t.from; to = t.to }

-- the refusal of a text with these tokens for a rule that one of them breaks
abbrev pub refusal_of : List ℕ → List Token → Breach → Refusal
refusal_of text tokens b = refusal_at text b.rule (slice_get tokens b.token)

-- The rule that is broken is that a file may not be too large.
abbrev pub IsTooLarge : Option Rule → Type 0
IsTooLarge broken = broken ≡ Some rule.TooLarge
