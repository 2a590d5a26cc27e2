-- What is said to help at some bytes of a text that is refused (our own).
use Rattle.std.specs.Prelude.{◌≡◌, ◌⊎◌, ◌≤◌, ◌==◌, ℕ, Bool, Option, Some, None, List, [], length, map, min, nat_lt, slice_get, slice_range, if◌then◌else◌}
use Rattle.std.specs.List.{prefix_len}
use Rattle.script_tokens.specs.Lexes.{Lexes}
use Rattle.script_tokens.specs.Pieces.{piece}
use Rattle.script_tokens.specs.Spans.{StandAt}
use Rattle.script_context.specs.declared.blamed.Blamed.{Blamed}
use Rattle.script_hints.specs.Helps.{HelpsArguments, HelpsConfused, HelpsEnd, HelpsHuge, HelpsInvariant, HelpsLimit, HelpsRoot, HelpsStray, HelpsTwice, HelpsUnexpected, HelpsUnknown}
use Rattle.swift_script.specs.declared.fault.ScriptFaultKind.{ScriptFaultKind}
use Rattle.swift_script.specs.declared.fault.ScriptFaultKind.TheVariants as kind
use Rattle.script_tokens.specs.declared.span.Span.{Span}
use Rattle.nuchapay_tool.specs.declared.page.Page.{Page}
use Rattle.nuchapay_tool.specs.Sources.{shown_byte}

-- Some bytes of a text are one of its tokens, from its first byte to its last.
pub record IsOnToken (text : List ℕ) (span : Span) : Type 0 where
  pub spans : List Span
  pub stand : StandAt text text spans
  pub place : ℕ
  pub is : slice_get spans place ≡ Some span

-- Some bytes lie in a text.
abbrev pub IsWithin : List ℕ → Span → Type 0
IsWithin text s = (s.from ≤ s.to) × (s.to ≤ length text)

-- some bytes of a text, as far as they lie in it
abbrev pub bytes_of : List ℕ → Span → List ℕ
bytes_of text s = slice_range text (min s.from (min s.to (length text))) (min s.to (length text))

-- What hints are given of some bytes of a text: its tokens, how many begin before these bytes, and the bytes.
pub record IsBlamed (text : List ℕ) (span : Span) (b : Blamed) : Type 0 where
  pub tokens : Lexes text (map piece b.tokens.now)
  pub spans : List Span
  pub stand : StandAt text text spans
  pub place : b.place ≡ prefix_len (λ s. nat_lt s.from span.from) spans
  pub found : b.found.now ≡ bytes_of text span

-- What helps at a token, by the cause.
abbrev pub Helps : ScriptFaultKind → Blamed → List ℕ → Type 0
Helps kind.Unexpected b hint = HelpsUnexpected b hint
Helps kind.OutOfRange b hint = HelpsHuge b hint
Helps kind.NameTwice b hint = HelpsTwice b hint
Helps kind.UnknownName b hint = HelpsUnknown b hint
Helps kind.Arguments b hint = HelpsArguments b hint
Helps kind.Confused b hint = HelpsConfused b hint
Helps kind.InvariantFalse b hint = HelpsInvariant hint
Helps kind.RootWaits b hint = HelpsRoot b hint
Helps kind.LimitPassed b hint = HelpsLimit b hint
Helps kind.EndsEarly b hint = HelpsEnd hint
Helps other b hint = hint ≡ []

-- A hint is what helps at the token of some bytes.
pub record HintHelps (cause : ScriptFaultKind) (text : List ℕ) (span : Span) (hint : List ℕ) : Type 0 where
  pub blamed : Blamed
  pub is_blamed : IsBlamed text span blamed
  pub helps : Helps cause blamed hint

-- A text is what helps at the token of some bytes, as it is shown.
pub record HelpsToken (cause : ScriptFaultKind) (text : List ℕ) (span : Span) (help : List ℕ) : Type 0 where
  pub hint : List ℕ
  pub helps : HintHelps cause text span hint
  pub is : help ≡ map shown_byte hint

-- A text is what helps at a byte that no script has, as it is shown.
pub record HelpsByte (help : List ℕ) : Type 0 where
  pub in_comment : Bool
  pub width : ℕ
  pub hint : List ℕ
  pub helps : HelpsStray in_comment width hint
  pub is : help ≡ map shown_byte hint

-- What helps at the bytes that a refusal blames; nothing where it blames none.
abbrev pub IsHelp : ScriptFaultKind → List ℕ → Option Span → List ℕ → Type 0
IsHelp cause text None help = help ≡ []
IsHelp cause text (Some s) help = HelpsToken cause text s help ⊎ ((cause ≡ kind.NotText) × HelpsByte help)

-- what is said to do: what helps, or, where that is nothing, what the page of the refusal says
abbrev pub help_text : List ℕ → Page → List ℕ
help_text help p = if length help == 0 then p.help.now else help
