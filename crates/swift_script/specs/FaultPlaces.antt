-- Which bytes of a text each refusal blames, and on which line they begin.
use Rattle.std.specs.Prelude.{◌≡◌, ◌⊎◌, ◌<◌, ◌≤◌, ◌+◌, ◌-◌, ◌==◌, ℕ, suc, Bool, true, false, Option, Some, None, Err, if◌then◌else◌, List, [], ◌∷◌, length, take, is_some, slice_index_or}
use Rattle.std.specs.List.{prefix_len, count_by}
use Rattle.swift_types.specs.declared.limits.TheConstants.{BYTES}
use Rattle.script_tokens.specs.declared.keyword.Keyword.TheVariants as key
use Rattle.script_tokens.specs.declared.span.Span.{Span}
use Rattle.script_tokens.specs.Bytes.{is_text_byte}
use Rattle.script_tokens.specs.Lexes.{Lexes}
use Rattle.script_tokens.specs.Lines.{line_of}
use Rattle.script_tokens.specs.Pieces.{TokenView, Name, Key}
use Rattle.script_tokens.specs.Spans.{StandAt}
use Rattle.script_grammar.specs.Tree.{ActorTree, DeclTree}
use Rattle.script_grammar.specs.Grammar.{IsScript}
use Rattle.script_parser.specs.declared.fault.Kind.{Kind}
use Rattle.script_parser.specs.declared.fault.Kind.TheVariants as grammar
use Rattle.script_parser.specs.declared.limits.TheConstants.{NESTING}
use Rattle.script_parser.specs.Model.Declarations.{decls_at}
use Rattle.script_names.specs.declared.error.NameErrorKind.{NameErrorKind}
use Rattle.script_names.specs.declared.error.NameErrorKind.TheVariants as names
use Rattle.script_names.specs.Rules.{names_error}
use Rattle.script_printing.specs.Script.{script_in}
use Rattle.swift_script.specs.declared.fault.ScriptFault.{ScriptFault}
use Rattle.swift_script.specs.declared.fault.ScriptFaultKind.{ScriptFaultKind}
use Rattle.swift_script.specs.declared.fault.ScriptFaultKind.TheVariants as kind
use Rattle.swift_script.specs.Accepted.{first_false, RootWaits}

-- A text consists of these tokens, which are these bytes of it, in order.
pub record AreTokens (text : List ℕ) (pieces : List TokenView) (spans : List Span) : Type 0 where
  pub lexed : Lexes text pieces
  pub stand : StandAt text text spans

-- the end of a text, as if one more byte stood there
abbrev pub end_of : List ℕ → Span
end_of text = record { from = length text; to = suc (length text) }

-- the bytes of the token at a place; where none stands, the end of the text
abbrev pub span_at : List ℕ → List Span → ℕ → Span
span_at text spans place = slice_index_or spans place (end_of text)

-- a token is a name
abbrev pub is_name : TokenView → Bool
is_name (Name n) = true
is_name _ = false

-- a token is the keyword `invariant`
abbrev pub is_invariant : TokenView → Bool
is_invariant (Key key.Invariant) = true
is_invariant _ = false

-- a token is the keyword `root`
abbrev pub is_root : TokenView → Bool
is_root (Key key.Root) = true
is_root _ = false

-- the place of the token that passes a test and has `before` others before it that do
abbrev pub place_of : (TokenView → Bool) → ℕ → List TokenView → ℕ
place_of test before [] = 0
place_of test before (p ∷ ps) = if test p then (if before == 0 then 0 else suc (place_of test (before - 1) ps)) else suc (place_of test before ps)

-- A fault of the grammar blames the token at which reading from left to right meets it.
pub record BlamesToken (text : List ℕ) (kind : Kind) (span : Option Span) : Type 0 where
  pub pieces : List TokenView
  pub spans : List Span
  pub are : AreTokens text pieces spans
  pub left : ℕ
  pub first : decls_at NESTING pieces ≡ Err (record { kind = kind; tokens_left = left })
  pub at : span ≡ Some (span_at text spans (length pieces - left))

-- The number after `pinned` stands two tokens after its executor's name.
abbrev pub past_name : NameErrorKind → ℕ
past_name names.TooGreat = 2
past_name _ = 0

-- An error of the names and counts blames the name that is concerned, or the number of a worker.
pub record BlamesName (text : List ℕ) (kind : NameErrorKind) (span : Option Span) : Type 0 where
  pub pieces : List TokenView
  pub spans : List Span
  pub are : AreTokens text pieces spans
  pub decls : List DeclTree
  pub spelled : IsScript NESTING pieces decls
  pub before : ℕ
  pub first : names_error decls ≡ Some (record { kind = kind; names_before = before })
  pub at : span ≡ Some (span_at text spans (place_of is_name before pieces + past_name kind))

-- how many of the actors before a place have an invariant
abbrev pub invariants_before : ℕ → List ActorTree → ℕ
invariants_before actor actors = count_by (λ a. is_some a.invariant) (take actor actors)

-- An invariant that is false at the start blames its keyword: that of the first actor whose invariant is.
pub record BlamesInvariant (text : List ℕ) (span : Option Span) : Type 0 where
  pub pieces : List TokenView
  pub spans : List Span
  pub are : AreTokens text pieces spans
  pub decls : List DeclTree
  pub spelled : IsScript NESTING pieces decls
  pub actor : ℕ
  pub first : first_false (script_in decls) ≡ Some actor
  pub at : span ≡ Some (span_at text spans (place_of is_invariant (invariants_before actor (script_in decls).actors) pieces))

-- A root that waits for itself or for a later one blames its keyword: the first such root.
pub record BlamesRoot (text : List ℕ) (span : Option Span) : Type 0 where
  pub pieces : List TokenView
  pub spans : List Span
  pub are : AreTokens text pieces spans
  pub decls : List DeclTree
  pub spelled : IsScript NESTING pieces decls
  pub root : ℕ
  pub waits : RootWaits (script_in decls) root
  pub first : (earlier : ℕ) → earlier < root → RootWaits (script_in decls) earlier → ⊥
  pub at : span ≡ Some (span_at text spans (place_of is_root root pieces))

-- the bytes that a refusal blames, by its kind: a token, the end of the text, or none
abbrev pub Blames : ScriptFaultKind → List ℕ → Option Span → Type 0
-- the first byte outside text
Blames kind.NotText text span = span ≡ Some (record { from = prefix_len is_text_byte text; to = suc (prefix_len is_text_byte text) })
Blames kind.Unexpected text span = BlamesToken text grammar.Unexpected span
Blames kind.OutOfRange text span = BlamesToken text grammar.OutOfRange span
Blames kind.NameTwice text span = BlamesName text names.Twice span
Blames kind.UnknownName text span = BlamesName text names.Unknown span
Blames kind.Arguments text span = BlamesName text names.Arguments span
Blames kind.Confused text span = BlamesName text names.Confused span
Blames kind.InvariantFalse text span = BlamesInvariant text span
Blames kind.BoundInside text span = BlamesName text names.BoundInside span
Blames kind.RootWaits text span = BlamesRoot text span
-- a text that is too long is not read
Blames kind.LimitPassed text span = (BYTES < length text → span ≡ None) × (length text ≤ BYTES → BlamesName text names.TooMany span ⊎ BlamesName text names.TooGreat span)
Blames kind.EndsEarly text span = BlamesToken text grammar.EndsEarly span
Blames kind.TooDeep text span = BlamesToken text grammar.TooDeep span
Blames kind.Memory text span = span ≡ None

-- the line of a refusal: that on which the bytes begin that it blames; where it blames none, 0 for out of memory, and else 1
abbrev pub fault_line : Option Span → ScriptFaultKind → List ℕ → ℕ
fault_line (Some s) k text = line_of text s.from
fault_line None kind.Memory text = 0
fault_line None k text = 1

-- A refusal blames what it is about, and stands on the line of that.
abbrev pub IsAtItsPlace : ScriptFault → List ℕ → Type 0
IsAtItsPlace fault text = Blames fault.kind text fault.span × (fault.line ≡ fault_line fault.span fault.kind text)
