-- What is kept of a text while it is checked. No public clause names these words.
use Rattle.std.specs.Prelude.{◌≡◌, ◌+◌, ◌-◌, Bool, ℕ, Option, Some, None, List, map, length}
use Rattle.script_tokens.specs.Pieces.{TokenView, piece}
use Rattle.script_tokens.specs.declared.list.Tokens.{Tokens}
use Rattle.script_tokens.specs.declared.span.Span.{Span}
use Rattle.script_grammar.specs.Tree.{DeclTree}
use Rattle.script_grammar.specs.Grammar.{IsScript}
use Rattle.script_parser.specs.declared.fault.Kind.{Kind}
use Rattle.script_parser.specs.declared.fault.Kind.TheVariants as grammar
use Rattle.script_parser.specs.declared.fault.ReadError.{ReadError}
use Rattle.script_parser.specs.declared.fault.ReadError.TheVariants as reading
use Rattle.script_parser.specs.declared.limits.TheConstants.{NESTING}
use Rattle.script_names.specs.declared.error.CheckError.{CheckError}
use Rattle.script_names.specs.declared.error.CheckError.TheVariants as naming
use Rattle.script_names.specs.declared.error.NameErrorKind.{NameErrorKind}
use Rattle.script_names.specs.declared.error.NameErrorKind.TheVariants as names
use Rattle.script_names.specs.Rules.{names_error}
use Rattle.script_printing.specs.Script.{ScriptView, script_in}
use Rattle.swift_script.specs.declared.fault.ScriptFaultKind.{ScriptFaultKind}
use Rattle.swift_script.specs.declared.fault.ScriptFaultKind.TheVariants as kind
use Rattle.swift_script.specs.declared.place.Sought.{Sought}
use Rattle.swift_script.specs.declared.place.Sought.TheVariants as sought
use Rattle.swift_script.specs.Accepted.{IsPlain, SpellsDecls}
use Rattle.swift_script.specs.FaultPlaces.{AreTokens, span_at, is_name, is_invariant, is_root, place_of, past_name}

abbrev pub pieces_of : Tokens → List TokenView
pieces_of kept = map piece kept.tokens.items

-- The tokens of a text and their bytes are kept.
pub record AreKept (text : List ℕ) (kept : Tokens) : Type 0 where
  pub are : AreTokens text (pieces_of kept) kept.spans.items
  pub as_many : length kept.spans.items ≡ length (pieces_of kept)

-- A plain text spells these declarations, and its tokens are kept.
pub record IsSpelled (text : List ℕ) (decls : List DeclTree) (kept : Tokens) : Type 0 where
  pub plain : IsPlain text
  pub are_kept : AreKept text kept
  pub spelled : IsScript NESTING (pieces_of kept) decls

-- the test of what is looked for
abbrev pub passes : Sought → TokenView → Bool
passes sought.Name p = is_name p
passes sought.Invariant p = is_invariant p
passes sought.Root p = is_root p

-- a fault of the grammar, as a refusal
abbrev pub grammar_kind : Kind → ScriptFaultKind
grammar_kind grammar.Unexpected = kind.Unexpected
grammar_kind grammar.OutOfRange = kind.OutOfRange
grammar_kind grammar.EndsEarly = kind.EndsEarly
grammar_kind grammar.TooDeep = kind.TooDeep

abbrev pub read_kind : ReadError → ScriptFaultKind
read_kind reading.Memory = kind.Memory
read_kind (reading.Fault f) = grammar_kind f.kind

abbrev pub read_span : List ℕ → Tokens → ReadError → Option Span
read_span text kept reading.Memory = None
read_span text kept (reading.Fault f) = Some (span_at text kept.spans.items (length kept.spans.items - f.tokens_left))

-- an error of the names and counts, as a refusal
abbrev pub names_kind : NameErrorKind → ScriptFaultKind
names_kind names.Twice = kind.NameTwice
names_kind names.Unknown = kind.UnknownName
names_kind names.Arguments = kind.Arguments
names_kind names.Confused = kind.Confused
names_kind names.BoundInside = kind.BoundInside
names_kind names.TooMany = kind.LimitPassed
names_kind names.TooGreat = kind.LimitPassed

abbrev pub check_kind : CheckError → ScriptFaultKind
check_kind naming.Memory = kind.Memory
check_kind (naming.Name e) = names_kind e.kind

abbrev pub check_span : List ℕ → Tokens → CheckError → Option Span
check_span text kept naming.Memory = None
check_span text kept (naming.Name e) = Some (span_at text kept.spans.items (place_of is_name e.names_before (pieces_of kept) + past_name e.kind))

-- A plain text spells a script whose names and counts are in order, and its tokens are kept.
pub record IsNamed (text : List ℕ) (tree : ScriptView) (kept : Tokens) : Type 0 where
  pub decls : List DeclTree
  pub spelled : IsSpelled text decls kept
  pub names : names_error decls ≡ None
  pub is : tree ≡ script_in decls

-- A plain text spells a script whose names and counts are in order.
pub record HasNamesInOrder (text : List ℕ) (tree : ScriptView) : Type 0 where
  pub plain : IsPlain text
  pub decls : List DeclTree
  pub spelled : SpellsDecls NESTING text decls
  pub names : names_error decls ≡ None
  pub is : tree ≡ script_in decls
