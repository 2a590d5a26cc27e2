-- Which texts are accepted.
use Rattle.std.specs.Prelude.{◌≡◌, ◌≤◌, ℕ, true, Option, None, List, length}
use Rattle.swift_types.specs.declared.limits.TheConstants.{BYTES}
use Rattle.script_tokens.specs.Bytes.{is_text}
use Rattle.script_tokens.specs.Pieces.{TokenView}
use Rattle.script_tokens.specs.Lexes.{Lexes}
use Rattle.script_grammar.specs.Tree.{DeclTree}
use Rattle.script_grammar.specs.Grammar.{IsScript}
use Rattle.script_names.specs.Rules.{names_error}
use Rattle.script_printing.specs.Script.{ScriptView, script_in}
use Rattle.script_compiler.specs.Starts.{first_false_from}
use Rattle.script_compiler.specs.Waiting.{edges_of, waits_of, root_methods}
use Rattle.script_parser.specs.declared.limits.TheConstants.{NESTING}
use Rattle.script_compiler.specs.Waits.{WaitsForLater, NoneWaits}
use Rattle.swift_script.specs.Scripts.{parts_of}

-- A text spells declarations, in text order, within a limit of nesting.
pub record SpellsDecls (limit : ℕ) (text : List ℕ) (decls : List DeclTree) : Type 0 where
  pub pieces : List TokenView
  pub lexed : Lexes text pieces
  pub spelled : IsScript limit pieces decls

-- A text spells the tree of a script: its declarations by their kinds.
pub record Spells (limit : ℕ) (text : List ℕ) (tree : ScriptView) : Type 0 where
  pub decls : List DeclTree
  pub spelled : SpellsDecls limit text decls
  pub is : tree ≡ script_in decls

-- the place of the first actor whose invariant does not hold of what the fields start with
abbrev pub first_false : ScriptView → Option ℕ
first_false s = first_false_from (parts_of s) 0 (parts_of s).actors

-- The root at a place waits for itself or for a later one.
abbrev pub RootWaits : ScriptView → ℕ → Type 0
RootWaits s place = WaitsForLater (edges_of (parts_of s)) (waits_of (parts_of s)) (root_methods (parts_of s)) place

-- No root waits for itself or for a later one.
abbrev pub NoRootWaits : ScriptView → Type 0
NoRootWaits s = NoneWaits (edges_of (parts_of s)) (waits_of (parts_of s)) (root_methods (parts_of s))

-- A text has at most 65,536 bytes, and only those that a text may have.
pub record IsPlain (text : List ℕ) : Type 0 where
  pub short : length text ≤ BYTES
  pub bytes : is_text text ≡ true

-- A text is accepted: it is short and plain, spells the tree, its names and counts are in order, each invariant holds at
-- the start, and no root waits for itself or for a later one.
pub record IsAccepted (text : List ℕ) (tree : ScriptView) : Type 0 where
  pub plain : IsPlain text
  pub decls : List DeclTree
  pub spelled : SpellsDecls NESTING text decls
  pub is : tree ≡ script_in decls
  pub names : names_error decls ≡ None
  pub starts : first_false tree ≡ None
  pub waits : NoRootWaits tree

-- Some text of this tree is accepted.
abbrev pub WasAccepted : ScriptView → Type 0
WasAccepted tree = (text : List ℕ) × IsAccepted text tree
