-- The tree that a printed form spells, by the models of tokens and of the grammar. No public clause names these words.
use Rattle.std.specs.Prelude.{ℕ, zero, suc, List, [], ◌∷◌, length, Option, Some, None, Result, Ok, Err}
use Rattle.script_tokens.specs.Pieces.{TokenView}
use Rattle.script_tokens.specs.Lexes.{front_at}
use Rattle.script_grammar.specs.Tree.{DeclTree}
use Rattle.script_parser.specs.declared.fault.ParseFault.{ParseFault}
use Rattle.script_parser.specs.declared.limits.TheConstants.{NESTING}
use Rattle.script_parser.specs.Model.Declarations.{decls_at}
use Rattle.script_printing.specs.Script.{ScriptView, script_in}

-- pieces, after the one that stands in front of them
abbrev pub with_piece : Option TokenView → List TokenView → List TokenView
with_piece None ps = ps
with_piece (Some p) ps = p ∷ ps

-- the pieces of a text, at most so many of which and of what separates them are looked at
abbrev pub pieces_within : ℕ → List ℕ → List TokenView
pieces_within zero text = []
pieces_within (suc n) [] = []
pieces_within (suc n) (b ∷ bs) = with_piece (front_at b bs).0 (pieces_within n (front_at b bs).1)

-- the declarations that were read, none where there was a fault
abbrev pub decls_or_none : Result (List DeclTree × List TokenView) ParseFault → List DeclTree
decls_or_none (Ok x) = x.0
decls_or_none (Err e) = []

-- the tree that a text spells
unfoldable pub tree_in : List ℕ → ScriptView
tree_in text = script_in (decls_or_none (decls_at NESTING (pieces_within (length text) text)))
