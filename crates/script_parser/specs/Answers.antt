-- What each answer of the parser says.
use Rattle.std.specs.Prelude.{◌≡◌, List, map, Result, Ok, Err}
use Rattle.std.specs.declared.vec.Vec.{Vec}
use Rattle.std.specs.declared.alloc.Global.{Global}
use Rattle.script_tokens.specs.Pieces.{TokenView}
use Rattle.script_grammar.specs.declared.declaration.Decl.{Decl}
use Rattle.script_grammar.specs.Tree.{DeclTree, view_decl}
use Rattle.script_grammar.specs.Grammar.{IsScript}
use Rattle.script_parser.specs.declared.fault.ReadError.{ReadError}
use Rattle.script_parser.specs.declared.fault.ReadError.TheVariants as errors
use Rattle.script_parser.specs.declared.limits.TheConstants.{NESTING}
use Rattle.script_parser.specs.Model.Declarations.{decls_at}

-- The answer is these declarations, unless memory ran out.
abbrev pub IsReadAs : List DeclTree → Result (Vec Decl Global) ReadError → Type 0
IsReadAs tree (Ok v) = map view_decl v.items ≡ tree
IsReadAs tree (Err errors.Memory) = Unit {0}
IsReadAs tree (Err (errors.Fault f)) = ⊥

-- The tokens spell no script within the limits, unless memory ran out.
abbrev pub SpellsNothing : List TokenView → ReadError → Type 0
SpellsNothing ts errors.Memory = Unit {0}
SpellsNothing ts (errors.Fault f) = (tree : List DeclTree) → IsScript NESTING ts tree → ⊥

-- The fault is the one that is met first, reading from left to right, unless memory ran out.
abbrev pub IsFirstFault : List TokenView → ReadError → Type 0
IsFirstFault ts errors.Memory = Unit {0}
IsFirstFault ts (errors.Fault f) = decls_at NESTING ts ≡ Err f
