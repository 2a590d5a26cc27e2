-- The beginning of a script.
use Rattle.std.specs.Prelude.{◌≡◌, List, Err}
use Rattle.script_tokens.specs.Pieces.{TokenView}
use Rattle.script_grammar.specs.Tree.{DeclTree}
use Rattle.script_grammar.specs.Grammar.{IsScript}
use Rattle.script_parser.specs.declared.fault.ParseFault.{ParseFault}
use Rattle.script_parser.specs.declared.fault.Kind.TheVariants.{EndsEarly}
use Rattle.script_parser.specs.declared.limits.TheConstants.{NESTING}
use Rattle.script_parser.specs.Model.Declarations.{decls_at}

-- Tokens are a script, or the first thing that is wrong with them is that they end.
pub data IsBegun (tokens : List TokenView) : Type 0 where
  whole : (tree : List DeclTree) → IsScript NESTING tokens tree → IsBegun tokens
  ended : (fault : ParseFault) → decls_at NESTING tokens ≡ Err fault → fault.kind ≡ EndsEarly → IsBegun tokens
