-- What begins a script.
use Rattle.std.proofs.Common.{◌≡◌, List, Err}
use Rattle.script_tokens.specs.Pieces.{TokenView}
use Rattle.script_grammar.specs.Tree.{DeclTree}
use Rattle.script_grammar.specs.Grammar.{IsScript}
use Rattle.script_parser.specs.declared.fault.ParseFault.{ParseFault}
use Rattle.script_parser.specs.declared.fault.Kind.TheVariants.{EndsEarly}
use Rattle.script_parser.specs.declared.limits.TheConstants.{NESTING}
use Rattle.script_parser.specs.Model.Declarations.{decls_at}
use Rattle.script_context.specs.BegunInside.{IsBegun, whole, ended}

-- tokens that spell declarations
pub spells : (ts : List TokenView) (tree : List DeclTree) → IsScript NESTING ts tree → IsBegun ts
spells ts tree spelled = whole tree spelled

-- tokens that end early
pub ends : (ts : List TokenView) (fault : ParseFault) → decls_at NESTING ts ≡ Err fault → fault.kind ≡ EndsEarly → IsBegun ts
ends ts fault first kind = ended fault first kind
