-- The Swift program of a text (our own).
use Rattle.std.specs.Prelude.{◌≡◌, ℕ, List}
use Rattle.script_grammar.specs.Tree.{DeclTree}
use Rattle.script_parser.specs.declared.limits.TheConstants.{NESTING}
use Rattle.swift_programs.specs.declared.program.SwiftProgram.{SwiftProgram}
use Rattle.swift_programs.specs.Outline.{outline, wanted}
use Rattle.swift_programs.specs.Programs.{program_text}
use Rattle.swift_script.specs.Accepted.{IsAccepted, SpellsDecls}
use Rattle.swift_script.specs.Scripts.{ScriptView}

-- A text is accepted as a script, and what is said is the text of a program that has an actor for each actor of the script, and a
-- method for each of its methods, in order.
pub record IsSwiftOf (text said : List ℕ) : Type 0 where
  pub script : ScriptView
  pub accepted : IsAccepted text script
  pub decls : List DeclTree
  pub spelled : SpellsDecls NESTING text decls
  pub program : SwiftProgram
  pub actors : outline program ≡ wanted decls
  pub is : said ≡ program_text program
