-- What becomes of a Swift file (our own).
use Rattle.std.specs.Prelude.{ℕ, All, List}
use Rattle.swift_syntax.specs.Declarations.{SpellsFile}
use Rattle.swift_syntax.specs.Lexes.{AreTokensOf}
use Rattle.swift_syntax.specs.declared.rule.Refusal.{Refusal}
use Rattle.swift_syntax.specs.declared.token.Token.{Token}
use Rattle.swift_syntax.specs.declared.tree.Tree.{Tree}
use Rattle.swift_expressions.specs.declared.code.Code.{Code}
use Rattle.swift_lowering.specs.Files.{IsCodeOf}
use Rattle.swift_translation.specs.ScriptTexts.{IsWrittenOf}
use Rattle.swift_translation.specs.declared.file.Translation.{Translation}
use Rattle.swift_translation.specs.declared.file.Translation.TheVariants.{Script, Refused}
use Rattle.swift_translation.specs.declared.places.MethodPlace.{MethodPlace}

-- Where a file becomes a script, this holds of its text.
abbrev pub IfScript : (List ℕ → Type 0) → Translation → Type 0
IfScript holds (Script s) = holds s.text.items
IfScript holds (Refused r) = Unit {0}

-- Where a file becomes a script, this holds of each method of its table.
abbrev pub IfPlaced : (MethodPlace → Type 0) → Translation → Type 0
IfPlaced holds (Script s) = All holds s.places.items
IfPlaced holds (Refused r) = Unit {0}

-- Where a file is refused, this holds of the refusal.
abbrev pub IfRefused : (Refusal → Type 0) → Translation → Type 0
IfRefused holds (Script s) = Unit {0}
IfRefused holds (Refused r) = holds r

-- A script is that of a file: it is written of the file's tokens, the tree that they spell, and the instructions that this becomes.
pub record IsScriptOf (text script : List ℕ) : Type 0 where
  pub tokens : List Token
  pub tree : Tree
  pub code : Code
  -- the file consists of these tokens, and of no others
  pub lexed : AreTokensOf text tokens
  -- the tokens spell the tree
  pub spelled : SpellsFile text tokens tree
  -- the tree becomes these instructions
  pub lowered : IsCodeOf text tokens tree code
  -- each byte of the script is written of these
  pub written : IsWrittenOf text tokens tree code script
