-- The plain Swift file of a text, and why there is none. (Own.)
use Rattle.std.specs.Prelude.{◌≡◌, ℕ, List, true, false, Some, None}
use Rattle.script_grammar.specs.Tree.{DeclTree}
use Rattle.script_parser.specs.declared.limits.TheConstants.{NESTING}
use Rattle.plain_forms.specs.declared.form.Form.{Form}
use Rattle.plain_forms.specs.Searches.{form_in}
use Rattle.swift_plain.specs.declared.translated.PlainError.{PlainError}
use Rattle.swift_plain.specs.declared.translated.PlainError.TheVariants as error
use Rattle.swift_plain.specs.Files.{file_text}
use Rattle.swift_plain.specs.Signatures.{ThrowerTree}
use Rattle.swift_plain.specs.Throwers.{are_told}
use Rattle.swift_script.specs.Accepted.{IsAccepted, SpellsDecls}
use Rattle.swift_script.specs.FaultPlaces.{IsAtItsPlace}
use Rattle.swift_script.specs.Refuses.{Refuses}
use Rattle.swift_script.specs.Scripts.{ScriptView}

-- What is said is the file of declarations, by the methods of which it says that they throw; one is among these exactly where its body
-- throws by them.
pub record IsFileOf (decls : List DeclTree) (said : List ℕ) : Type 0 where
  pub throwers : List ThrowerTree
  pub told : are_told throwers decls ≡ true
  pub is : said ≡ file_text decls throwers

-- A text is accepted as a script, spells declarations of which no form is without plain Swift, and what is said is their file.
pub record IsPlainOf (text said : List ℕ) : Type 0 where
  pub script : ScriptView
  pub accepted : IsAccepted text script
  pub decls : List DeclTree
  pub spelled : SpellsDecls NESTING text decls
  pub plain : form_in decls ≡ None
  pub file : IsFileOf decls said

-- A text is accepted as a script, and this is the first form of its declarations that has no plain Swift.
pub record HasForm (form : Form) (text : List ℕ) : Type 0 where
  pub script : ScriptView
  pub accepted : IsAccepted text script
  pub decls : List DeclTree
  pub spelled : SpellsDecls NESTING text decls
  pub first : form_in decls ≡ Some form

-- A form is told, unless there is no memory.
abbrev pub IsRefusedAs : Form → PlainError → Type 0
IsRefusedAs f (error.Script fault) = true ≡ false
IsRefusedAs f (error.Form line g) = g ≡ f
IsRefusedAs f error.Memory = Unit {0}

-- The first form of declarations is told, unless there is no memory.
abbrev pub IsRefusedIn : List DeclTree → PlainError → Type 0
IsRefusedIn ds (error.Script fault) = true ≡ false
IsRefusedIn ds (error.Form line f) = form_in ds ≡ Some f
IsRefusedIn ds error.Memory = Unit {0}

-- Why a text has no plain Swift: it is refused as a script, for that cause and at that place, or has such a form.
abbrev pub IsWhyNot : PlainError → List ℕ → Type 0
IsWhyNot (error.Script fault) text = Refuses fault.kind text × IsAtItsPlace fault text
IsWhyNot (error.Form line f) text = HasForm f text
IsWhyNot error.Memory text = Unit {0}
