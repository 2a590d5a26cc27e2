-- Why there is no plain Swift.
use Rattle.std.proofs.Common.{ℕ, List, sym}
use Rattle.std.proofs.lemmas.Bool.{false≢true}
use Rattle.script_grammar.specs.Tree.{DeclTree}
use Rattle.script_parser.specs.declared.limits.TheConstants.{NESTING}
use Rattle.swift_script.specs.Accepted.{IsAccepted, SpellsDecls}
use Rattle.swift_script.specs.Scripts.{ScriptView}
use Rattle.swift_plain.specs.declared.translated.PlainError.{PlainError}
use Rattle.swift_plain.specs.declared.translated.PlainError.TheVariants as error
use Rattle.swift_plain.specs.Translations.{IsRefusedIn, IsWhyNot}

pub why_not : (text : List ℕ) (script : ScriptView) (decls : List DeclTree) (e : PlainError) → IsAccepted text script → SpellsDecls NESTING text decls → IsRefusedIn decls e → IsWhyNot e text
why_not text script decls (error.Script f) a s r = absurd (false≢true (sym r))
why_not text script decls (error.Form line f) a s r = record { script = script; accepted = a; decls = decls; spelled = s; first = r }
why_not text script decls error.Memory a s r = tt {0}
