use Rattle.std.proofs.Common.{List, None, ℕ, rules, subst, sym, ◌≡◌, ◌∙◌}
use Rattle.std.specs.Prelude.{IsNone}
use Rattle.swift_syntax.specs.Declarations.{SpellsFile}
use Rattle.swift_syntax.specs.Lexes.{AreTokensOf}
use Rattle.swift_syntax.specs.declared.token.Token.{Token}
use Rattle.swift_syntax.specs.declared.tree.Tree.{Tree}
use Rattle.swift_expressions.specs.declared.code.Code.{Code}
use Rattle.swift_lowering.specs.Files.{IsCodeOf}
use Rattle.swift_translation.specs.ScriptTexts.{IsWrittenOf}
use Rattle.swift_translation.specs.Translations.{IfScript, IsScriptOf}
use Rattle.swift_translation.specs.declared.file.Translation.{Translation}
use Rattle.swift_translation.specs.declared.file.Translation.TheVariants.{Script, Refused}
use Rattle.swift_translation.proofs.file.translate.Goals as goal

-- what is written of a file's tokens is the script of the file
of_file : {text : List ℕ} {tokens : List Token} (tree : Tree) (code : Code) → AreTokensOf text tokens → SpellsFile text tokens tree → IsCodeOf text tokens tree code → (made : Translation) → IfScript (IsWrittenOf text tokens tree code) made → IfScript (IsScriptOf text) made
of_file {tokens = tokens} tree code lexed spelled lowered (Script s) written = record { tokens = tokens; tree = tree; code = code; lexed = lexed; spelled = spelled; lowered = lowered; written = written }
of_file tree code lexed spelled lowered (Refused r) written = tt

pub returns-clause-text : goal.returns-clause-text
returns-clause-text c =
    let tokens : c.deref-2.result.now ≡ c.in_ok-file.file.tokens.items = c.deref-2.ensures.value in
    let same : c.deref.result.now ≡ c.deref-2.result.now = c.deref.ensures.value ∙ sym tokens in
    let none : IsNone c.lower-lowered.result.refused = search rules in
    let read : c.in_ok-file.file.refused ≡ None = search rules in
    of_file _ _ (rw tokens c.in_ok-file.ensures.lexed) (subst (λ xs. SpellsFile c.args.text.now xs c.in_ok-file.file.tree.value) (sym tokens) (c.in_ok-file.ensures.spelled read)) (rw same at c.lower-lowered.ensures.code none) c.in_ok-made.made c.in_ok-made.ensures.text
