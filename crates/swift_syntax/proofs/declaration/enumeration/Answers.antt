use Rattle.std.proofs.Common.{◌∷◌, [], ℕ, ap, codes, length, refl, subst, ◌∙◌}
use Rattle.swift_syntax.specs.Declarations.{Rows, SpellsCases, SpellsDeclaration, SpellsLocals}
use Rattle.swift_syntax.specs.Declarations as swift
use Rattle.swift_syntax.specs.Statements.{Source, a_key, a_name, a_sign, the_word}
use Rattle.swift_syntax.specs.declared.sign.Sign.TheVariants as sign
use Rattle.swift_syntax.specs.declared.word.Word.TheVariants as word
use Rattle.swift_syntax.proofs.DeclaredRows.{took_then}
use Rattle.swift_syntax.proofs.Grown.{grows_same}
use Rattle.swift_syntax.proofs.Statements.{row_stays}
use Rattle.swift_syntax.proofs.Steps.{rows, takes_one, took_key, took_name, took_same, took_sign, took_word}
use Rattle.swift_syntax.proofs.declaration.enumeration.Goals as goal

pub returns-then-takes : goal.returns-then-takes
returns-then-takes c =
    let key = took_key c.args.reader.now c.key.new.self word.Enum c.key.ensures.taken c.key.ensures.grows in
    let name = took_name c.key.new.self c.name-of.new.self c.name-of.ensures.taken c.name-of.ensures.grows in
    let colon = takes_one c.name-of.new.self c.takes.new.self (a_sign sign.Colon) (c.if-takes.ensures.found.0 refl) c.if-takes.ensures.taken in
    let wrote = took_word c.takes.new.self c.word.new.self (codes "Error") c.word.ensures.taken c.word.ensures.grows in
    let opened = took_sign c.word.new.self c.sign.new.self sign.OpenBrace c.sign.ensures.taken c.sign.ensures.grows in
    let behind = rows _ _ _ colon (rows _ _ _ wrote opened) in
    let all = rows _ _ _ key (rows _ _ _ name behind) in
    let Of : Source → ℕ → ℕ → Rows → Rows → Type 0 = λ s i j r t. SpellsCases s.lexed c.name-of.result (length r.cases) i j r t in
    took_then c.args.reader.now c.sign.new.self c.faults.new.reader Of SpellsDeclaration (row_stays (a_key word.Enum ∷ a_name ∷ a_sign sign.Colon ∷ the_word (codes "Error") ∷ a_sign sign.OpenBrace ∷ []) c.args.reader.now.at c.sign.new.self.at) all c.faults.ensures (λ n a u v x d.
    let m = behind.grows.refused n in
    let own = (c.name-of.ensures.taken m).1 ∙ ap (λ y. y.at) (c.key.ensures.taken (name.grows.refused m)).1 in
    swift.decl_faults x (subst (λ p. SpellsCases a.lexed p (length u.cases) c.sign.new.self.at c.faults.new.reader.at u v) own d))

pub returns : goal.returns
returns c =
    let key = took_key c.args.reader.now c.key.new.self word.Enum c.key.ensures.taken c.key.ensures.grows in
    let name = took_name c.key.new.self c.name-of.new.self c.name-of.ensures.taken c.name-of.ensures.grows in
    let other = took_same c.name-of.new.self c.takes.new.self (λ m. c.if-takes.ensures.taken) (rw c.if-takes.ensures.taken (grows_same c.name-of.new.self)) in
    let opened = took_sign c.takes.new.self c.sign-2.new.self sign.OpenBrace c.sign-2.ensures.taken c.sign-2.ensures.grows in
    let behind = rows _ _ _ other opened in
    let all = rows _ _ _ key (rows _ _ _ name behind) in
    took_then c.args.reader.now c.sign-2.new.self c.locals.new.reader (λ s. SpellsLocals s c.name-of.result) SpellsDeclaration (row_stays (a_key word.Enum ∷ a_name ∷ a_sign sign.OpenBrace ∷ []) c.args.reader.now.at c.sign-2.new.self.at) all c.locals.ensures (λ n a u v x d.
    let m = behind.grows.refused n in
    let own = (c.name-of.ensures.taken m).1 ∙ ap (λ y. y.at) (c.key.ensures.taken (name.grows.refused m)).1 in
    swift.decl_locals x (subst (λ p. SpellsLocals a p c.sign-2.new.self.at c.locals.new.reader.at u v) own d))
