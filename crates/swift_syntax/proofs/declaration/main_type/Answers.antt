use Rattle.std.proofs.Common.{◌∷◌, [], ℕ, codes, subst}
use Rattle.swift_syntax.specs.Declarations.{Rows, SpellsDeclaration, SpellsHolder, SpellsMain}
use Rattle.swift_syntax.specs.Declarations as swift
use Rattle.swift_syntax.specs.Statements.{Row, Source, a_name, a_sign, the_word}
use Rattle.swift_syntax.specs.declared.sign.Sign.TheVariants as sign
use Rattle.swift_syntax.proofs.DeclaredRows.{both_stay, main_there, then_took, took_then}
use Rattle.swift_syntax.proofs.Statements.{Stays, lexed_stays, row_stays}
use Rattle.swift_syntax.proofs.Steps.{row_then, rows, then, took_call, took_name, took_sign, took_word}
use Rattle.swift_syntax.proofs.declaration.main_type.Goals as goal

pub returns : goal.returns
returns c =
    let at = took_sign c.args.reader.now c.sign.new.self sign.At c.sign.ensures.taken c.sign.ensures.grows in
    let wrote = took_word c.sign.new.self c.main_word.new.reader (codes "main") c.main_word.ensures.taken c.main_word.ensures.grows in
    let holder = took_call c.main_word.new.reader c.holder.new.reader SpellsHolder c.holder.ensures.spelled c.holder.ensures.grows in
    let name = took_name c.holder.new.reader c.name-name.new.self c.name-name.ensures.taken c.name-name.ensures.grows in
    let opened = took_sign c.name-name.new.self c.sign-2.new.self sign.OpenBrace c.sign-2.ensures.taken c.sign-2.ensures.grows in
    let closed = took_sign c.main_method.new.reader c.sign-3.new.self sign.CloseBrace c.sign-3.ensures.taken c.sign-3.ensures.grows in
    let holder_stays = lexed_stays (λ l. SpellsHolder l c.main_word.new.reader.at c.holder.new.reader.at) in
    let head = row_then _ _ _ (rows _ _ _ at wrote) (then _ _ _ holder_stays holder (rows _ _ _ name opened)) in
    let Head : ℕ → Source → Type 0 = λ i s. Row s.lexed (a_sign sign.At ∷ the_word (codes "main") ∷ []) i c.main_word.new.reader.at × (SpellsHolder s.lexed c.main_word.new.reader.at c.holder.new.reader.at × Row s.lexed (a_name ∷ a_sign sign.OpenBrace ∷ []) c.holder.new.reader.at c.sign-2.new.self.at) in
    let Begun : Source → ℕ → ℕ → Rows → Rows → Type 0 = λ s i j u v. Head i s × SpellsMain s c.holder.new.reader.at c.sign-2.new.self.at j u v in
    let head_stays : (i : ℕ) → Stays (Head i) = λ i. both_stay (row_stays (a_sign sign.At ∷ the_word (codes "main") ∷ []) i c.main_word.new.reader.at) (both_stay holder_stays (row_stays (a_name ∷ a_sign sign.OpenBrace ∷ []) c.holder.new.reader.at c.sign-2.new.self.at)) in
    let begun = took_then c.args.reader.now c.sign-2.new.self c.main_method.new.reader (λ s. SpellsMain s c.name-name.result) Begun (head_stays c.args.reader.now.at) head c.main_method.ensures (λ n a u v x d.
    (x, subst (λ p. SpellsMain a p c.sign-2.new.self.at c.main_method.new.reader.at u v) (c.name-name.ensures.taken (opened.grows.refused n)).1 d)) in
    then_took c.args.reader.now c.main_method.new.reader c.sign-3.new.self Begun SpellsDeclaration (λ i j u v. both_stay (head_stays i) (main_there c.holder.new.reader.at c.sign-2.new.self.at j u v)) begun closed (λ a u v q p. swift.decl_main q.0.0 q.0.1.0 q.0.1.1 q.1 p)
