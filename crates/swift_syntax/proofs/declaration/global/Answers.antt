use Rattle.std.proofs.Common.{◌∷◌, [], ◌++◌, ◌≡◌, ap, subst, sym, ◌∙◌}
use Rattle.swift_syntax.specs.Declarations.{Rows, SpellsDeclaration, SpellsInstance, rows_of}
use Rattle.swift_syntax.specs.Declarations as swift
use Rattle.swift_syntax.specs.Expressions.{after}
use Rattle.swift_syntax.specs.Statements.{SpellsAnnotation, a_key, a_name, a_sign}
use Rattle.swift_syntax.specs.declared.sign.Sign.TheVariants as sign
use Rattle.swift_syntax.specs.declared.tree.ConstantDecl.{ConstantDecl}
use Rattle.swift_syntax.specs.declared.word.Word.TheVariants as word
use Rattle.swift_syntax.proofs.DeclaredRows.{both_stay, literal_stays, put_behind, took_literal, took_then}
use Rattle.swift_syntax.proofs.Statements.{lexed_stays, row_stays}
use Rattle.swift_syntax.proofs.Steps.{row_then, rows, then, took_call, took_key, took_name, took_sign}
use Rattle.swift_syntax.proofs.declaration.global.Goals as goal

pub returns-in-Name : goal.returns-in-Name
returns-in-Name c =
    let key = took_key c.args.reader.now c.key.new.self word.Let c.key.ensures.taken c.key.ensures.grows in
    let name = took_name c.key.new.self c.name-name.new.self c.name-name.ensures.taken c.name-name.ensures.grows in
    let type = took_call c.name-name.new.self c.annotation-value_type.new.self (λ l i j. SpellsAnnotation l i j c.annotation-value_type.result) c.annotation-value_type.ensures.spelled c.annotation-value_type.ensures.grows in
    let assign = took_sign c.annotation-value_type.new.self c.sign.new.self sign.Assign c.sign.ensures.taken c.sign.ensures.grows in
    let type_stays = lexed_stays (λ l. SpellsAnnotation l c.name-name.new.self.at c.annotation-value_type.new.self.at c.annotation-value_type.result) in
    let behind = then _ _ _ type_stays type assign in
    let all = row_then _ _ _ (rows _ _ _ key name) behind in
    let stays = both_stay (row_stays (a_key word.Let ∷ a_name ∷ []) c.args.reader.now.at c.name-name.new.self.at) (both_stay type_stays (row_stays (a_sign sign.Assign ∷ []) c.annotation-value_type.new.self.at c.sign.new.self.at)) in
    took_then c.args.reader.now c.sign.new.self c.instance.new.reader (λ s. SpellsInstance s c.name-name.result) SpellsDeclaration stays all c.instance.ensures (λ n a u v x d.
    let m = behind.grows.refused n in
    let own : c.name-name.result ≡ after c.args.reader.now.at = (c.name-name.ensures.taken m).1 ∙ ap (λ y. y.at) (c.key.ensures.taken (name.grows.refused m)).1 in
    swift.decl_instance x.0 x.1.0 x.1.1 (subst (λ p. SpellsInstance a p c.sign.new.self.at c.instance.new.reader.at u v) own d))

pub returns : goal.returns
returns c =
    let key = took_key c.args.reader.now c.key.new.self word.Let c.key.ensures.taken c.key.ensures.grows in
    let name = took_name c.key.new.self c.name-name.new.self c.name-name.ensures.taken c.name-name.ensures.grows in
    let type = took_call c.name-name.new.self c.annotation-value_type.new.self (λ l i j. SpellsAnnotation l i j c.annotation-value_type.result) c.annotation-value_type.ensures.spelled c.annotation-value_type.ensures.grows in
    let assign = took_sign c.annotation-value_type.new.self c.sign.new.self sign.Assign c.sign.ensures.taken c.sign.ensures.grows in
    let value = took_literal c.sign.new.self c.literal-value.new.reader c.literal-value.result c.literal-value.ensures.spelled c.literal-value.ensures.grows in
    let type_stays = lexed_stays (λ l. SpellsAnnotation l c.name-name.new.self.at c.annotation-value_type.new.self.at c.annotation-value_type.result) in
    let behind = then _ _ _ type_stays type (row_then _ _ _ assign value) in
    let all = row_then _ _ _ (rows _ _ _ key name) behind in
    let stays = both_stay (row_stays (a_key word.Let ∷ a_name ∷ []) c.args.reader.now.at c.name-name.new.self.at) (both_stay type_stays (both_stay (row_stays (a_sign sign.Assign ∷ []) c.annotation-value_type.new.self.at c.sign.new.self.at) (literal_stays c.sign.new.self.at c.literal-value.new.reader.at c.literal-value.result))) in
    let before : Rows = rows_of c.args.reader.now.tree.value in
    let made : ConstantDecl = record { name = c.name-name.result; value_type = c.annotation-value_type.result; value = c.literal-value.result } in
    put_behind c.args.reader.now c.literal-value.new.reader c.put_constant.new.reader SpellsDeclaration (λ r. record r { constants = r.constants ++ made ∷ [] }) stays all c.put_constant.ensures.put c.put_constant.ensures.continues (λ n a x.
    let m = behind.grows.refused n in
    let own : c.name-name.result ≡ after c.args.reader.now.at = (c.name-name.ensures.taken m).1 ∙ ap (λ y. y.at) (c.key.ensures.taken (name.grows.refused m)).1 in
    subst (λ p. SpellsDeclaration a c.args.reader.now.at c.literal-value.new.reader.at before (record before { constants = before.constants ++ record { name = p; value_type = c.annotation-value_type.result; value = c.literal-value.result } ∷ [] })) (sym own) (swift.decl_constant x.0 x.1.0 x.1.1.0 x.1.1.1))
