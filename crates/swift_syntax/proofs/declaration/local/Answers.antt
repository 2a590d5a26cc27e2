use Rattle.std.proofs.Common.{◌∷◌, [], ◌++◌, codes, subst, sym}
use Rattle.swift_syntax.specs.Declarations.{Rows, SpellsLocal, rows_of}
use Rattle.swift_syntax.specs.Declarations as swift
use Rattle.swift_syntax.specs.Statements.{SpellsAnnotation, a_key, a_name, a_sign, the_word}
use Rattle.swift_syntax.specs.declared.sign.Sign.TheVariants as sign
use Rattle.swift_syntax.specs.declared.tree.LocalDecl.{LocalDecl}
use Rattle.swift_syntax.specs.declared.word.Word.TheVariants as word
use Rattle.swift_syntax.proofs.DeclaredRows.{both_stay, literal_stays, put_behind, took_literal}
use Rattle.swift_syntax.proofs.Statements.{lexed_stays, row_stays}
use Rattle.swift_syntax.proofs.Steps.{row_then, rows, then, took_call, took_key, took_name, took_sign, took_word}
use Rattle.swift_syntax.proofs.declaration.local.Goals as goal

pub returns : goal.returns
returns c =
    let at = took_sign c.args.reader.now c.sign.new.self sign.At c.sign.ensures.taken c.sign.ensures.grows in
    let wrote = took_word c.sign.new.self c.word.new.self (codes "TaskLocal") c.word.ensures.taken c.word.ensures.grows in
    let static = took_key c.word.new.self c.key.new.self word.Static c.key.ensures.taken c.key.ensures.grows in
    let var = took_key c.key.new.self c.key-2.new.self word.Var c.key-2.ensures.taken c.key-2.ensures.grows in
    let name = took_name c.key-2.new.self c.name-name.new.self c.name-name.ensures.taken c.name-name.ensures.grows in
    let type = took_call c.name-name.new.self c.annotation-value_type.new.self (λ l i j. SpellsAnnotation l i j c.annotation-value_type.result) c.annotation-value_type.ensures.spelled c.annotation-value_type.ensures.grows in
    let assign = took_sign c.annotation-value_type.new.self c.sign-2.new.self sign.Assign c.sign-2.ensures.taken c.sign-2.ensures.grows in
    let value = took_literal c.sign-2.new.self c.literal-value.new.reader c.literal-value.result c.literal-value.ensures.spelled c.literal-value.ensures.grows in
    let type_stays = lexed_stays (λ l. SpellsAnnotation l c.name-name.new.self.at c.annotation-value_type.new.self.at c.annotation-value_type.result) in
    let behind = then _ _ _ type_stays type (row_then _ _ _ assign value) in
    let all = row_then _ _ _ (rows _ _ _ at (rows _ _ _ wrote (rows _ _ _ static var))) (row_then _ _ _ name behind) in
    let stays = both_stay (row_stays (a_sign sign.At ∷ the_word (codes "TaskLocal") ∷ a_key word.Static ∷ a_key word.Var ∷ []) c.args.reader.now.at c.key-2.new.self.at) (both_stay (row_stays (a_name ∷ []) c.key-2.new.self.at c.name-name.new.self.at) (both_stay type_stays (both_stay (row_stays (a_sign sign.Assign ∷ []) c.annotation-value_type.new.self.at c.sign-2.new.self.at) (literal_stays c.sign-2.new.self.at c.literal-value.new.reader.at c.literal-value.result)))) in
    let before : Rows = rows_of c.args.reader.now.tree.value in
    let made : LocalDecl = record { of = c.args.of; name = c.name-name.result; value_type = c.annotation-value_type.result; value = c.literal-value.result } in
    put_behind c.args.reader.now c.literal-value.new.reader c.put_local.new.reader (λ s. SpellsLocal s c.args.of) (λ r. record r { locals = r.locals ++ made ∷ [] }) stays all c.put_local.ensures.put c.put_local.ensures.continues (λ n a x.
    let own = c.name-name.ensures.taken (behind.grows.refused n) in
    subst (λ p. SpellsLocal a c.args.of c.args.reader.now.at c.literal-value.new.reader.at before (record before { locals = before.locals ++ record { of = c.args.of; name = p; value_type = c.annotation-value_type.result; value = c.literal-value.result } ∷ [] })) (sym own.1) (swift.a_local x.0 x.1.0 x.1.1.0 x.1.1.1.0 x.1.1.1.1))
