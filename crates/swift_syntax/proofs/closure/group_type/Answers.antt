use Rattle.std.proofs.Common.{[], codes}
use Rattle.swift_syntax.specs.Statements.{SpellsType}
use Rattle.swift_syntax.specs.Statements as swift
use Rattle.swift_syntax.specs.declared.sign.Sign.TheVariants as sign
use Rattle.swift_syntax.specs.declared.word.Word.TheVariants as word
use Rattle.swift_syntax.proofs.Statements.{lexed_stays}
use Rattle.swift_syntax.proofs.Steps.{row_then, rows, then, took_as, took_call, took_key, took_sign, took_word}
use Rattle.swift_syntax.proofs.closure.group_type.Goals as goal

pub returns : goal.returns
returns c =
    let opened = took_sign c.args.reader.now c.sign.new.self sign.Open c.sign.ensures.taken c.sign.ensures.grows in
    let of = took_word c.sign.new.self c.word.new.self (codes "of") c.word.ensures.taken c.word.ensures.grows in
    let colon = took_sign c.word.new.self c.sign-2.new.self sign.Colon c.sign-2.ensures.taken c.sign-2.ensures.grows in
    let type = took_call c.sign-2.new.self c.value_type-found.new.self (λ l i j. SpellsType l i j c.value_type-found.result) c.value_type-found.ensures.spelled c.value_type-found.ensures.grows in
    let dot = took_sign c.value_type-found.new.self c.sign-3.new.self sign.Dot c.sign-3.ensures.taken c.sign-3.ensures.grows in
    let own = took_key c.sign-3.new.self c.key.new.self word.Own c.key.ensures.taken c.key.ensures.grows in
    let closed = took_sign c.key.new.self c.sign-4.new.self sign.Close c.sign-4.ensures.taken c.sign-4.ensures.grows in
    let all = took_as (λ a x. swift.group_of x.0 x.1.0 x.1.1) (row_then _ _ _ (rows _ _ _ opened (rows _ _ _ of colon)) (then _ _ _ (lexed_stays (λ l. SpellsType l c.sign-2.new.self.at c.value_type-found.new.self.at c.value_type-found.result)) type (rows _ _ _ dot (rows _ _ _ own closed)))) in
    record { spelled = λ n. all.holds n []; grows = all.grows }
