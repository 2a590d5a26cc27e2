use Rattle.std.proofs.Common.{codes, subst}
use Rattle.swift_syntax.specs.Declarations.{SpellsMember, rows_of}
use Rattle.swift_syntax.specs.declared.sign.Sign.TheVariants as sign
use Rattle.swift_syntax.specs.declared.word.Word.TheVariants as word
use Rattle.swift_syntax.proofs.Declaring.{executor_of, puts, puts_as, puts_of, same_rows, took_named, named_stays}
use Rattle.swift_syntax.proofs.Statements.{row_stays}
use Rattle.swift_syntax.proofs.Steps.{row_on, row_then, rows, then, took_key, took_sign, took_word}
use Rattle.swift_syntax.proofs.actor.executor.Goals as goal

pub returns : goal.returns
returns c =
    let own = took_key c.args.reader.now c.key.new.self word.Nonisolated c.key.ensures.taken c.key.ensures.grows in
    let keeper = took_key c.key.new.self c.key-2.new.self word.Var c.key-2.ensures.taken c.key-2.ensures.grows in
    let called = took_word c.key-2.new.self c.word.new.self (codes "unownedExecutor") c.word.ensures.taken c.word.ensures.grows in
    let colon = took_sign c.word.new.self c.sign.new.self sign.Colon c.sign.ensures.taken c.sign.ensures.grows in
    let type = took_word c.sign.new.self c.word-2.new.self (codes "UnownedSerialExecutor") c.word-2.ensures.taken c.word-2.ensures.grows in
    let brace = took_sign c.word-2.new.self c.sign-2.new.self sign.OpenBrace c.sign-2.ensures.taken c.sign-2.ensures.grows in
    let front = rows _ _ _ own (rows _ _ _ keeper (rows _ _ _ called (rows _ _ _ colon (rows _ _ _ type brace)))) in
    let name = took_named c.sign-2.new.self c.name-name.new.self c.name-name.ensures.taken c.name-name.ensures.grows in
    let dot = took_sign c.name-name.new.self c.sign-3.new.self sign.Dot c.sign-3.ensures.taken c.sign-3.ensures.grows in
    let asking = took_word c.sign-3.new.self c.word-3.new.self (codes "asUnownedSerialExecutor") c.word-3.ensures.taken c.word-3.ensures.grows in
    let opened = took_sign c.word-3.new.self c.sign-4.new.self sign.Open c.sign-4.ensures.taken c.sign-4.ensures.grows in
    let closed = took_sign c.sign-4.new.self c.sign-5.new.self sign.Close c.sign-5.ensures.taken c.sign-5.ensures.grows in
    let end = took_sign c.sign-5.new.self c.sign-6.new.self sign.CloseBrace c.sign-6.ensures.taken c.sign-6.ensures.grows in
    let behind = rows _ _ _ dot (rows _ _ _ asking (rows _ _ _ opened (rows _ _ _ closed end))) in
    let all = row_then _ _ _ front (then _ _ _ (named_stays _ _ _) name behind) in
    let set = puts _ _ _ (λ s t m d. (row_stays _ _ _ s t m d.0, (named_stays _ _ _ s t m d.1.0, row_stays _ _ _ s t m d.1.1))) (puts_of _ _ all) c.set_executor.ensures in
    puts_as (λ a x. subst (λ j. SpellsMember a c.args.actor c.args.reader.now.at j (rows_of c.args.reader.now.tree.value) (rows_of c.set_executor.new.reader.tree.value)) x.1.0
    (executor_of a x.0.1.0.1 (same_rows _ _ all.grows) x.1.1 x.0.0 (row_on a.lexed x.0.1.0.0 x.0.1.1))) set
