use Rattle.std.proofs.Common.{[], codes, refl}
use Rattle.std.proofs.lemmas.Bool.{false≢true}
use Rattle.swift_syntax.specs.Statements as swift
use Rattle.swift_syntax.specs.declared.sign.Sign.TheVariants as sign
use Rattle.swift_syntax.proofs.Steps.{rows, took_name, took_same, took_sign, took_word}
use Rattle.swift_syntax.proofs.statement.into_of.Goals as goal

pub returns-then-is_sign_ahead-clause-spelled : goal.returns-then-is_sign_ahead-clause-spelled
returns-then-is_sign_ahead-clause-spelled c = λ n.
    let word = took_word c.args.reader.now c.word.new.self (codes "_") c.word.ensures.taken c.word.ensures.grows in
    let even = took_same c.word.new.self c.want_even.new.reader c.want_even.ensures.same c.want_even.ensures.grows in
    let assign = took_sign c.want_even.new.reader c.sign.new.self sign.Assign c.sign.ensures.taken c.sign.ensures.grows in
    swift.let_go ((rows _ _ _ word (rows _ _ _ even assign)).holds n [])

pub returns-then-is_sign_ahead-2-clause-spelled : goal.returns-then-is_sign_ahead-2-clause-spelled
returns-then-is_sign_ahead-2-clause-spelled c = λ n.
    let name = took_name c.args.reader.now c.name-name.new.self c.name-name.ensures.taken c.name-name.ensures.grows in
    let assign = took_sign c.name-name.new.self c.sign-then-is_sign_ahead-2.new.self sign.Assign c.sign-then-is_sign_ahead-2.ensures.taken c.sign-then-is_sign_ahead-2.ensures.grows in
    let place = c.name-name.ensures.taken (c.sign-then-is_sign_ahead-2.ensures.grows.refused n) in
    rw place.1 (swift.by_name ((rows _ _ _ name assign).holds n []))

pub returns-clause-spelled : goal.returns-clause-spelled
returns-clause-spelled c = λ n. swift.not_kept (λ k. false≢true ((c.if-is_sign_ahead-2.ensures refl).1 k)) refl
