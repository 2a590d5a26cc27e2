use Rattle.std.proofs.Common.{refl, [], codes}
use Rattle.std.proofs.lemmas.Bool.{false≢true}
use Rattle.swift_syntax.specs.Statements.{SpellsPriority, a_sign}
use Rattle.swift_syntax.specs.Statements as swift
use Rattle.swift_syntax.specs.declared.sign.Sign.TheVariants as sign
use Rattle.swift_syntax.proofs.Steps.{row_then, rows, takes_one, took_name, took_sign, took_word}
use Rattle.swift_syntax.proofs.closure.priority.Goals as goal

pub returns-then-not-takes-clause-spelled : goal.returns-then-not-takes-clause-spelled
returns-then-not-takes-clause-spelled c = λ n. rw c.if-not-takes.ensures.taken (swift.no_priority (λ k. false≢true (c.if-not-takes.ensures.found.1 k)) refl)

pub returns-clause-spelled : goal.returns-clause-spelled
returns-clause-spelled c = λ n.
    let opened = takes_one c.args.reader.now c.takes.new.self (a_sign sign.Open) (c.if-not-takes.ensures.found.0 refl) c.if-not-takes.ensures.taken in
    let word = took_word c.takes.new.self c.word.new.self (codes "priority") c.word.ensures.taken c.word.ensures.grows in
    let colon = took_sign c.word.new.self c.sign.new.self sign.Colon c.sign.ensures.taken c.sign.ensures.grows in
    let dot = took_sign c.sign.new.self c.sign-2.new.self sign.Dot c.sign-2.ensures.taken c.sign-2.ensures.grows in
    let name = took_name c.sign-2.new.self c.name-place.new.self c.name-place.ensures.taken c.name-place.ensures.grows in
    let closed = took_sign c.name-place.new.self c.sign-3.new.self sign.Close c.sign-3.ensures.taken c.sign-3.ensures.grows in
    let both = (row_then _ _ _ (rows _ _ _ opened (rows _ _ _ word (rows _ _ _ colon dot))) (rows _ _ _ name closed)).holds n [] in
    let place = c.name-place.ensures.taken (c.sign-3.ensures.grows.refused n) in
    rw place.1 (swift.of_priority both.0 both.1)
