use Rattle.std.proofs.Common.{[], refl}
use Rattle.std.proofs.lemmas.Bool.{false≢true}
use Rattle.swift_syntax.specs.Declarations.{bare, behind_self}
use Rattle.swift_syntax.specs.Statements.{a_key}
use Rattle.swift_syntax.specs.declared.sign.Sign.TheVariants as sign
use Rattle.swift_syntax.specs.declared.word.Word.TheVariants as word
use Rattle.swift_syntax.proofs.Steps.{rows, takes_one, took_sign}
use Rattle.swift_syntax.proofs.actor.own.Goals as goal

pub returns-then-takes_key-clause-spelled : goal.returns-then-takes_key-clause-spelled
returns-then-takes_key-clause-spelled c = λ n.
    let key = takes_one c.args.reader.now c.takes_key.new.self (a_key word.Own) (c.if-takes_key.ensures.found.0 refl) c.if-takes_key.ensures.taken in
    let dot = took_sign c.takes_key.new.self c.sign.new.self sign.Dot c.sign.ensures.taken c.sign.ensures.grows in
    behind_self ((rows _ _ _ key dot).holds n [])

pub returns-clause-spelled : goal.returns-clause-spelled
returns-clause-spelled c = λ n. rw c.if-takes_key.ensures.taken (bare (λ k. false≢true (c.if-takes_key.ensures.found.1 k)) refl)
