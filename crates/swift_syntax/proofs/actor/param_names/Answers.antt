use Rattle.std.proofs.Common.{◌≡◌, ◌∙◌, [], ap, refl, subst, sym}
use Rattle.swift_syntax.specs.Declarations.{label_of}
use Rattle.swift_syntax.specs.ReadersInside.{lexed_of}
use Rattle.swift_syntax.specs.Statements.{a_sign}
use Rattle.swift_syntax.specs.declared.sign.Sign.TheVariants as sign
use Rattle.swift_syntax.proofs.Declaring.{param_one, param_two}
use Rattle.swift_syntax.proofs.Grown.{extends_of, grows_same}
use Rattle.swift_syntax.proofs.Steps.{lexed_on, rows, takes_one, took_name, took_same, took_sign}
use Rattle.swift_syntax.proofs.actor.param_names.Goals as goal

pub returns-then-takes-clause-spelled : goal.returns-then-takes-clause-spelled
returns-then-takes-clause-spelled c = λ n k t d.
    let name = took_name c.args.reader.now c.name-first.new.self c.name-first.ensures.taken c.name-first.ensures.grows in
    let colon = takes_one c.name-first.new.self c.takes.new.self (a_sign sign.Colon) (c.if-takes.ensures.found.0 refl) c.if-takes.ensures.taken in
    let place = c.name-first.ensures.taken (colon.grows.refused n) in
    let its = subst (λ p. c.label-label.result ≡ label_of (lexed_of c.name-first.new.self) p) place.1 c.label-label.ensures in
    let label = subst (λ l. c.label-label.result ≡ label_of l c.args.reader.now.at) (sym (lexed_on _ _ (extends_of colon.grows))) its in
    param_one (lexed_of c.takes.new.self) label place.1 ((rows _ _ _ name colon).holds n []) d

pub returns-clause-spelled : goal.returns-clause-spelled
returns-clause-spelled c = λ n k t d.
    let name = took_name c.args.reader.now c.name-first.new.self c.name-first.ensures.taken c.name-first.ensures.grows in
    let other = took_same c.name-first.new.self c.takes.new.self (λ m. c.if-takes.ensures.taken) (rw c.if-takes.ensures.taken (grows_same c.name-first.new.self)) in
    let second = took_name c.takes.new.self c.name-name.new.self c.name-name.ensures.taken c.name-name.ensures.grows in
    let colon = took_sign c.name-name.new.self c.sign.new.self sign.Colon c.sign.ensures.taken c.sign.ensures.grows in
    let rest = rows _ _ _ other (rows _ _ _ second colon) in
    let place = c.name-first.ensures.taken (rest.grows.refused n) in
    let next = c.name-name.ensures.taken (colon.grows.refused n) in
    let its = subst (λ p. c.label-label.result ≡ label_of (lexed_of c.name-first.new.self) p) place.1 c.label-label.ensures in
    let label = subst (λ l. c.label-label.result ≡ label_of l c.args.reader.now.at) (sym (lexed_on _ _ (extends_of rest.grows))) its in
    param_two (lexed_of c.sign.new.self) label (next.1 ∙ ap (λ x. x.at) c.if-takes.ensures.taken ∙ ap (λ x. x.at) place.2) ((rows _ _ _ name rest).holds n []) d
