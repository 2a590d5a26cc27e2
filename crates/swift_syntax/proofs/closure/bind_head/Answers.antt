use Rattle.std.proofs.Common.{ℕ, codes, subst, sym}
use Rattle.swift_syntax.specs.ReadersInside.{Adds}
use Rattle.swift_syntax.specs.Statements.{SpellsHead}
use Rattle.swift_syntax.specs.Statements as swift
use Rattle.swift_syntax.specs.declared.closure.HeadForm.TheVariants as head
use Rattle.swift_syntax.specs.declared.sign.Sign.TheVariants as sign
use Rattle.swift_syntax.proofs.Statements.{expr_stays}
use Rattle.swift_syntax.proofs.Steps.{adds_of, row_on, row_then, rows, then, took_as, took_expr, took_name, took_sign, took_word}
use Rattle.swift_syntax.proofs.closure.bind_head.Goals as goal

pub returns : goal.returns
returns c =
    let of = took_name c.args.reader.now c.name-of.new.self c.name-of.ensures.taken c.name-of.ensures.grows in
    let dot = took_sign c.name-of.new.self c.sign.new.self sign.Dot c.sign.ensures.taken c.sign.ensures.grows in
    let dollar = took_sign c.sign.new.self c.sign-2.new.self sign.Dollar c.sign-2.ensures.taken c.sign-2.ensures.grows in
    let name = took_name c.sign-2.new.self c.name-name.new.self c.name-name.ensures.taken c.name-name.ensures.grows in
    let second = took_sign c.name-name.new.self c.sign-3.new.self sign.Dot c.sign-3.ensures.taken c.sign-3.ensures.grows in
    let word = took_word c.sign-3.new.self c.word.new.self (codes "withValue") c.word.ensures.taken c.word.ensures.grows in
    let opened = took_sign c.word.new.self c.sign-4.new.self sign.Open c.sign-4.ensures.taken c.sign-4.ensures.grows in
    let value = took_expr c.sign-4.new.self c.expression-value.new.reader c.expression-value.result c.expression-value.ensures.spelled c.expression-value.ensures.grows in
    let closed = took_sign c.expression-value.new.reader c.sign-5.new.self sign.Close c.sign-5.ensures.taken c.sign-5.ensures.grows in
    let rest = row_then _ _ _ (rows _ _ _ second (rows _ _ _ word opened)) (then _ _ _ (expr_stays c.sign-4.new.self.at c.expression-value.new.reader.at c.expression-value.result) value closed) in
    let named = row_then _ _ _ name rest in
    let dots = rows _ _ _ dot dollar in
    let behind_of = row_then _ _ _ dots named in
    let all = row_then _ _ _ of behind_of in
    let read = took_as (λ a x. swift.bind (row_on a.lexed x.0 x.1.0) (row_on a.lexed x.1.1.0 x.1.1.1.0) x.1.1.1.1.0 x.1.1.1.1.1) all in
    record {
      spelled = λ n.
          let place = c.name-name.ensures.taken (rest.grows.refused n) in
          let owner = c.name-of.ensures.taken (behind_of.grows.refused n) in
          let P : ℕ → ℕ → Type 0 = λ x y. Adds c.args.reader.now c.sign-5.new.self (λ a. SpellsHead a c.args.reader.now.at c.sign-5.new.self.at (head.Bind x c.expression-value.result) y) in
          subst (λ x. P x c.name-name.result) (sym owner.1) (subst (P c.args.reader.now.at) (sym place.1) (adds_of _ _ read n));
      grows = all.grows;
    }
