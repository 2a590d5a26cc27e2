use Rattle.std.proofs.Common.{[], subst, sym}
use Rattle.swift_syntax.specs.ReadersInside.{lexed_of}
use Rattle.swift_syntax.specs.Statements.{SpellsAnnotation, SpellsDeclared}
use Rattle.swift_syntax.specs.Statements as swift
use Rattle.swift_syntax.specs.declared.sign.Sign.TheVariants as sign
use Rattle.swift_syntax.proofs.Statements.{lexed_stays}
use Rattle.swift_syntax.proofs.Steps.{row_then, rows, then, took_call, took_name, took_same, took_sign}
use Rattle.swift_syntax.proofs.statement.declared_name.Goals as goal

pub returns : goal.returns
returns c =
    let name = took_name c.args.reader.now c.name-name.new.self c.name-name.ensures.taken c.name-name.ensures.grows in
    let type = took_call c.name-name.new.self c.annotation-found.new.self (λ l i j. SpellsAnnotation l i j c.annotation-found.result) c.annotation-found.ensures.spelled c.annotation-found.ensures.grows in
    let value = took_same c.annotation-found.new.self c.want_value.new.reader c.want_value.ensures.same c.want_value.ensures.grows in
    let even = took_same c.want_value.new.reader c.want_even.new.reader c.want_even.ensures.same c.want_even.ensures.grows in
    let assign = took_sign c.want_even.new.reader c.sign.new.self sign.Assign c.sign.ensures.taken c.sign.ensures.grows in
    let rest = then _ _ _ (lexed_stays (λ l. SpellsAnnotation l c.name-name.new.self.at c.annotation-found.new.self.at c.annotation-found.result)) type (rows _ _ _ value (rows _ _ _ even assign)) in
    let all = row_then _ _ _ name rest in
    record {
      spelled = λ n.
          let place = c.name-name.ensures.taken (rest.grows.refused n) in
          let x = all.holds n [] in
          subst (λ p. SpellsDeclared (lexed_of c.sign.new.self) c.args.reader.now.at c.sign.new.self.at p c.annotation-found.result) (sym place.1) (swift.declared x.0 x.1.0 x.1.1);
      grows = all.grows;
    }
