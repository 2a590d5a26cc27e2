use Rattle.std.proofs.Common.{refl, subst, sym}
use Rattle.swift_syntax.specs.ReadersInside.{ListsNames, source_with}
use Rattle.swift_syntax.specs.Statements.{SpellsFront, a_sign}
use Rattle.swift_syntax.specs.Statements as swift
use Rattle.swift_syntax.specs.declared.sign.Sign.TheVariants as sign
use Rattle.swift_syntax.specs.declared.word.Word.TheVariants as word
use Rattle.swift_syntax.proofs.Grown.{grows_same}
use Rattle.swift_syntax.proofs.Steps.{Took, line_first, line_stays, row_on, row_then, rows, takes_one, then, took_key, took_line, took_name, took_same, took_sign}
use Rattle.swift_syntax.proofs.closure.closure_front.Goals as goal

pub returns-then-takes : goal.returns-then-takes
returns-then-takes c =
    let line = took_line c.args.reader.now c.on_line.new.self c.on_line.ensures.same c.on_line.ensures.line c.on_line.ensures.grows in
    let brace = took_sign c.on_line.new.self c.sign.new.self sign.OpenBrace c.sign.ensures.taken c.sign.ensures.grows in
    let bracket = takes_one c.sign.new.self c.takes.new.self (a_sign sign.OpenBracket) (c.if-takes.ensures.found.0 refl) c.if-takes.ensures.taken in
    let names : Took c.takes.new.self c.captured.new.reader (λ a. ListsNames a.lexed a.table c.takes.new.self.at c.captured.new.reader.at c.captured.result) = record { grows = c.captured.ensures.grows; holds = λ n xs. c.captured.ensures.spelled n } in
    let all = then _ _ _ (line_stays c.args.reader.now.at c.on_line.new.self.at) line (row_then _ _ _ (rows _ _ _ brace bracket) names) in
    record {
      spelled = λ n xs.
          let x = all.holds n xs in
          subst (λ f. SpellsFront (source_with c.captured.new.reader xs) c.args.reader.now.at c.captured.new.reader.at f.captures f.parameter) (sym c.opened.ensures) (swift.listed (line_first _ x.0.0 x.0.1) (row_on _ x.0.0 x.1.0) x.1.1.spelled x.1.1.stand);
      grows = all.grows;
    }

pub returns-then-is_key_at : goal.returns-then-is_key_at
returns-then-is_key_at c =
    let line = took_line c.args.reader.now c.on_line.new.self c.on_line.ensures.same c.on_line.ensures.line c.on_line.ensures.grows in
    let brace = took_sign c.on_line.new.self c.sign.new.self sign.OpenBrace c.sign.ensures.taken c.sign.ensures.grows in
    let other = took_same c.sign.new.self c.takes.new.self (λ m. c.if-takes.ensures.taken) (rw c.if-takes.ensures.taken (grows_same c.sign.new.self)) in
    let name = took_name c.takes.new.self c.name-parameter.new.self c.name-parameter.ensures.taken c.name-parameter.ensures.grows in
    let key = took_key c.name-parameter.new.self c.key.new.self word.In c.key.ensures.taken c.key.ensures.grows in
    let all = then _ _ _ (line_stays c.args.reader.now.at c.on_line.new.self.at) line (row_then _ _ _ (rows _ _ _ brace other) (rows _ _ _ name key)) in
    record {
      spelled = λ n xs.
          let place = c.name-parameter.ensures.taken (key.grows.refused n) in
          let x = all.holds n xs in
          subst (λ f. SpellsFront (source_with c.key.new.self xs) c.args.reader.now.at c.key.new.self.at f.captures f.parameter) (sym c.opened-then-is_key_at.ensures) (subst (λ p. SpellsFront (source_with c.key.new.self xs) c.args.reader.now.at c.key.new.self.at 0 p) (sym place.1) (swift.with_parameter (line_first _ x.0.0 x.0.1) (row_on _ x.0.0 x.1.0) x.1.1));
      grows = all.grows;
    }

pub returns : goal.returns
returns c =
    let line = took_line c.args.reader.now c.on_line.new.self c.on_line.ensures.same c.on_line.ensures.line c.on_line.ensures.grows in
    let brace = took_sign c.on_line.new.self c.sign.new.self sign.OpenBrace c.sign.ensures.taken c.sign.ensures.grows in
    let other = took_same c.sign.new.self c.takes.new.self (λ m. c.if-takes.ensures.taken) (rw c.if-takes.ensures.taken (grows_same c.sign.new.self)) in
    let all = then _ _ _ (line_stays c.args.reader.now.at c.on_line.new.self.at) line (rows _ _ _ brace other) in
    record {
      spelled = λ n xs.
          let x = all.holds n xs in
          subst (λ f. SpellsFront (source_with c.takes.new.self xs) c.args.reader.now.at c.takes.new.self.at f.captures f.parameter) (sym c.opened-2.ensures) (swift.without (line_first _ x.0.0 x.0.1) (row_on _ x.0.0 x.1));
      grows = all.grows;
    }
