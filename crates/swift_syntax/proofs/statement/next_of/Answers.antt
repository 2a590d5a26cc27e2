use Rattle.std.proofs.Common.{ℕ, [], codes, subst, sym}
use Rattle.swift_syntax.specs.ReadersInside.{lexed_of}
use Rattle.swift_syntax.specs.Statements.{SpellsNext, SpellsPerhaps}
use Rattle.swift_syntax.specs.Statements as swift
use Rattle.swift_syntax.specs.declared.sign.Sign.TheVariants as sign
use Rattle.swift_syntax.specs.declared.word.Word.TheVariants as word
use Rattle.swift_syntax.proofs.Statements.{lexed_stays}
use Rattle.swift_syntax.proofs.Steps.{row_on, row_then, rows, then, took_key, took_name, took_perhaps, took_sign, took_word}
use Rattle.swift_syntax.proofs.statement.next_of.Goals as goal

pub returns : goal.returns
returns c =
    let declares = took_key c.args.reader.now c.key.new.self word.Let c.key.ensures.taken c.key.ensures.grows in
    let name = took_name c.key.new.self c.name-name.new.self c.name-name.ensures.taken c.name-name.ensures.grows in
    let assign = took_sign c.name-name.new.self c.sign.new.self sign.Assign c.sign.ensures.taken c.sign.ensures.grows in
    let tries = took_perhaps c.sign.new.self c.takes_key-is_tried.new.self word.Try c.takes_key-is_tried.result c.takes_key-is_tried.ensures.found c.takes_key-is_tried.ensures.taken in
    let awaits = took_key c.takes_key-is_tried.new.self c.key-2.new.self word.Await c.key-2.ensures.taken c.key-2.ensures.grows in
    let group = took_name c.key-2.new.self c.name-group.new.self c.name-group.ensures.taken c.name-group.ensures.grows in
    let dot = took_sign c.name-group.new.self c.sign-2.new.self sign.Dot c.sign-2.ensures.taken c.sign-2.ensures.grows in
    let next = took_word c.sign-2.new.self c.word.new.self (codes "next") c.word.ensures.taken c.word.ensures.grows in
    let opened = took_sign c.word.new.self c.sign-3.new.self sign.Open c.sign-3.ensures.taken c.sign-3.ensures.grows in
    let closed = took_sign c.sign-3.new.self c.sign-4.new.self sign.Close c.sign-4.ensures.taken c.sign-4.ensures.grows in
    let behind_group = rows _ _ _ dot (rows _ _ _ next (rows _ _ _ opened closed)) in
    let awaited = row_then _ _ _ awaits (rows _ _ _ group behind_group) in
    let tried = then _ _ _ (lexed_stays (λ l. SpellsPerhaps l word.Try c.sign.new.self.at c.takes_key-is_tried.new.self.at c.takes_key-is_tried.result)) tries awaited in
    let behind_name = row_then _ _ _ assign tried in
    let named = row_then _ _ _ name behind_name in
    let all = row_then _ _ _ declares named in
    record {
      spelled = λ n.
          let own = c.name-name.ensures.taken (behind_name.grows.refused n) in
          let its = c.name-group.ensures.taken (behind_group.grows.refused n) in
          let x = all.holds n [] in
          let P : ℕ → ℕ → Type 0 = λ p q. SpellsNext (lexed_of c.sign-4.new.self) c.args.reader.now.at c.sign-4.new.self.at p q c.takes_key-is_tried.result in
          subst (λ p. P p c.name-group.result) (sym own.1) (subst (P c.key.new.self.at) (sym its.1) (swift.next_of x.0 (row_on _ x.1.0 x.1.1.0) x.1.1.1.0 x.1.1.1.1.0 x.1.1.1.1.1));
      grows = all.grows;
    }
