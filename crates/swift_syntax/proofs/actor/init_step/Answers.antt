use Rattle.std.proofs.Common.{[], ◌∷◌, ◌∙◌}
use Rattle.swift_syntax.specs.Declarations.{IsPlain, ReadsSuch, SpellsOwn}
use Rattle.swift_syntax.specs.Statements.{Lexed, Separates, a_sign}
use Rattle.swift_syntax.specs.declared.sign.Sign.TheVariants as sign
use Rattle.swift_syntax.proofs.Declarations.{such_stays}
use Rattle.swift_syntax.proofs.Declaring.{both_stay, named_stays, puts, puts_as, puts_of, same_rows, took_named}
use Rattle.swift_syntax.proofs.Giving.{given_stays, one_of}
use Rattle.swift_syntax.proofs.Statements.{lexed_stays, row_stays}
use Rattle.swift_syntax.proofs.Steps.{Took, row_on, row_then, rows, then, took_call, took_same, took_sign}
use Rattle.swift_syntax.proofs.actor.init_step.Goals as goal

pub returns : goal.returns
returns c =
    let O : Lexed → Type 0 = λ l. SpellsOwn l c.args.reader.now.at c.own-is_own.new.reader.at in
    let own = took_call c.args.reader.now c.own-is_own.new.reader SpellsOwn c.own-is_own.ensures.spelled c.own-is_own.ensures.grows in
    let name = took_named c.own-is_own.new.reader c.name-name.new.self c.name-name.ensures.taken c.name-name.ensures.grows in
    let same = took_same c.name-name.new.self c.want_field.new.reader c.want_field.ensures.same c.want_field.ensures.grows in
    let assign = took_sign c.want_field.new.reader c.sign.new.self sign.Assign c.sign.ensures.taken c.sign.ensures.grows in
    let value : Took c.sign.new.self c.plain-value.new.reader (λ a. ReadsSuch IsPlain a c.sign.new.self.at c.plain-value.new.reader.at c.plain-value.result) = record { grows = c.plain-value.ensures.grows; holds = c.plain-value.ensures.spelled } in
    let front = then _ _ _ (lexed_stays O) own (then _ _ _ (named_stays _ _ _) name (row_then _ _ _ (rows _ _ _ same assign) value)) in
    let end = took_call c.give.new.reader c.separator.new.self Separates c.separator.ensures.spelled c.separator.ensures.grows in
    let stays = both_stay (lexed_stays O) (both_stay (named_stays c.own-is_own.new.reader.at c.name-name.new.self.at c.name-name.result) (both_stay (row_stays (a_sign sign.Assign ∷ []) c.name-name.new.self.at c.sign.new.self.at) (such_stays IsPlain c.sign.new.self.at c.plain-value.new.reader.at c.plain-value.result))) in
    let gives = puts c.plain-value.new.reader c.give.new.reader c.separator.new.self (given_stays _ _ _ _ _ _ _) c.give.ensures (puts_of _ _ end) in
    puts_as (λ a x. one_of a x.0.1.0.1 x.1.0.0 (same_rows _ _ front.grows) (same_rows _ _ end.grows ∙ x.1.0.1) x.0.0 (row_on a.lexed x.0.1.0.0 x.0.1.1.0) x.0.1.1.1 x.1.1) (puts _ _ _ stays (puts_of _ _ front) gives)
