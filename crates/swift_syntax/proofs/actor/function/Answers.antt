use Rattle.std.proofs.Common.{subst}
use Rattle.swift_syntax.specs.Declarations.{SpellsAccess, SpellsMethod, decl_function, nobody, rows_of}
use Rattle.swift_syntax.specs.Statements.{Lexed}
use Rattle.swift_syntax.specs.declared.tree.Access.TheVariants.{Open}
use Rattle.swift_syntax.proofs.Declaring.{puts, puts_as, puts_of, same_rows}
use Rattle.swift_syntax.proofs.Statements.{lexed_stays}
use Rattle.swift_syntax.proofs.Steps.{took_call}
use Rattle.swift_syntax.proofs.actor.function.Goals as goal

pub returns : goal.returns
returns c =
    let A : Lexed → Type 0 = λ l. SpellsAccess l c.args.reader.now.at c.access.new.reader.at c.access.result in
    let who = took_call c.args.reader.now c.access.new.reader (λ l i j. SpellsAccess l i j c.access.result) c.access.ensures.spelled c.access.ensures.grows in
    let all = puts c.args.reader.now c.access.new.reader c.method.new.reader (lexed_stays A) (puts_of _ _ who) c.method.ensures in
    puts_as (λ a x. decl_function x.0 (subst (λ r. SpellsMethod a nobody Open c.access.new.reader.at c.method.new.reader.at r (rows_of c.method.new.reader.tree.value)) (same_rows _ _ who.grows) x.1)) all
