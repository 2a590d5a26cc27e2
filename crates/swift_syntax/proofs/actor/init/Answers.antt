use Rattle.std.proofs.Common.{subst}
use Rattle.swift_syntax.specs.Declarations.{SpellsMember, rows_of}
use Rattle.swift_syntax.specs.declared.sign.Sign.TheVariants as sign
use Rattle.swift_syntax.specs.declared.word.Word.TheVariants as word
use Rattle.swift_syntax.proofs.Declaring.{params_stay, puts, puts_as, row_puts, same_rows}
use Rattle.swift_syntax.proofs.Giving.{all_stay, init_of}
use Rattle.swift_syntax.proofs.Steps.{rows, took_key, took_same, took_sign}
use Rattle.swift_syntax.proofs.actor.init.Goals as goal

pub returns : goal.returns
returns c =
    let same = took_same c.args.reader.now c.want_first_init.new.reader c.want_first_init.ensures.same c.want_first_init.ensures.grows in
    let key = took_key c.want_first_init.new.reader c.key.new.self word.Init c.key.ensures.taken c.key.ensures.grows in
    let opened = took_sign c.key.new.self c.sign.new.self sign.Open c.sign.ensures.taken c.sign.ensures.grows in
    let front = rows _ _ _ same (rows _ _ _ key opened) in
    let brace = took_sign c.params.new.reader c.sign-2.new.self sign.OpenBrace c.sign-2.ensures.taken c.sign-2.ensures.grows in
    let set = puts c.sign-2.new.self c.init_steps.new.reader c.set_init.new.reader (all_stay _ _ _ _ _) c.init_steps.ensures c.set_init.ensures in
    let behind = puts c.sign.new.self c.params.new.reader c.set_init.new.reader (params_stay _ _ _ _) c.params.ensures (row_puts c.params.new.reader c.sign-2.new.self c.set_init.new.reader brace set) in
    puts_as (λ a x. subst (λ j. SpellsMember a c.args.actor c.args.reader.now.at j (rows_of c.args.reader.now.tree.value) (rows_of c.set_init.new.reader.tree.value)) x.1.1.1.1.0
    (init_of a x.1.1.1.0 (same_rows _ _ front.grows) x.1.0.rows (same_rows _ _ brace.grows) x.1.1.1.1.1 c.params_len-first_param.ensures c.params_len-params_end.ensures x.0 x.1.0.spelled x.1.1.0)) (row_puts c.args.reader.now c.sign.new.self c.set_init.new.reader front behind)
