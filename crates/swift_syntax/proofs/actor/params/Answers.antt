use Rattle.std.proofs.Common.{[], ◌∷◌, ◌++◌, refl, ◌∙◌}
use Rattle.swift_syntax.specs.Declarations.{no_params, some_params}
use Rattle.swift_syntax.specs.Statements.{a_sign}
use Rattle.swift_syntax.specs.declared.sign.Sign.TheVariants as sign
use Rattle.swift_syntax.proofs.Declaring.{before_comma, none_yet, param_on, param_put_stays, puts, puts_as, puts_of, rows_none, rows_on, same_rows, so_far_stays}
use Rattle.swift_syntax.proofs.Grown.{grows_same}
use Rattle.swift_syntax.proofs.Steps.{no_row, rows, takes_one, took_same, took_sign}
use Rattle.swift_syntax.proofs.actor.params.Goals as goal

pub returns-then-takes : goal.returns-then-takes
returns-then-takes c =
    let closed = takes_one c.args.reader.now c.takes.new.self (a_sign sign.Close) (c.if-takes.ensures.found.0 refl) c.if-takes.ensures.taken in
    puts_as (λ a x. record { params = []; spelled = no_params x; rows = same_rows _ _ closed.grows ∙ rows_none _ }) (puts_of _ _ closed)

pub loop-init : goal.loop-init
loop-init c =
    let other = took_same c.args.reader.now c.takes.new.self (λ m. c.if-takes.ensures.taken) (rw c.if-takes.ensures.taken (grows_same c.args.reader.now)) in
    puts_as (λ a x. record { params = []; spelled = none_yet (no_row a.lexed x); rows = same_rows _ _ other.grows ∙ rows_none _ }) (puts_of _ _ other)

pub loop-preserved : goal.loop-preserved
loop-preserved c =
    let comma = takes_one c.param.new.reader c.takes-in-loop.new.self (a_sign sign.Comma) (c.if-not-takes.ensures.found.0 refl) c.if-not-takes.ensures.taken in
    let all = puts c.args.reader.now c.loop.reader c.takes-in-loop.new.self (so_far_stays _ _ _ _) c.loop.invariant (puts c.loop.reader c.param.new.reader c.takes-in-loop.new.self (param_put_stays _ _ _ _) c.param.ensures (puts_of _ _ comma)) in
    puts_as (λ a x. record {
      params = x.0.params ++ x.1.0.param ∷ [];
      spelled = before_comma (param_on a.lexed x.0.spelled x.1.0.spelled) x.1.1;
      rows = same_rows _ _ comma.grows ∙ rows_on _ _ _ x.0.params x.1.0.param x.0.rows x.1.0.rows;
    }) all

pub returns-then-not-takes : goal.returns-then-not-takes
returns-then-not-takes c =
    let other = took_same c.param.new.reader c.takes-in-loop.new.self (λ m. c.if-not-takes.ensures.taken) (rw c.if-not-takes.ensures.taken (grows_same c.param.new.reader)) in
    let closed = took_sign c.takes-in-loop.new.self c.sign.new.self sign.Close c.sign.ensures.taken c.sign.ensures.grows in
    let end = rows _ _ _ other closed in
    let all = puts c.args.reader.now c.loop.reader c.sign.new.self (so_far_stays _ _ _ _) c.loop.invariant (puts c.loop.reader c.param.new.reader c.sign.new.self (param_put_stays _ _ _ _) c.param.ensures (puts_of _ _ end)) in
    puts_as (λ a x. record {
      params = x.0.params ++ x.1.0.param ∷ [];
      spelled = some_params (param_on a.lexed x.0.spelled x.1.0.spelled) x.1.1;
      rows = same_rows _ _ end.grows ∙ rows_on _ _ _ x.0.params x.1.0.param x.0.rows x.1.0.rows;
    }) all
