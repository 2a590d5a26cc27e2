use Rattle.swift_executor.proofs.Prelude.{ℕ, Option, IfNone, subst, TaskId, Afresh, FindsNone, IsRefused, StaysWhole}
use Rattle.swift_executor.proofs.TurnsRun.{afresh_after}
use Rattle.swift_executor.proofs.ahead.turns_ahead.Goals as goal

pub returns-in-Ok-None-turn_ahead-clause-none : goal.returns-in-Ok-None-turn_ahead-clause-none
returns-in-Ok-None-turn_ahead-clause-none g c =
    let old = c.args.held.now in
    let mid = c.batch_ahead.new.held in
    let whole : StaysWhole old mid = subst (λ (o : Option (TaskId × ℕ)). IfNone o (StaysWhole old mid)) c.in-Ok-None.field-0-is c.in-Ok-None.ensures.none in
    let new = c.turn_ahead.new.held in
    let found = subst (λ (o : Option TaskId). IfNone o (Afresh FindsNone mid new)) c.in-Ok-None-turn_ahead.field-0-is c.in-Ok-None-turn_ahead.ensures.none in
    afresh_after FindsNone old mid new whole found

pub returns-in-Err-turn_ahead-clause-refused : goal.returns-in-Err-turn_ahead-clause-refused
returns-in-Err-turn_ahead-clause-refused g c =
    let old = c.args.held.now in
    let mid = c.batch_ahead.new.held in
    let whole : StaysWhole old mid = subst (λ (o : Option (TaskId × ℕ)). IfNone o (StaysWhole old mid)) c.in-Ok-None.field-0-is c.in-Ok-None.ensures.none in
    afresh_after (IsRefused c.args.worker c.in-Err-turn_ahead.fault) old mid c.turn_ahead.new.held whole c.in-Err-turn_ahead.ensures.refused
